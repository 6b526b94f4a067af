use Rattle.std.proofs.Common.{◌≡◌, ◌-◌, ◌∷◌, drop, sym, ap, ◌∙◌, arith}
use mathlib.Core.Bool.{◌||◌}
use Rattle.std.specs.BTreeSet.{contains}
use Rattle.std.specs.List.{list_any}
use Rattle.std.specs.Ordering.{int_cmp, int_eq}
use Rattle.driver_core.specs.Ascending.{times}
use Rattle.driver_core.specs.Groups.{joined, group_at, groups_at}
use Rattle.driver_core.proofs.Adding.{back-one}
use Rattle.driver_core.proofs.GroupLemmas.{kept-turn}
use Rattle.driver_core.proofs.kind_cells.kept_values.Goals as goal

pub loop-left-preserved : goal.loop-left-preserved
loop-left-preserved c =
    let v = c.loop-left.invariant in
    let index = c.args.index.now in
    let a = c.args.attribute in
    let values = c.args.values.now in
    let x = c.index-values-left.result in
    let rest = drop c.loop-left.left values in
    let front : drop (c.loop-left.left - 1) values ≡ x ∷ rest = back-one values c.loop-left.left x (omega (arith, c.loop-left-test.true)) v.within
    c.index-values-left.is in
    let done = c.in_ok-count.ensures in
    record {
      within = omega (arith, v.within);
      seen = λ q. done.seen q ∙ ap (λ b. int_eq q x || b) (v.seen q) ∙ ap (list_any (int_eq q)) (sym front);
      kept = λ cell.
          kept-turn cell (joined index a c.loop-left.kept.items) (joined index a c.keep_once.new.kept.items) (group_at index a x) (groups_at index a rest)
          (contains int_cmp c.loop-left.seen x) (list_any (int_eq x) rest)
          done.kept (v.seen x) (v.kept cell)
          ∙ ap (λ l. times cell (groups_at index a l)) (sym front);
      count = done.count;
    }
