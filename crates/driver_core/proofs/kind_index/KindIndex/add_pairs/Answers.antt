use Rattle.std.proofs.Common.{◌≡◌, ◌-◌, ◌∷◌, ◌++◌, [], ℕ, ℤ, List, cond, not, drop, sym, subst, arith}
use mathlib.Core.Bool.{◌||◌, ◌&&◌}
use Rattle.std.specs.Option.{is_some}
use Rattle.std.specs.Str.{bytes_eq}
use Rattle.std.specs.Ordering.{int_eq}
use Rattle.m_names.specs.Names.{has}
use Rattle.m_symbols.specs.Kinds.{last_value, is_one_of}
use Rattle.driver_core.specs.Groups.{group_in}
use Rattle.driver_core.proofs.Adding.{back-one, one-seen, one-taken}
use Rattle.driver_core.proofs.kind_index.KindIndex.add_pairs.Goals as goal

pub loop-left-preserved : goal.loop-left-preserved
loop-left-preserved c =
    let v = c.loop-left.invariant in
    let pairs = c.args.pairs.now in
    let pair = c.index-pairs-left.result in
    let rest = drop c.loop-left.left pairs in
    let first = c.args.self.now in
    let now = c.add_pair.new.self in
    let cell = c.args.cell in
    let front : drop (c.loop-left.left - 1) pairs ≡ pair ∷ rest = back-one pairs c.loop-left.left pair (omega (arith, c.loop-left-test.true)) v.within
    c.index-pairs-left.is in
    let done = c.in_ok-add_pair.ensures in
    let seen = subst (λ (x : List ℕ). (a : List ℕ) → has a c.add_pair.new.seen ≡ (has a c.loop-left.seen || bytes_eq a x)) c.bytes.ensures done.seen in
    let added = subst (λ (x : List ℕ). (a : List ℕ) (n : ℤ) → group_in now a n ≡ group_in c.loop-left.self a n
    ++ cond (not (has x c.loop-left.seen) && (bytes_eq a x && int_eq pair.1 n)) (cell ∷ []) []) c.bytes.ensures done.added in
    record {
      within = omega (arith, v.within);
      numbered = done.numbered;
      seen = subst (λ (ps : List (List ℕ × ℤ)). (a : List ℕ) → has a c.add_pair.new.seen ≡ is_some (last_value a ps)) (sym front)
          (one-seen rest pair c.loop-left.seen c.add_pair.new.seen v.seen seen);
      added = subst (λ (ps : List (List ℕ × ℤ)). (a : List ℕ) (n : ℤ) → group_in now a n ≡ group_in first a n ++ cond (is_one_of (last_value a ps) (n ∷ []))
          (cell ∷ []) []) (sym front)
          (one-taken rest pair c.loop-left.seen cell first c.loop-left.self now v.seen v.added added);
    }
