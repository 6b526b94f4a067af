use Rattle.std.proofs.Common.{◌+◌, ◌*◌, ◌<◌, ◌≤◌, subst, ap, arith}
use Rattle.std.proofs.lemmas.Result.{on_ok_weaker}
use Rattle.std.specs.Prelude.{IfOk}
use Rattle.micro_m.specs.Trees.{cell}
use Rattle.micro_m.specs.Leaves.{written}
use Rattle.micro_m.specs.Values.{term_value}
use Rattle.micro_m.proofs.LeafLemmas.{written-same}
use Rattle.driver_core.specs.Weights.{tree_weight}
use Rattle.mpp_inline.specs.inner.Growth.{Sane, Known, TermStep}
use Rattle.mpp_inline.specs.inner.Sizes.{load}
use Rattle.mpp_inline.proofs.terms.emit_term.Goals as goal

pub emit_tree-requires : goal.emit_tree-requires
emit_tree-requires c = omega (arith, c.requires, ap tree_weight (written-same c.args.term.now))

pub returns-clause-step : goal.returns-clause-step
returns-clause-step c =
    let b = c.args.b.now in
    let e = c.args.env.now in
    subst (λ t. IfOk c.emit_tree.result (λ k. Sane b → Known b e → TermStep b c.emit_tree.new.b e (λ y. term_value y t) k))
    (written-same c.args.term.now) c.emit_tree.ensures.step

pub returns-clause-size : goal.returns-clause-size
returns-clause-size c =
    let old = load c.args.b.now in
    let new = load c.emit_tree.new.b in
    let t = c.args.term.now in
    on_ok_weaker c.emit_tree.result
    (λ (m : new < old + 2 * tree_weight (written cell t)).
    let goal' : new ≤ old + 2 * tree_weight t = omega (arith, m, ap tree_weight (written-same t)) in goal')
    c.emit_tree.ensures.size
