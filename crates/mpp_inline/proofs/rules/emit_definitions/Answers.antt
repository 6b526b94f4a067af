use Rattle.std.proofs.Common.{◌≡◌, ◌+◌, ◌∷◌, [], drop, get_or, set, sym, ap, ◌∙◌, subst, arith}
use Rattle.std.proofs.lemmas.List.{drop_more}
use Rattle.micro_m.specs.Bases.{target_at, term_at}
use Rattle.micro_m.specs.Values.{term_value}
use Rattle.rule_order.specs.Orders.{cells_at}
use Rattle.rule_order.proofs.ValueLemmas.{looked-up}
use Rattle.mpp_inline.specs.inner.Growth.{Sane, Known, TermStep, Computed, SameButSome, computed}
use Rattle.driver_core.specs.Weights.{tree_weight}
use Rattle.mpp_inline.specs.inner.Sizes.{positions_weight}
use Rattle.mpp_inline.proofs.ListLemmas.{some-next, same-put}
use Rattle.mpp_inline.proofs.StageLemmas.{computed-next}
use Rattle.mpp_inline.proofs.rules.emit_definitions.Goals as goal

pub loop-position-preserved : goal.loop-position-preserved
loop-position-preserved c =
    let base = c.args.ordered.now.base in
    let b = c.args.b.now in
    let e = c.args.env.now in
    let f = c.loop-position.env in
    let items = c.as_slice-position-items.result.now in
    let sequence = c.args.ordered.now.sequence in
    let i = c.loop-position.position-index in
    let p = get_or items i 0 in
    let rest = drop (i + 1) items in
    let found = looked-up base sequence items c.as_slice-definitions.result.now i c.index-definitions-position.result c.requires.order
    c.as_slice-definitions.ensures c.as_slice-position-items.ensures c.loop-position-test.true c.index-definitions-position.is in
    let next : drop i items ≡ p ∷ rest = drop_more items i 0 c.loop-position-test.true in
    let k = c.in_ok-number.number in
    let put' = c.put.ensures ∙ ap (λ x. set f x k) found.1 in
    let term = subst (λ t. Sane c.loop-position.b → Known c.loop-position.b f → TermStep c.loop-position.b c.emit_term.new.b f (λ y. term_value y t) k) found.2
    c.in_ok-number.ensures.step in
    record {
      step = λ s kn. subst (λ env. Computed b c.emit_term.new.b e env (computed base rest) (computed base sequence)) (sym put')
          (computed-next (λ y. term_value y (term_at base p)) (target_at base p)
          (subst (λ ps. Computed b c.loop-position.b e f (computed base ps) (computed base sequence)) next (c.loop-position.invariant.step s kn)) term);
      frame = subst (λ env. SameButSome (cells_at base rest) (cells_at base sequence) e env) (sym put')
          (some-next (target_at base p ∷ []) (cells_at base rest) (cells_at base sequence) e f _
          (subst (λ ps. SameButSome (cells_at base ps) (cells_at base sequence) e f) next c.loop-position.invariant.frame)
          (same-put (target_at base p) k f));
      size = omega (arith, c.loop-position.invariant.size, ap (positions_weight base) next, c.in_ok-number.ensures.size, ap tree_weight found.2);
    }

pub emit_term-requires : goal.emit_term-requires
emit_term-requires c =
    let base = c.args.ordered.now.base in
    let items = c.as_slice-position-items.result.now in
    let i = c.loop-position.position-index in
    let found = looked-up base c.args.ordered.now.sequence items c.as_slice-definitions.result.now i c.index-definitions-position.result c.requires.order
    c.as_slice-definitions.ensures c.as_slice-position-items.ensures c.loop-position-test.true c.index-definitions-position.is in
    let next : drop i items ≡ get_or items i 0 ∷ drop (i + 1) items = drop_more items i 0 c.loop-position-test.true in
    omega (arith, c.requires.room, c.loop-position.invariant.size, ap (positions_weight base) next, ap tree_weight found.2)
