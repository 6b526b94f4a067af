use Rattle.std.proofs.Common.{◌≡◌, ◌+◌, ◌∷◌, ◌++◌, drop, get_or, sym, ap, ◌∙◌}
use Rattle.std.proofs.lemmas.List.{drop_more}
use Rattle.rule_order.specs.Orders.{cells_at}
use Rattle.rule_order.proofs.ValueLemmas.{looked-up}
use Rattle.mpp_inline.specs.inner.Cells.{picked}
use Rattle.mpp_inline.proofs.ListLemmas.{snoc-append}
use Rattle.mpp_inline.proofs.rules.pick_defined.Goals as goal

pub loop-position-preserved : goal.loop-position-preserved
loop-position-preserved c =
    let base = c.args.ordered.now.base in
    let items = c.as_slice-position-items.result.now in
    let i = c.loop-position.position-index in
    let e = c.args.env.now in
    let rest = drop (i + 1) items in
    let before = c.loop-position.entries.items in
    let found = looked-up base c.args.ordered.now.sequence items c.as_slice-definitions.result.now i c.index-definitions-position.result c.requires
    c.as_slice-definitions.ensures c.as_slice-position-items.ensures c.loop-position-test.true c.index-definitions-position.is in
    let next : drop i items ≡ get_or items i 0 ∷ rest = drop_more items i 0 c.loop-position-test.true in
    ap (λ l. l ++ picked 0 (cells_at base rest) e) c.in_ok-push.ensures.items
    ∙ snoc-append before _ (picked 0 (cells_at base rest) e)
    ∙ (λ j. before ++ (found.1 j, (c.look.ensures ∙ ap (λ x. get_or e x 0) found.1) j) ∷ picked 0 (cells_at base rest) e)
    ∙ ap (λ ps. before ++ picked 0 (cells_at base ps) e) (sym next)
    ∙ c.loop-position.invariant
