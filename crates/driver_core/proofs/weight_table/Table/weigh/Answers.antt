use Rattle.std.proofs.Common.{◌≡◌, ◌<◌, length, get_or, ap, ◌∙◌, subst, arith}
use Rattle.driver_core.specs.ActionView.{block_of}
use Rattle.driver_core.specs.Valid.{body_of}
use Rattle.driver_core.specs.Weights.{block_weight}
use Rattle.driver_core.specs.inner.Capped.{capped}
use Rattle.driver_core.specs.inner.WeightTable.{IsDone, CallsOnly}
use Rattle.driver_core.proofs.TableLemmas.{table-next, found-body}
use Rattle.driver_core.proofs.weight_table.Table.weigh.Goals as goal

pub returns-clause-table : goal.returns-clause-table
returns-clause-table c = λ base er ec t.
    let core = c.args.core.now in
    let f = c.args.function in
    let bodies = c.as_slice-bodies.result.now in
    let weights = c.args.self.now.weights.items in
    let done = c.args.self.now.done.items in
    let low : f < length weights = omega (arith, c.if-place-len-2.false, c.len-else-place-len.ensures, c.args.self.now.weights.ok.0) in
    let there : f < length bodies = omega (arith, c.if-place-bodies.false) in
    let body : block_of c.as_slice-body.result.now ≡ body_of core f = ap block_of c.as_slice-body.ensures
    ∙ found-body core bodies f _ c.index-bodies-place.result c.as_slice-bodies.ensures there c.index-bodies-place.is in
    let calls : CallsOnly (IsDone done) (body_of core f) = subst (CallsOnly (IsDone done)) body
    (subst (λ l. CallsOnly (IsDone l) (block_of c.as_slice-body.result.now)) c.deref.ensures.value
    (c.calls_are_done.ensures c.if-not-calls_are_done.false)) in
    let weighed : c.weigh_block.result ≡ capped (block_weight c.args.rules base.cells (λ g. get_or weights g 0) (body_of core f)) =
    c.weigh_block.ensures ∙ (λ i. capped (block_weight c.args.rules (ec i) (λ g. get_or (c.deref-2.ensures.value i) g 0) (body i))) in
    table-next core base weights done c.args.self.now.count f c.args.rules c.weigh_block.result low er calls weighed t
