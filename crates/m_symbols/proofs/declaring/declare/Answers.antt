use Rattle.std.proofs.lemmas.Result.{err_from_is_err_and}
use Rattle.m_symbols.specs.inner.Tables.{declared_in}
use Rattle.m_symbols.proofs.Counts.{room}
use Rattle.m_symbols.proofs.Turns.{turn, stop}
use Rattle.m_symbols.proofs.declaring.declare.Goals as goal

pub declare_item-requires-clause-room : goal.declare_item-requires-clause-room
declare_item-requires-clause-room c = room c.args.items.now c.loop-item.item-index c.loop-item.tables c.requires c.loop-item-test.true
    c.loop-item.invariant.declared

pub loop-item-preserved : goal.loop-item-preserved
loop-item-preserved c =
    let v = c.loop-item.invariant in
    let done = c.in_ok-declare_item.ensures in
    let next = turn c.args.items.now c.loop-item.item-index c.item-item.result (declared_in c.loop-item.tables) (declared_in c.declare_item.new.tables) _
    c.loop-item-test.true c.item-item.is v.declared v.fault done.outcome done.declared in
    record { indexed = done.indexed; declared = next.0; fault = next.1 }

pub returns-in_err-declare_item : goal.returns-in_err-declare_item
returns-in_err-declare_item c =
    let v = c.loop-item.invariant in
    let p = err_from_is_err_and c.from_residual.result c.from_residual.ensures.1 in
    record {
      outcome = rw (p.1, p.2) (λ n.
          stop c.args.items.now c.loop-item.item-index c.item-item.result (declared_in c.loop-item.tables) _ c.in_err-declare_item.field-0.0
          c.loop-item-test.true c.item-item.is v.declared v.fault (c.in_err-declare_item.ensures.outcome n));
    }
