use Rattle.std.proofs.Common.{◌+◌, refl}
use Rattle.reg_machine.specs.declared.code.Packed.TheVariants.{Take}
use Rattle.m_batch.specs.inner.Rows.{row_at, row_inputs}
use Rattle.m_batch.specs.inner.Ran.{ran_of}
use Rattle.m_batch.proofs.RunLemmas.{stopped_answer, run_next}
use Rattle.m_batch.proofs.step.run_rows.Goals as goal

pub returns-then-have_stopped-clause-rows : goal.returns-then-have_stopped-clause-rows
returns-then-have_stopped-clause-rows c = λ r h.
    let inputs = row_inputs c.args.numbers.now (row_at c.args.rows.now r) in
    stopped_answer inputs c.args.pool.now c.args.packed.now (c.loop-n.n + 1) (ran_of r c.args.room.now) (ran_of r c.step.new.room)
    (run_next c.args.numbers.now c.args.rows.now c.args.pool.now c.args.packed.now c.loop-n.n (Take 0 0) c.args.room.now c.loop-n.room c.step.new.room
    c.loop-n-test.true c.loop-n.invariant.run c.step.ensures.rows r h)
    (c.if-have_stopped.ensures refl r h)
