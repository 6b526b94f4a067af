use Rattle.std.proofs.Common.{◌≡◌, ◌∙◌, List, Vec, sym, ap}
use Rattle.std.specs.declared.alloc.Global.{Global}
use Rattle.std.proofs.lemmas.List.{length-map}
use Rattle.m_fixed.specs.declared.amount.Value.{Value}
use Rattle.flat_code.specs.Runs.{value_at}
use Rattle.reg_machine.specs.Flow.{Listing}
use Rattle.reg_machine.specs.Machine.{machine_run}
use Rattle.m_batch.specs.inner.Rows.{Table, row_at, row_inputs}
use Rattle.m_batch.specs.inner.Ran.{ran_of}
use Rattle.m_batch.proofs.RunLemmas.{block_answer}
use Rattle.m_batch.proofs.columns.Columns.run_block.Goals as goal

pub returns-clause-answers : goal.returns-clause-answers
returns-clause-answers c = λ r h.
    let room = c.self.inside.room in
    let row = row_at c.args.rows.now r in
    let many = λ (columns : List (Vec Value Global)). length-map columns (λ (column : Vec Value Global). value_at column.items r) in
    let same : c.self.inside.code.now ≡ c.args.self.now.code = ap (λ (t : Table). t.code) c.self.view_is in
    block_answer c.self.inside.code.now c.self.inside.parts (row_inputs c.args.numbers.now row)
    (ran_of r (record room { stops = c.clear_stops.new.stops })) (ran_of r c.run_rows.new.room) c.self.invariant.0
    (length-map c.args.numbers.now (value_at row) ∙ c.requires.inputs ∙ ap (λ (code : Listing). code.counts.inputs) (sym same))
    (c.run_rows.ensures.rows r h) (c.clear_stops.ensures.value r h)
    (many room.registers.items ∙ c.self.invariant.1.registers)
    (many room.slots.items ∙ c.self.invariant.1.slots)
    (many room.outputs.items ∙ c.self.invariant.1.outputs)
    ∙ ap (λ (code : Listing). machine_run code (row_inputs c.args.numbers.now row)) same
