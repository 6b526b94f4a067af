use Rattle.std.proofs.Common.{◌<◌, ◌∙◌, ℕ, List, length, take, get_or, ap, arith}
use Rattle.std.proofs.lemmas.List.{length-take-le}
use Rattle.m_fixed.specs.declared.amount.Value.{Value}
use Rattle.household.specs.Household.{values_of}
use Rattle.reg_machine.specs.Machine.{machine_run}
use Rattle.m_batch.specs.inner.Rows.{row_at, row_inputs}
use Rattle.m_batch.proofs.PlaceLemmas.{row_taken}
use Rattle.m_batch.proofs.blocks.run_rows.Goals as goal

pub returns-clause-answers : goal.returns-clause-answers
returns-clause-answers c = λ r d h.
    let code = c.args.columns.now.code in
    let rows = c.args.rows.now in
    let block = c.put_rows.new.block in
    let within : r < length (take (length rows) block) =
    omega (arith, h, length-take-le (length rows) block (omega (arith, c.requires.rows, c.requires.many, c.put_rows.ensures.many))) in
    c.run_block.ensures.answers r within
    ∙ ap (λ (numbers : List ℕ). machine_run code (row_inputs numbers (row_at (take (length rows) block) r))) c.deref.ensures.value
    ∙ ap (λ (row : List Value). machine_run code (row_inputs c.args.places.now.of.items row)) (row_taken block (length rows) r h)
    ∙ ap (machine_run code) (c.put_rows.ensures.values r d h)
    ∙ ap (λ (n : ℕ). machine_run code (values_of (get_or rows r d).household.pairs n)) c.requires.placed.many
