use Rattle.std.proofs.Common.{◌∙◌, ap, sym, get_or}
use Rattle.reg_machine.specs.Flow.{Listing}
use Rattle.m_batch.specs.Batch.{row_answer}
use Rattle.m_batch.proofs.blocks.Blocks.next.Goals as goal

pub answers_of_block-requires-clause-answers : goal.answers_of_block-requires-clause-answers
answers_of_block-requires-clause-answers c = λ r d h.
    c.run_rows.ensures.answers r d h ∙ ap (λ (code : Listing). row_answer code (get_or c.split_at.result.0.now r d)) (sym c.run_rows.ensures.code)
