use Rattle.std.proofs.Common.{[], ◌∙◌}
use Rattle.m_batch.proofs.RowLemmas.{answers_added}
use Rattle.m_batch.proofs.blocks.answers_of_block.Goals as goal

pub loop-r-preserved : goal.loop-r-preserved
loop-r-preserved c =
    answers_added c.args.columns.now.code c.args.rows.now c.loop-r.r [] c.loop-r.answers.items c.push.new.self.items c.in_ok-answer.answer c.loop-r-test.true
    (λ d. c.in_ok-answer.ensures ∙ c.requires.answers c.loop-r.r d c.loop-r-test.true) c.loop-r.invariant c.in_ok-push.ensures.items
