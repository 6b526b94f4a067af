use Rattle.std.proofs.Common.{ap, ◌∙◌}
use Rattle.reg_machine.specs.Flow.{Listing}
use Rattle.m_batch.proofs.OutputLemmas.{outputs-long}
use Rattle.m_batch.proofs.one.answer_to.Goals as goal

pub outputs_of-requires-clause-all : goal.outputs_of-requires-clause-all
outputs_of-requires-clause-all c =
    outputs-long c.args.machine.now.code c.args.inputs.now c.run.new.self.outputs (rw c.in-None.is at c.run.ensures.answer)
    ∙ ap (λ (code : Listing). code.counts.outputs) c.requires.same
