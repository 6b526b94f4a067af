use Rattle.std.proofs.Common.{length, ap, ◌∙◌}
use Rattle.household.proofs.ValueLemmas.{length-values_of}
use Rattle.m_batch.proofs.one.run_household.Goals as goal

pub answer_to-requires-clause-inputs : goal.answer_to-requires-clause-inputs
answer_to-requires-clause-inputs c =
    ap length (c.deref.ensures.value ∙ c.in_ok-inputs.ensures) ∙ length-values_of c.args.household.now.pairs c.inputs.result ∙ c.inputs.ensures
