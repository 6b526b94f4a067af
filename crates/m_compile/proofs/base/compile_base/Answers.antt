use Rattle.m_symbols.proofs.Outcomes.{reported}
use Rattle.m_compile.proofs.Steps.{rules_reported}
use Rattle.m_compile.proofs.base.compile_base.Goals as goal

pub returns-in_err-made-clause-outcome : goal.returns-in_err-made-clause-outcome
returns-in_err-made-clause-outcome g c = reported _ _ _ _ _ c.from_residual.ensures.1
    (rules_reported c.args.texts.now c.args.application.now _ c.in_err-made.ensures.outcome)
