use Rattle.m_symbols.proofs.Outcomes.{reported}
use Rattle.rule_base.proofs.Steps.{expand_reported, resolve_reported}
use Rattle.rule_base.proofs.base.base_over.Goals as goal

pub returns-in_err-plain-clause-outcome : goal.returns-in_err-plain-clause-outcome
returns-in_err-plain-clause-outcome c = reported _ _ _ _ _ c.from_residual.ensures.1 (expand_reported c.args.items.now c.args.application.now c.args.symbols.now
    _ c.in_err-plain.ensures.outcome)

pub returns-in_err-base-clause-outcome : goal.returns-in_err-base-clause-outcome
returns-in_err-base-clause-outcome c =
    reported _ _ _ _ _ c.from_residual-in_err-base.ensures.1
    (resolve_reported c.args.items.now c.args.application.now c.args.symbols.now _ _ c.in_ok-plain.ensures.outcome.0 c.in_ok-plain.ensures.outcome.1
    c.in_err-base.ensures.outcome)
