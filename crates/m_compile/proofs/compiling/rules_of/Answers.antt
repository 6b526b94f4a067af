use Rattle.m_symbols.proofs.Outcomes.{reported}
use Rattle.m_compile.proofs.Steps.{base_reported, rules_made}
use Rattle.m_compile.proofs.compiling.rules_of.Goals as goal

pub returns-in_err-made-clause-outcome : goal.returns-in_err-made-clause-outcome
returns-in_err-made-clause-outcome g c = reported _ _ _ _ _ c.from_residual.ensures.1
    (λ n. base_reported c.args.source.now _ _ _ c.as_slice.ensures c.bytes.ensures (c.in_err-made.ensures.outcome n))

pub returns-clause-outcome : goal.returns-clause-outcome
returns-clause-outcome g c = rules_made c.args.source.now _ _ _ _ c.as_slice.ensures c.bytes.ensures c.in_ok-made.ensures.outcome.0
    c.in_ok-made.ensures.no_cycle

pub returns-clause-order : goal.returns-clause-order
returns-clause-order g c = c.in_ok-made.ensures.outcome.1
