use Rattle.m_symbols.proofs.Outcomes.{reported}
use Rattle.m_compile.specs.inner.Parts.{in_driver}
use Rattle.m_compile.proofs.Steps.{requests_reported}
use Rattle.m_compile.proofs.compiling.core_and_requests.Goals as goal

pub returns-in_err-written-clause-outcome : goal.returns-in_err-written-clause-outcome
returns-in_err-written-clause-outcome c = reported _ _ _ _ _ c.from_residual.ensures.1 (λ n. in_driver (c.in_err-written.ensures n))

pub returns-in_err-requests-clause-outcome : goal.returns-in_err-requests-clause-outcome
returns-in_err-requests-clause-outcome c =
    reported _ _ _ _ _ c.from_residual-in_err-requests.ensures.1 (requests_reported c.args.source.now c.args.symbols.now _ _ c.in_ok-written.ensures
    c.in_err-requests.ensures.outcome)

pub returns-clause-outcome : goal.returns-clause-outcome
returns-clause-outcome c =
    record { written = _; driven = c.in_ok-written.ensures; requested = c.in_ok-requests.ensures.outcome; runs = rw c.as_slice.ensures at c.in_ok-core.ensures }
