use Rattle.m_symbols.proofs.Outcomes.{reported}
use Rattle.m_compile.specs.Sources.{by_driver}
use Rattle.m_compile.proofs.Drivers.{functions_counted}
use Rattle.m_compile.proofs.Steps.{lines_reported, names_reported}
use Rattle.m_compile.proofs.compiling.core_of.Goals as goal

pub resolve_driver-requires-clause-few : goal.resolve_driver-requires-clause-few
resolve_driver-requires-clause-few c = functions_counted c.args.bytes.now c.in_ok-driver.driver c.in_ok-driver.ensures.outcome c.requires.within

pub returns-in_err-driver : goal.returns-in_err-driver
returns-in_err-driver c = reported _ _ _ _ _ c.from_residual.ensures.1 (lines_reported c.args.symbols.now c.args.bytes.now _ c.in_err-driver.ensures.outcome)

pub returns-in_err-core : goal.returns-in_err-core
returns-in_err-core c =
    reported _ _ _ _ _ c.from_residual-in_err-core.ensures.1 (names_reported c.args.symbols.now c.args.bytes.now _ _ c.in_ok-driver.ensures.outcome
    c.in_err-core.ensures.outcome)

pub returns : goal.returns
returns c = by_driver _ c.in_ok-driver.ensures.outcome c.in_ok-core.ensures.outcome
