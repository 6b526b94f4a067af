use Rattle.std.proofs.Common.{length, ap}
use Rattle.m_compile.proofs.Counts.{agrees_ok}
use Rattle.m_compile.proofs.compiling.coded.Goals as goal

pub returns-clause-loadable : goal.returns-clause-loadable
returns-clause-loadable c = agrees_ok c.args.program.now.face c.args.program.now.tidy _ _ (ap length c.as_slice.ensures) c.requires.shown c.allocate.ensures
