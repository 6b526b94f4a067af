use Rattle.m_compile.specs.Sources.{without}
use Rattle.m_compile.proofs.compiling.written.Goals as goal

pub returns-in-None : goal.returns-in-None
returns-in-None c = rw c.in-None.is without
