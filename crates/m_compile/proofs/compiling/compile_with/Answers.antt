use Rattle.m_compile.proofs.compiling.compile_with.Goals as goal

pub returns : goal.returns
returns g c = record { tidy = c.in_ok-program.program.tidy; program = c.in_ok-program.ensures.compiled; allocated = c.in_ok-code.ensures.allocated }
