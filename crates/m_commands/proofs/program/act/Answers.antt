use Rattle.std.proofs.Common.{refl}
use Rattle.command_plans.specs.Courses.{ended, answered}
use Rattle.m_commands.proofs.program.act.Goals as goal

pub returns-in-Ok : goal.returns-in-Ok
returns-in-Ok g c words e = answered c.args.command.now c.in-Ok.work e c.in-Ok.ensures.along (c.in-Ok.ensures.kind, c.answer.ensures)

pub returns-in-Err : goal.returns-in-Err
returns-in-Err g c words e = ended c.args.command.now c.in-Err.ending e c.in-Err.ensures.along refl c.report_ending-status.ensures
