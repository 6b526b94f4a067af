use Rattle.rule_answers.proofs.Refusals.{fault_reported}
use Rattle.command_answers.proofs.Ways.{compile_answered, compile_refused}
use Rattle.command_answers.proofs.compile.compile_source.Goals as goal

pub returns-in-Ok : goal.returns-in-Ok
returns-in-Ok g c = compile_answered c.args.source.now c.in-Ok.loaded _ _ _ c.in-Ok.ensures.outcome c.answer_compile.ensures

pub returns-in-Err : goal.returns-in-Err
returns-in-Err g c =
    compile_refused c.args.source.now c.in-Err.fault _ _ _
    (fault_reported c.args.source.now c.in-Err.fault _ _ _ c.in-Err.ensures.outcome c.report_source.ensures)
