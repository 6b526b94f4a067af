use Rattle.std.proofs.Common.{refl}
use Rattle.std.proofs.lemmas.Result.{err_from_is_err_and}
use Rattle.m_ports.proofs.GivingLemmas.{piece_given, piece_failed, all_given}
use Rattle.survey_commands.specs.inner.Outputs.{output_field}
use Rattle.survey_commands.proofs.EachLemmas.{each_at, each_end}
use Rattle.survey_commands.proofs.columns.give_fields.Goals as goal

pub returns-in_err-give_output : goal.returns-in_err-give_output
returns-in_err-give_output g c =
    let p = err_from_is_err_and c.from_residual.result c.from_residual.ensures.1 in
    let gave = c.in_err-give_output.ensures in
    piece_failed _ _ _ _ _ _ _ _ _ _ _ p.1 (each_at (output_field c.args.filled) c.args.outputs.now c.loop-output.output-index c.output-item.result _
    c.loop-output-test.true c.output-item.is)
    c.loop-output.invariant gave.failed gave.prefix gave.counted

pub loop-output-preserved : goal.loop-output-preserved
loop-output-preserved g c =
    let gave = c.in_ok-give_output.ensures in
    piece_given _ _ _ _ _ _ _ _ _ (each_at (output_field c.args.filled) c.args.outputs.now c.loop-output.output-index c.output-item.result _
    c.loop-output-test.true c.output-item.is)
    c.loop-output.invariant gave.all gave.faultless

pub returns : goal.returns
returns g c = all_given _ _ _ _ _ _ _ refl
    (rw (each_end (output_field c.args.filled) c.args.outputs.now c.loop-output.output-index c.loop-output-test.false) at c.loop-output.invariant)
