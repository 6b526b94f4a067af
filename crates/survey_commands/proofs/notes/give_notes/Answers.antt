use Rattle.std.proofs.Common.{◌<◌, length, refl, arith}
use Rattle.std.specs.Prelude.{option_copied}
use Rattle.std.proofs.lemmas.Result.{err_from_is_err_and}
use Rattle.m_ports.proofs.GivingLemmas.{piece_given, piece_failed, all_given}
use Rattle.survey_commands.proofs.OutputLemmas.{notes_at, notes_end}
use Rattle.survey_commands.proofs.notes.give_notes.Goals as goal

pub returns-in_err-give_note : goal.returns-in_err-give_note
returns-in_err-give_note g c =
    let p = err_from_is_err_and c.from_residual.result c.from_residual.ensures.1 in
    let gave = c.in_err-give_note.ensures in
    let inside : c.loop-k.k < length c.args.outputs.now = omega (arith, c.loop-k-test.true, c.requires) in
    piece_failed _ _ _ _ _ _ _ _ _ _ _ p.1
    (notes_at c.loop-k.some c.args.labels.now c.args.outputs.now c.args.values.now c.loop-k.k c.index-outputs-k.result c.index-outputs-k.result
    c.index-values-k.result c.index-values-k.result
    (option_copied c.output_note-note.result) inside c.loop-k-test.true c.index-outputs-k.is c.index-values-k.is c.output_note-note.ensures)
    c.loop-k.invariant gave.failed gave.prefix gave.counted

pub loop-k-preserved : goal.loop-k-preserved
loop-k-preserved g c =
    let gave = c.in_ok-give_note.ensures in
    let inside : c.loop-k.k < length c.args.outputs.now = omega (arith, c.loop-k-test.true, c.requires) in
    rw c.some_after-some.ensures
    (piece_given _ _ _ _ _ _ _ _ _
    (notes_at c.loop-k.some c.args.labels.now c.args.outputs.now c.args.values.now c.loop-k.k c.index-outputs-k.result c.index-outputs-k.result
    c.index-values-k.result c.index-values-k.result
    (option_copied c.output_note-note.result) inside c.loop-k-test.true c.index-outputs-k.is c.index-values-k.is c.output_note-note.ensures)
    c.loop-k.invariant gave.all gave.faultless)

pub returns : goal.returns
returns g c = all_given _ _ _ _ _ _ tt refl (rw (notes_end c.loop-k.some c.args.labels.now c.args.outputs.now c.args.values.now c.loop-k.k c.loop-k-test.false)
    at c.loop-k.invariant)
