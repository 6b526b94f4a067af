use Rattle.report_laws.proofs.Reasons.{reported_sound}
use Rattle.report_laws.proofs.laws.printed_reasons_are_sound.Goals as goal

pub returns : goal.returns
returns c = reported_sound
