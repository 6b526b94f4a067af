use Rattle.why_report.proofs.MeaningLemmas.{sound-values}
use Rattle.why_report.proofs.laws.sound_lines_hold_values.Goals as goal

pub returns : goal.returns
returns c = sound-values
