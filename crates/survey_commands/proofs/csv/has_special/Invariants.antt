use Rattle.std.proofs.Common.{◌≡◌, drop}
use Rattle.std.specs.List.{list_any}
use Rattle.survey_commands.specs.Csv.{is_special}
use Rattle.survey_commands.proofs.csv.has_special.Given as goal

abbrev pub invariant-loop-byte : goal.invariant-loop-byte
invariant-loop-byte l = list_any is_special (drop l.byte-index l.bytes) ≡ list_any is_special l.bytes
