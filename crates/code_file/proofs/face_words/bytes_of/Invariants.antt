use Rattle.std.proofs.Common.{◌≤◌, ◌-◌, length}
use Rattle.code_file.proofs.VerifLemmas.{BytesFrom}
use Rattle.code_file.proofs.face_words.bytes_of.Given as goal

abbrev pub invariant-loop-at : goal.invariant-loop-at
invariant-loop-at l = record {
  same : BytesFrom l.hex l.bytes.items l.at;
  within : l.at ≤ length l.hex;
}

abbrev pub decreases-loop-at : goal.decreases-loop-at
decreases-loop-at l = length l.hex - l.at
