use Rattle.std.proofs.Common.{◌≡◌, ◌++◌, drop}
use Rattle.loop_values.specs.Letters as spec
use Rattle.loop_values.proofs.letters.replaced_within.Given as goal

abbrev pub invariant-loop-byte : goal.invariant-loop-byte
invariant-loop-byte l = l.bytes.items ++ spec.replaced l.letters (drop l.byte-index l.word) ≡ spec.replaced l.letters l.word
