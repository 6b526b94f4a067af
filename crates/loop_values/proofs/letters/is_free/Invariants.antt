use Rattle.std.proofs.Common.{◌≡◌, drop}
use Rattle.loop_values.specs.Letters as spec
use Rattle.loop_values.proofs.letters.is_free.Given as goal

abbrev pub invariant-loop-byte : goal.invariant-loop-byte
invariant-loop-byte l = spec.replaced l.letters (drop l.byte-index l.word) ≡ drop l.byte-index l.word → spec.replaced l.letters l.word ≡ l.word
