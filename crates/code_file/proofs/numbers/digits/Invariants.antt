use Rattle.std.proofs.Common.{◌≡◌, ◌<◌, drop}
use Rattle.code_file.specs.inner.Spelled.{number_after}
use Rattle.code_file.proofs.numbers.digits.Given as goal

abbrev pub invariant-loop-byte : goal.invariant-loop-byte
invariant-loop-byte l = record {
  same : number_after l.below 0 l.text ≡ number_after l.below l.number (drop l.byte-index l.text);
  small : l.number < l.below;
}
