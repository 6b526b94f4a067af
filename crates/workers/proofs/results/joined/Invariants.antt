use Rattle.std.proofs.Common.{◌≡◌}
use Rattle.workers.specs.Parts.{behind, joined}
use Rattle.workers.proofs.results.joined.Given as goal

abbrev pub invariant-loop-part : goal.invariant-loop-part
invariant-loop-part g l = behind l.all.items (joined l.part-iterator.rest.items) ≡ joined l.fn.parts.items
