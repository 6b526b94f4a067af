use Rattle.std.proofs.Common.{◌≡◌, drop}
use Rattle.micro_m.specs.Bases.{definition_among}
use Rattle.micro_m.proofs.slow.definition_of.Given as goal

abbrev pub invariant-loop-definition : goal.invariant-loop-definition
invariant-loop-definition l = definition_among (drop l.definition-index l.definition-items) l.cell ≡ definition_among l.base.definitions l.cell
