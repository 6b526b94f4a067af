use Rattle.std.proofs.Common.{◌≡◌, [], drop}
use Rattle.mpp_core.specs.Names.{resolved_each, resolved_target}
use Rattle.mpp_core.proofs.names.targets_of.Given as goal

abbrev pub invariant-loop-name : goal.invariant-loop-name
invariant-loop-name l = resolved_each (resolved_target l.symbols l.line) l.cells.items (drop l.name-index l.names)
    ≡ resolved_each (resolved_target l.symbols l.line) [] l.names
