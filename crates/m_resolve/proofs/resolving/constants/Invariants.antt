use Rattle.std.proofs.Common.{◌≡◌, take}
use Rattle.std.specs.List.{filter_map}
use Rattle.m_resolve.specs.Bases.{constant_in}
use Rattle.m_resolve.proofs.resolving.constants.Given as goal

abbrev pub invariant-loop-number : goal.invariant-loop-number
invariant-loop-number l = l.constants.items ≡ filter_map (λ v. constant_in v.first_cell v.item.role) (take l.number l.symbols.variables)
