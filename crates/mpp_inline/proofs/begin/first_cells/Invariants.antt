use Rattle.std.proofs.Common.{◌≡◌, ◌+◌, ◌*◌, ◌≤◌, drop, length}
use Rattle.m_symbols.specs.Declarations.{inputs_from, owners_from}
use Rattle.mpp_inline.specs.inner.Growth.{Sane, kinds_from}
use Rattle.mpp_inline.specs.inner.Sizes.{load}
use Rattle.mpp_inline.proofs.BeginLemmas.{Starting}
use Rattle.mpp_inline.proofs.begin.first_cells.Given as goal

abbrev pub invariant-loop-v : goal.invariant-loop-v
invariant-loop-v l = record {
  step : Sane l.initial.b → Starting l.initial.b l.b l.symbols.variables (drop l.v l.symbols.variables) l.next l.env.items;
  typed : drop l.next (kinds_from l.symbols.variables) ≡ kinds_from (drop l.v l.symbols.variables);
  counted : l.next + length (inputs_from 0 (drop l.v l.symbols.variables)) ≡ length (inputs_from 0 l.symbols.variables);
  size : load l.b + 2 * length (owners_from 0 (drop l.v l.symbols.variables)) ≤ load l.initial.b + 2 * length (owners_from 0 l.symbols.variables);
}
