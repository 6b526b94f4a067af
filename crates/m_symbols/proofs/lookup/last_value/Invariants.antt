use Rattle.std.proofs.Common.{◌≡◌, drop}
use Rattle.std.specs.Option.{option_or}
use Rattle.m_symbols.specs.Kinds.{last_value}
use Rattle.m_symbols.proofs.lookup.last_value.Given as goal

abbrev pub invariant-loop-name : goal.invariant-loop-name
invariant-loop-name l = option_or (last_value l.attribute (drop l.name-index l.pairs)) l.last ≡ last_value l.attribute l.pairs
