use Rattle.std.proofs.Common.{◌≡◌, drop}
use Rattle.std.specs.List.{list_any}
use Rattle.std.specs.Ordering.{int_eq}
use Rattle.m_symbols.proofs.lookup.has_amount.Given as goal

abbrev pub invariant-loop-amount : goal.invariant-loop-amount
invariant-loop-amount l = list_any (int_eq l.value) (drop l.amount-index l.amounts) ≡ list_any (int_eq l.value) l.amounts
