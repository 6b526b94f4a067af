use Rattle.std.proofs.Common.{◌≡◌, take, drop}
use Rattle.m_symbols.specs.Declarations.{declared_by}
use Rattle.m_symbols.specs.Faults.{fault_behind, first_fault}
use Rattle.m_symbols.specs.inner.Tables.{declared_in, AreIndexed}
use Rattle.m_symbols.proofs.declaring.declare.Given as goal

abbrev pub invariant-loop-item : goal.invariant-loop-item
invariant-loop-item l = record {
  indexed : AreIndexed l.tables;
  declared : declared_in l.tables ≡ declared_by (take l.item-index l.items);
  fault : fault_behind (take l.item-index l.items) (drop l.item-index l.items) ≡ first_fault l.items;
}
