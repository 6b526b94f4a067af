use Rattle.std.proofs.Common.{arith}
use Rattle.m_items.proofs.Turns.{sorting_turn, sorting_stop, sorting_stuck}
use Rattle.m_items.proofs.attributes.read_attributes.Goals as goal

pub returns-in_default-take_number-clause-reads : goal.returns-in_default-take_number-clause-reads
returns-in_default-take_number-clause-reads c = sorting_stuck c.attributes.invariant.sorting c.in-Some.ensures.word c.in-Some.ensures.shorter
    c.in_default-take_number.ensures.reads

pub attributes-preserved : goal.attributes-preserved
attributes-preserved c = record {
  no_longer = omega (arith, c.in-Some.ensures.shorter, c.in-Some-take_number.ensures.no_longer, c.attributes.invariant.no_longer);
  sorting = rw (c.in_ok-push.ensures, c.in_ok-word.ensures)
      (sorting_turn c.attributes.invariant.sorting c.in-Some.ensures.word c.in-Some-take_number.ensures.reads
      (omega (arith, c.in-Some.ensures.shorter, c.in-Some-take_number.ensures.no_longer)));
}

pub returns-clause-reads : goal.returns-clause-reads
returns-clause-reads c = rw c.in_default.ensures.word.0 (sorting_stop c.attributes.invariant.sorting c.in_default.ensures.word.1)
