use Rattle.std.proofs.Common.{refl}
use Rattle.m_items.proofs.Manys.{many_start, many_turn, many_stop}
use Rattle.m_items.specs.inner.Reading.{items_at}
use Rattle.m_items.proofs.items.read_items.Goals as goal

pub items-init : goal.items-init
unfolding items_at
items-init c = rw c.new-items.ensures.items (many_start _ refl)

pub items-preserved : goal.items-preserved
items-preserved c =
    let reads = rw c.in-Some.is at c.in_ok-item.ensures.reads in
    let less = rw c.in-Some.is at c.in_ok-item.ensures.shorter in
    rw c.in_ok-push.ensures.items (many_turn _ c.items.invariant reads less)

pub returns : goal.returns
returns c =
    let none = rw c.in_default.is at c.in_ok-item.ensures.reads in
    rw none.1 (many_stop _ c.items.invariant none.0)
