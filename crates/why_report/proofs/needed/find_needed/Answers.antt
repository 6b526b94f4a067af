use Rattle.std.proofs.Common.{ℕ, nat_eq, List, length, refl, ap, sym, subst, arith}
use Rattle.why_report.specs.Reasons.{cell_reads}
use Rattle.why_report.specs.inner.Plans.{AreSpots, IsMarking, Marks}
use Rattle.why_report.proofs.DownLemmas.{down-length}
use Rattle.why_report.proofs.PassLemmas.{empty-spots, pass-first, pass-room, found-cell, pass-turn, pass-end, known-needed}
use Rattle.why_report.proofs.needed.find_needed.Goals as goal

pub mark_cell-requires-clause-spots : goal.mark_cell-requires-clause-spots
mark_cell-requires-clause-spots c =
    subst (λ (spots : List ℕ). AreSpots spots (length c.args.marked.now)) (sym c.deref.ensures.value)
    (empty-spots c.args.ordered.now.value c.args.plan.now c.args.marked.now c.requires.valid c.requires.order c.requires.plan c.requires.empty)

pub loop-spot-init : goal.loop-spot-init
loop-spot-init c =
    pass-first c.args.ordered.now.value c.args.cell c.args.plan.now c.args.marked.now c.mark_cell.new.marked c.args.known.now c.args.needed.now _
    c.requires.valid c.requires.order c.requires.plan c.requires.empty c.requires.known c.requires.none c.requires.room refl
    (subst (λ (spots : List ℕ). Marks spots c.args.marked.now c.mark_cell.new.marked (λ d. nat_eq d c.args.cell)) c.deref.ensures.value c.mark_cell.ensures)

pub index-found-requires : goal.index-found-requires
index-found-requires c =
    let room = pass-room c.args.ordered.now.value c.args.cell c.args.plan.now c.loop-spot.marked c.loop-spot.known c.loop-spot.needed c.loop-spot.from
    c.loop-spot.at
    c.in-Some.spot c.loop-spot.invariant c.in-Some.ensures.next.from c.in-Some.ensures.within.0 in
    omega (arith, room.2, down-length c.args.ordered.now.value c.requires.valid c.requires.order, ap length c.requires.plan.cells, c.args.plan.now.cells.ok)

pub mark_read-requires-clause-cell : goal.mark_read-requires-clause-cell
mark_read-requires-clause-cell c =
    let room = pass-room c.args.ordered.now.value c.args.cell c.args.plan.now c.loop-spot.marked c.loop-spot.known c.loop-spot.needed c.loop-spot.from
    c.loop-spot.at
    c.in-Some.spot c.loop-spot.invariant c.in-Some.ensures.next.from c.in-Some.ensures.within.0 in
    (found-cell c.args.ordered.now.value c.args.plan.now c.in-Some.spot c.index-found.result.now _ c.requires.valid c.requires.order c.requires.plan room.2
    c.index-found.ensures).1

pub loop-spot-preserved : goal.loop-spot-preserved
loop-spot-preserved c =
    let ordered = c.args.ordered.now.value in
    let plan = c.args.plan.now in
    let room = pass-room ordered c.args.cell plan c.loop-spot.marked c.loop-spot.known c.loop-spot.needed c.loop-spot.from c.loop-spot.at c.in-Some.spot
    c.loop-spot.invariant c.in-Some.ensures.next.from c.in-Some.ensures.within.0 in
    let found = found-cell ordered plan c.in-Some.spot c.index-found.result.now _ c.requires.valid c.requires.order c.requires.plan room.2
    c.index-found.ensures in
    pass-turn ordered c.args.cell plan c.loop-spot.marked c.mark_read.new.marked c.loop-spot.known c.mark_read.new.known c.loop-spot.needed c.loop-spot.from
    c.loop-spot.at c.in-Some.spot c.index-found.result.now
    c.requires.valid c.requires.order c.requires.plan c.loop-spot.invariant c.in-Some.ensures.next c.in-Some.ensures.within.0 found.0
    (subst (λ (spots : List ℕ). Marks spots c.loop-spot.marked c.mark_read.new.marked (cell_reads ordered.base c.index-found.result.now))
    c.deref-in-Some.ensures.value c.mark_read.ensures.marks)
    (subst (λ (spots : List ℕ). IsMarking spots c.mark_read.new.marked c.mark_read.new.known) c.deref-in-Some.ensures.value c.mark_read.ensures.marking)

pub returns-clause-needed : goal.returns-clause-needed
returns-clause-needed c =
    pass-end c.args.ordered.now.value c.args.cell c.args.plan.now c.loop-spot.marked c.loop-spot.known c.loop-spot.needed c.loop-spot.from c.loop-spot.at
    c.requires.valid c.requires.order c.requires.plan c.loop-spot.invariant c.in_default.ensures.next

pub returns-clause-known : goal.returns-clause-known
returns-clause-known c =
    known-needed c.args.ordered.now.value c.args.cell c.args.plan.now c.loop-spot.marked c.loop-spot.known c.loop-spot.needed c.loop-spot.from c.loop-spot.at
    c.requires.valid c.requires.order c.requires.cell c.requires.plan c.loop-spot.invariant
    (pass-end c.args.ordered.now.value c.args.cell c.args.plan.now c.loop-spot.marked c.loop-spot.known c.loop-spot.needed c.loop-spot.from c.loop-spot.at
    c.requires.valid c.requires.order c.requires.plan c.loop-spot.invariant c.in_default.ensures.next)
