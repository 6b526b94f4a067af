use Rattle.std.proofs.Common.{◌≤◌, List, length, sym, subst, arith}
use Rattle.rule_order.specs.declared.search.Mark.{Mark}
use Rattle.rule_order.specs.declared.reads.Run.{Run}
use Rattle.rule_order.specs.inner.Marks.{RunsFit}
use Rattle.rule_order.proofs.WalkLemmas.{frame-fits, frame-last, frame-low, few-definitions, turn-placed, turn-stopped}
use Rattle.rule_order.proofs.search.Search.turn.Goals as goal

pub first_unsettled-found-requires-clause-fits : goal.first_unsettled-found-requires-clause-fits
first_unsettled-found-requires-clause-fits c =
    let fits = frame-fits c.args.base.now c.args.self.now.marks.items c.args.self.now.known.items c.args.self.now.sequence.items c.args.path.now.items
    c.args.frame c.requires.valid c.requires.walk in
    subst (λ (ms : List Mark). RunsFit (length ms) c.as_slice.result.now) (sym c.as_slice-2.ensures.value)
    (subst (λ (rs : List Run). RunsFit (length c.args.self.now.marks.items) rs) (sym c.as_slice.ensures.value) fits)

pub first_unsettled-found-requires-clause-from : goal.first_unsettled-found-requires-clause-from
first_unsettled-found-requires-clause-from c =
    let f = frame-last c.args.base.now c.args.self.now.marks.items c.args.self.now.known.items c.args.self.now.sequence.items c.args.path.now.items c.args.frame
    c.requires.walk in
    subst (λ (rs : List Run). c.args.frame.next ≤ length rs) (sym c.as_slice.ensures.value) f.next

pub index_mut-requires : goal.index_mut-requires
index_mut-requires c =
    let low = frame-low c.args.base.now c.args.self.now.marks.items c.args.self.now.known.items c.args.self.now.sequence.items c.args.path.now.items
    c.args.frame c.requires.valid c.requires.walk in
    let size = c.args.self.now.marks.ok in
    omega arith

pub overflow_cast-frame : goal.overflow_cast-frame
overflow_cast-frame c =
    let f = frame-last c.args.base.now c.args.self.now.marks.items c.args.self.now.known.items c.args.self.now.sequence.items c.args.path.now.items c.args.frame
    c.requires.walk in
    let low = f.within in
    let few = few-definitions c.args.base.now c.requires.valid in
    let fits = c.requires.fits in
    omega arith

pub go_on-requires-clause-walk : goal.go_on-requires-clause-walk
go_on-requires-clause-walk c =
    (turn-stopped c.args.base.now c.args.self.now.marks.items c.as_slice-2.result.now c.args.self.now.known.items c.as_mut_slice.result.now
    c.first_unsettled-found.new.known c.args.self.now.known.len c.args.self.now.sequence.items c.args.path.now.items c.push-in-Some.new.self.items
    c.args.frame c.as_slice.result.now c.in-Some.next c.in-Some.cell c.requires.valid c.requires.walk c.as_slice-2.ensures.value c.as_slice.ensures.value
    c.as_mut_slice.ensures.value c.first_unsettled-found.auto.known c.args.self.now.known.ok.0 c.in-Some.ensures.knows c.in-Some.ensures.some
    c.in_ok-push-in-Some.ensures.items).0

pub go_on-requires-clause-reads : goal.go_on-requires-clause-reads
go_on-requires-clause-reads c =
    (turn-stopped c.args.base.now c.args.self.now.marks.items c.as_slice-2.result.now c.args.self.now.known.items c.as_mut_slice.result.now
    c.first_unsettled-found.new.known c.args.self.now.known.len c.args.self.now.sequence.items c.args.path.now.items c.push-in-Some.new.self.items
    c.args.frame c.as_slice.result.now c.in-Some.next c.in-Some.cell c.requires.valid c.requires.walk c.as_slice-2.ensures.value c.as_slice.ensures.value
    c.as_mut_slice.ensures.value c.first_unsettled-found.auto.known c.args.self.now.known.ok.0 c.in-Some.ensures.knows c.in-Some.ensures.some
    c.in_ok-push-in-Some.ensures.items).1

pub returns-in_ok-push-in-None : goal.returns-in_ok-push-in-None
returns-in_ok-push-in-None c = record {
  outcome = turn-placed c.args.base.now c.args.self.now.marks.items c.as_slice-2.result.now c.args.self.now.known.items c.as_mut_slice.result.now
      c.first_unsettled-found.new.known c.args.self.now.known.len c.args.self.now.sequence.items c.push.new.self.items c.args.path.now.items c.args.frame
      c.as_slice.result.now c.requires.valid c.requires.walk c.as_slice-2.ensures.value c.as_slice.ensures.value c.as_mut_slice.ensures.value
      c.first_unsettled-found.auto.known c.args.self.now.known.ok.0 c.in-None.ensures.knows c.in-None.ensures.none c.in_ok-push-in-None.ensures.items;
}
