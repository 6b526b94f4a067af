use Rattle.std.proofs.Common.{◌<◌, List, length, refl, sym, ◌∙◌, ap, subst, arith}
use Rattle.micro_m.specs.Bases.{Definition}
use Rattle.rule_order.specs.inner.Marks.{steps_left}
use Rattle.rule_order.proofs.MarkLemmas.{definition-low, looked-up-mark}
use Rattle.rule_order.proofs.WalkLemmas.{waits}
use Rattle.rule_order.proofs.search.Search.place.Goals as goal

pub index-requires : goal.index-requires
index-requires c =
    let here : c.args.position < length c.as_slice.result.now = subst (λ (ds : List Definition). c.args.position < length ds) (sym c.as_slice.ensures)
    c.requires.position in
    let low = definition-low c.args.base.now c.as_slice.result.now c.args.position _ c.index-as_slice-position.result c.requires.valid c.as_slice.ensures here
    c.index-as_slice-position.is c.requires.walk.search.size in
    let at = ap (λ (d : Definition). d.0) c.index-as_slice-position.is in
    let size = c.args.self.now.marks.ok.0 in
    let l = low.0 in
    omega arith

pub returns-then-is_settled : goal.returns-then-is_settled
returns-then-is_settled c =
    let found = looked-up-mark c.args.base.now c.args.self.now.marks.items c.as_slice.result.now c.args.position c.index-as_slice-position.result
    c.index.result.now c.requires.valid c.requires.walk.search.size c.as_slice.ensures c.requires.position c.index-as_slice-position.is c.index.ensures in
    record { outcome = (c.requires.walk, λ x. omega arith, found.1 ∙ c.if-is_settled.ensures.0 refl) }

pub begin-requires-clause-waiting : goal.begin-requires-clause-waiting
begin-requires-clause-waiting c =
    let found = looked-up-mark c.args.base.now c.args.self.now.marks.items c.as_slice.result.now c.args.position c.index-as_slice-position.result
    c.index.result.now c.requires.valid c.requires.walk.search.size c.as_slice.ensures c.requires.position c.index-as_slice-position.is c.index.ensures in
    waits c.args.base.now c.args.self.now.marks.items c.args.self.now.known.items c.args.self.now.sequence.items c.args.position c.requires.valid
    c.requires.position c.requires.walk
    (λ settled. let no = c.if-is_settled.ensures.1 (sym found.1 ∙ settled) in cc)

pub loop-frame-init : goal.loop-frame-init
loop-frame-init c =
    let one = ap steps_left c.in_ok-begin.ensures.begun in
    (c.in_ok-begin.ensures.walk.0, c.in_ok-begin.ensures.walk.1, omega arith)
