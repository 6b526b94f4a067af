use Rattle.std.proofs.Common.{arith, ap, sym, refl, drop, ◌+◌, ◌++◌, ◌∙◌}
use Rattle.m_ast.specs.Syntax.{loop}
use Rattle.m_ast.specs.View.{syntax_of, terms_of, links_of, members_of}
use Rattle.index_expand.specs.LoopFaults.{least, term_faults, terms_faults, links_faults, members_faults, header_faults, scope_within}
use Rattle.index_expand.proofs.FaultLemmas.{drop_next, least_next, least_both}
use Rattle.index_expand.proofs.TermLemmas.{term_below, link_below, low_below, high_below}
use Rattle.index_expand.proofs.faults.+with_term.Goals as goal

pub with_terms-with_term-first-requires : goal.with_terms-with_term-first-requires
with_terms-with_term-first-requires t c = (
  omega (
    arith,
    term_below c.args.terms.now c.loop-term.term-index c.term-item.result c.loop-term-test.true
        c.term-item.is,
  ),
  tt,
)

pub with_links-with_term-first-requires : goal.with_links-with_term-first-requires
with_links-with_term-first-requires t c = (
  omega (
    arith,
    link_below c.args.links.now c.loop-link.link-index c.link-item.result c.loop-link-test.true
        c.link-item.is,
  ),
  tt,
)

pub with_members-with_term-first-requires : goal.with_members-with_term-first-requires
with_members-with_term-first-requires t c = (
  omega (
    arith,
    low_below c.args.members.now c.loop-member.member-index c.member-item.result c.loop-member-test.true
        c.member-item.is,
  ),
  tt,
)

pub with_members-with_term-first-requires-in-loop-member : goal.with_members-with_term-first-requires-in-loop-member
with_members-with_term-first-requires-in-loop-member t
    c = (omega (arith, high_below c.args.members.now c.loop-member.member-index c.member-item.result c.loop-member-test.true c.member-item.is), tt)

pub with_terms-loop-term-preserved : goal.with_terms-loop-term-preserved
with_terms-loop-term-preserved t c =
    least_next c.loop-term.first _ (term_faults c.args.scope.now c.term-item.result)
    (terms_faults c.args.scope.now (terms_of (drop (c.loop-term.term-index + 1) c.args.terms.now))) _ _ c.loop-term.invariant
    (ap (λ all. terms_faults c.args.scope.now (terms_of all)) (drop_next c.args.terms.now c.loop-term.term-index c.term-item.result c.loop-term-test.true
    c.term-item.is))
    c.with_term-first.ensures

pub with_links-loop-link-preserved : goal.with_links-loop-link-preserved
with_links-loop-link-preserved t c =
    least_next c.loop-link.first _ (term_faults c.args.scope.now c.link-item.result.term)
    (links_faults c.args.scope.now (links_of (drop (c.loop-link.link-index + 1) c.args.links.now))) _ _ c.loop-link.invariant
    (ap (λ all. links_faults c.args.scope.now (links_of all)) (drop_next c.args.links.now c.loop-link.link-index c.link-item.result c.loop-link-test.true
    c.link-item.is))
    c.with_term-first.ensures

pub with_members-loop-member-preserved : goal.with_members-loop-member-preserved
with_members-loop-member-preserved t c =
    let rest = members_faults c.args.scope.now (members_of (drop (c.loop-member.member-index + 1) c.args.members.now)) in
    let low = term_faults c.args.scope.now c.member-item.result.low in
    let high = term_faults c.args.scope.now c.member-item.result.high in
    least_next c.with_term-first.result _ high rest _ _
    (least_next c.loop-member.first _ low (high ++ rest) _ _ c.loop-member.invariant
    (ap (λ all. members_faults c.args.scope.now (members_of all)) (drop_next c.args.members.now c.loop-member.member-index c.member-item.result
    c.loop-member-test.true c.member-item.is))
    c.with_term-first.ensures)
    refl
    c.with_term-first-in-loop-member.ensures

pub with_term-returns-in-Chain : goal.with_term-returns-in-Chain
with_term-returns-in-Chain t c =
    let e = sym c.term.view_is ∙ ap syntax_of c.in-Chain.is in
    least_both c.args.first c.with_term-first.result c.with_links.result (term_faults c.args.scope.now c.in-Chain.operand.value)
    (links_faults c.args.scope.now (links_of c.in-Chain.links.items))
    (c.with_term-first.ensures ∙ ap (λ a. least c.args.first (term_faults c.args.scope.now a)) c.deref-in-Chain.ensures)
    (c.with_links.ensures ∙ ap (λ all. least c.with_term-first.result (links_faults c.args.scope.now (links_of all))) c.deref-in-Chain-2.ensures.value)
    ∙ ap (λ a. least c.args.first (term_faults c.args.scope.now a)) (sym e)

pub with_term-returns-in-Among : goal.with_term-returns-in-Among
with_term-returns-in-Among t c =
    let e = sym c.term.view_is ∙ ap syntax_of c.in-Among.is in
    least_both c.args.first c.with_term-first-in-Among.result c.with_members.result (term_faults c.args.scope.now c.in-Among.operand.value)
    (members_faults c.args.scope.now (members_of c.in-Among.members.items))
    (c.with_term-first-in-Among.ensures ∙ ap (λ a. least c.args.first (term_faults c.args.scope.now a)) c.deref-in-Among.ensures)
    (c.with_members.ensures ∙ ap (λ all. least c.with_term-first-in-Among.result (members_faults c.args.scope.now (members_of all)))
    c.deref-in-Among-2.ensures.value)
    ∙ ap (λ a. least c.args.first (term_faults c.args.scope.now a)) (sym e)

pub with_term-returns-in-Loop : goal.with_term-returns-in-Loop
with_term-returns-in-Loop t c =
    let whole = sym (ap syntax_of c.in-Loop.is) ∙ c.term.view_is in
    c.with_loop.ensures ∙ ap (λ a. least c.args.first (term_faults c.args.scope.now a)) (ap (loop c.in-Loop.header) c.deref-in-Loop.ensures ∙ whole)

pub with_loop-returns : goal.with_loop-returns
with_loop-returns t c =
    let inner = c.bind_letters.ensures ∙ ap (λ is. scope_within is c.args.scope.now) c.as_slice.ensures in
    least_both c.args.first c.with_header-first.result c.with_term.result (header_faults c.args.header.now)
    (term_faults (scope_within c.args.header.now.indexes c.args.scope.now) c.args.body.now)
    c.with_header-first.ensures
    (c.with_term.ensures ∙ (λ k. least c.with_header-first.result (term_faults (inner k) c.args.body.now)))
