use Rattle.std.proofs.Common.{◌≡◌, ℕ, arith, ap, refl, sym, subst, ◌∙◌}
use Rattle.std.specs.Prelude.{IfOk, Option}
use Rattle.m_ast.specs.declared.term.Link.{Link}
use Rattle.m_ast.specs.declared.term.Member.{Member}
use Rattle.m_ast.specs.Syntax.{Syntax, cell, apply, chain, among, loop}
use Rattle.m_ast.specs.View.{syntax_of, terms_of, links_of, members_of}
use Rattle.loop_values.specs.Letters.{Letters}
use Rattle.index_expand.specs.inner.Meanings.{meaning, link_meaning, member_meaning}
use Rattle.index_expand.proofs.TermLemmas.{term_below, link_below, low_below, high_below}
use Rattle.index_expand.proofs.JoinedLemmas.{cell_same, apply_same, chain_same, among_same, loop_same, link_same, member_same, same_more}
use Rattle.index_expand.proofs.joined.+joined.Goals as goal

pub joined-returns-in-Apply : goal.joined-returns-in-Apply
joined-returns-in-Apply t c =
    let whole = sym (ap syntax_of c.in-Apply.is) ∙ c.term.view_is in
    let P : Syntax → Type 0 = λ s. IfOk c.joined_apply.result (λ made. meaning made.value ≡ meaning s) in
    subst P (ap (λ xs. apply c.in-Apply.op (terms_of xs)) c.deref-in-Apply.ensures.value ∙ whole) c.joined_apply.ensures

pub joined-returns-in-Chain : goal.joined-returns-in-Chain
joined-returns-in-Chain t c =
    let whole = sym (ap syntax_of c.in-Chain.is) ∙ c.term.view_is in
    let P : Syntax → Type 0 = λ s. IfOk c.joined_chain.result (λ made. meaning made.value ≡ meaning s) in
    subst P ((λ k. chain (c.deref-in-Chain.ensures k) (links_of (c.deref-in-Chain-2.ensures.value k))) ∙ whole) c.joined_chain.ensures

pub joined-returns-in-Among : goal.joined-returns-in-Among
joined-returns-in-Among t c =
    let whole = sym (ap syntax_of c.in-Among.is) ∙ c.term.view_is in
    let P : Syntax → Type 0 = λ s. IfOk c.joined_among.result (λ made. meaning made.value ≡ meaning s) in
    subst P ((λ k. among c.in-Among.negated (c.deref-in-Among.ensures k) (members_of (c.deref-in-Among-2.ensures.value k))) ∙ whole) c.joined_among.ensures

pub joined-returns-in-Loop : goal.joined-returns-in-Loop
joined-returns-in-Loop t c =
    let whole = sym (ap syntax_of c.in-Loop.is) ∙ c.term.view_is in
    let P : Syntax → Type 0 = λ s. IfOk c.joined_loop.result (λ made. meaning made.value ≡ meaning s) in
    subst P (ap (loop c.in-Loop.header) c.deref-in-Loop.ensures ∙ whole) c.joined_loop.ensures

pub joined_cell-returns-in-Ok : goal.joined_cell-returns-in-Ok
joined_cell-returns-in-Ok t c =
    let P : (Option ℕ → Letters → Syntax) → Type 0 = λ m. IfOk c.in_box.result (λ made. meaning made.value ≡ m) in
    subst P (ap (λ w. meaning (cell w c.in_ok-index.index.value c.args.place)) c.in-Ok.ensures
    ∙ cell_same c.args.word.now c.args.place c.in_ok-index.index.value c.args.index.now c.in_ok-index.ensures) c.in_box.ensures

pub joined_apply-returns : goal.joined_apply-returns
joined_apply-returns t c =
    let P : (Option ℕ → Letters → Syntax) → Type 0 = λ m. IfOk c.in_box.result (λ made. meaning made.value ≡ m) in
    subst P (apply_same c.args.op c.in_ok-arguments.arguments.items c.args.arguments.now c.in_ok-arguments.ensures) c.in_box.ensures

pub joined_chain-returns-in-Ok : goal.joined_chain-returns-in-Ok
joined_chain-returns-in-Ok t c =
    let P : (Option ℕ → Letters → Syntax) → Type 0 = λ m. IfOk c.in_box.result (λ made. meaning made.value ≡ m) in
    subst P (chain_same c.in_ok-first.first.value c.args.first.now c.in-Ok.links.items c.args.links.now c.in_ok-first.ensures c.in-Ok.ensures) c.in_box.ensures

pub joined_among-returns-in-Ok : goal.joined_among-returns-in-Ok
joined_among-returns-in-Ok t c =
    let P : (Option ℕ → Letters → Syntax) → Type 0 = λ m. IfOk c.in_box.result (λ made. meaning made.value ≡ m) in
    subst P (among_same c.args.negated c.in_ok-first.first.value c.args.first.now c.in-Ok.members.items c.args.members.now c.in_ok-first.ensures
    c.in-Ok.ensures) c.in_box.ensures

pub joined_loop-returns : goal.joined_loop-returns
joined_loop-returns t c =
    let P : (Option ℕ → Letters → Syntax) → Type 0 = λ m. IfOk c.loop_over.result (λ made. meaning made.value ≡ m) in
    let whole = ap meaning (c.body.view_is ∙ c.into_inner-body.ensures) ∙ c.in_ok-body.ensures in
    subst P (loop_same c.args.header.now (syntax_of c.body.inside.node) c.args.body.now whole) c.loop_over.ensures

pub joined_terms-joined-requires : goal.joined_terms-joined-requires
joined_terms-joined-requires t c = (
  omega (arith, term_below c.args.terms.now c.loop-term.term-index c.term-item.result c.loop-term-test.true c.term-item.is),
  tt,
)

pub joined_links-joined-requires : goal.joined_links-joined-requires
joined_links-joined-requires t c = (
  omega (arith, link_below c.args.links.now c.loop-link.link-index c.link-item.result c.loop-link-test.true c.link-item.is),
  tt,
)

pub joined_members-joined-requires : goal.joined_members-joined-requires
joined_members-joined-requires t c = (
  omega (
    arith,
    low_below c.args.members.now c.loop-member.member-index c.member-item.result c.loop-member-test.true
        c.member-item.is,
  ),
  tt,
)

pub joined_members-joined-requires-in-loop-member : goal.joined_members-joined-requires-in-loop-member
joined_members-joined-requires-in-loop-member t
    c = (omega (arith, high_below c.args.members.now c.loop-member.member-index c.member-item.result c.loop-member-test.true c.member-item.is), tt)

pub joined_terms-loop-term-preserved : goal.joined_terms-loop-term-preserved
joined_terms-loop-term-preserved t c =
    same_more meaning c.loop-term.copies.items c.push.new.self.items c.args.terms.now c.loop-term.term-index c.term-item.result c.into_inner.result
    c.loop-term-test.true c.term-item.is c.loop-term.invariant
    (ap meaning c.into_inner.ensures ∙ c.in_ok-copy.ensures) c.in_ok-push.ensures.items

pub joined_links-loop-link-preserved : goal.joined_links-loop-link-preserved
joined_links-loop-link-preserved t c =
    let x = c.link-item.result in
    let y : Link = record { op = x.op; term = c.into_inner.result } in
    same_more link_meaning c.loop-link.copies.items c.push.new.self.items c.args.links.now c.loop-link.link-index x y c.loop-link-test.true c.link-item.is
    c.loop-link.invariant
    (link_same y x refl (ap meaning c.into_inner.ensures ∙ c.in_ok-term.ensures)) c.in_ok-push.ensures.items

pub joined_members-loop-member-preserved : goal.joined_members-loop-member-preserved
joined_members-loop-member-preserved t c =
    let x = c.member-item.result in
    let y : Member = record { low = c.into_inner.result; high = c.into_inner-in-loop-member.result } in
    same_more member_meaning c.loop-member.copies.items c.push.new.self.items c.args.members.now c.loop-member.member-index x y c.loop-member-test.true
    c.member-item.is c.loop-member.invariant
    (member_same y x (ap meaning c.into_inner.ensures ∙ c.in_ok-low.ensures) (ap meaning c.into_inner-in-loop-member.ensures ∙ c.in_ok-high.ensures))
    c.in_ok-push.ensures.items
