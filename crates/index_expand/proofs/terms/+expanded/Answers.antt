use Rattle.std.proofs.Common.{◌≡◌, arith, ap, sym, subst, ◌∙◌, length, ◌++◌, ◌-◌, map, take, drop}
use Rattle.std.proofs.lemmas.List.{take-append-drop, take_all, length-drop}
use Rattle.std.proofs.Math.ListN.{set}
use Rattle.std.specs.Prelude.{IfOk}
use Rattle.m_ast.specs.Syntax.{Syntax, apply, chain, among, loop}
use Rattle.m_ast.specs.View.{syntax_of, terms_of, links_of, members_of}
use Rattle.m_ast.specs.PlainView.{links_of as plain_links_of, members_of as plain_members_of}
use Rattle.loop_values.specs.Headers.{instances}
use Rattle.loop_values.specs.Letters.{bind}
use Rattle.loop_values.specs.inner.Singles.{unbound}
use Rattle.index_expand.specs.Terms.{expanded}
use Rattle.index_expand.specs.inner.Operands.{link_expanded, member_expanded, instance_link, links_sum}
use Rattle.index_expand.proofs.TermLemmas.{term_below, link_below, low_below, high_below, terms_map, links_map, members_map, sum_is, instances_next, put_back}
use Rattle.index_expand.proofs.terms.+expanded.Goals as goal

pub expand_bound-returns-clause-letters : goal.expand_bound-returns-clause-letters
expand_bound-returns-clause-letters t c =
    ap (λ ls. set ls c.args.binding.now.letter c.replace-outer.result) c.in_ok-expand_instances.ensures.letters
    ∙ put_back c.args.letters.now c.args.binding.now.letter _ c.replace-outer.result c.index-letters-binding.result c.replace-outer.ensures.value

pub expand_singles-returns-in-Ok-clause-links : goal.expand_singles-returns-in-Ok-clause-links
expand_singles-returns-in-Ok-clause-links t c =
    let indexes = c.args.indexes.now in
    let singles = c.args.singles in
    let rest = drop singles indexes in
    let whole = take_all (length indexes - singles) rest (omega (arith, length-drop singles indexes)) in
    c.in-Ok.ensures.links
    ∙ ap (λ all. c.args.links.now.items ++ map (instance_link c.args.cell c.args.body.now) all)
    (ap (λ xs. instances xs c.bind_singles.new.letters) whole ∙ sym (c.in_ok-outer.ensures.instances rest)
    ∙ ap (λ xs. instances xs c.args.letters.now) (take-append-drop singles indexes))

pub expand_singles-returns-in-Ok-clause-letters : goal.expand_singles-returns-in-Ok-clause-letters
expand_singles-returns-in-Ok-clause-letters t c =
    c.put_back.ensures ∙ ap (unbound (take c.args.singles c.args.indexes.now) c.in_ok-outer.outer.items) c.in-Ok.ensures.letters ∙ c.in_ok-outer.ensures.outer

pub expand_index-loop-value-preserved : goal.expand_index-loop-value-preserved
expand_index-loop-value-preserved t c = record {
  letters = c.in_ok-expand_bound.ensures.letters ∙ c.loop-value.invariant.letters;
  links =
      instances_next (instance_link c.args.cell c.args.body.now) (λ value. instances c.args.indexes.now (bind c.args.letters.now c.args.index.now.letter value))
      c.deref-value-items.result.now c.loop-value.value-index c.value-item.result
      c.loop-value.links.items _ _ c.loop-value-test.true c.value-item.is c.loop-value.invariant.links
      (c.in_ok-expand_bound.ensures.links
      ∙ ap (λ ls. c.loop-value.links.items ++ map (instance_link c.args.cell c.args.body.now)
      (instances c.args.indexes.now (bind ls c.args.index.now.letter c.value-item.result))) c.loop-value.invariant.letters);
}

pub expanded_box-returns-in-Apply-clause-term : goal.expanded_box-returns-in-Apply-clause-term
expanded_box-returns-in-Apply-clause-term t c =
    let whole = sym (ap syntax_of c.in-Apply.is) ∙ c.term.view_is in
    let P : Syntax → Type 0 = λ s. IfOk c.expanded_apply.result (λ made. made.value ≡ expanded c.args.cell c.args.letters.now s) in
    subst P (ap (λ xs. apply c.in-Apply.op (terms_of xs)) c.deref-in-Apply.ensures.value ∙ whole) c.expanded_apply.ensures.term

pub expanded_box-returns-in-Chain-clause-term : goal.expanded_box-returns-in-Chain-clause-term
expanded_box-returns-in-Chain-clause-term t c =
    let whole = sym (ap syntax_of c.in-Chain.is) ∙ c.term.view_is in
    let P : Syntax → Type 0 = λ s. IfOk c.expanded_chain.result (λ made. made.value ≡ expanded c.args.cell c.args.letters.now s) in
    subst P ((λ k. chain (c.deref-in-Chain.ensures k) (links_of (c.deref-in-Chain-2.ensures.value k))) ∙ whole) c.expanded_chain.ensures.term

pub expanded_box-returns-in-Among-clause-term : goal.expanded_box-returns-in-Among-clause-term
expanded_box-returns-in-Among-clause-term t c =
    let whole = sym (ap syntax_of c.in-Among.is) ∙ c.term.view_is in
    let P : Syntax → Type 0 = λ s. IfOk c.expanded_among.result (λ made. made.value ≡ expanded c.args.cell c.args.letters.now s) in
    subst P ((λ k. among c.in-Among.negated (c.deref-in-Among.ensures k) (members_of (c.deref-in-Among-2.ensures.value k))) ∙ whole)
    c.expanded_among.ensures.term

pub expanded_box-returns-in-Loop-clause-term : goal.expanded_box-returns-in-Loop-clause-term
expanded_box-returns-in-Loop-clause-term t c =
    let whole = sym (ap syntax_of c.in-Loop.is) ∙ c.term.view_is in
    let P : Syntax → Type 0 = λ s. IfOk c.expanded_loop.result (λ made. made.value ≡ expanded c.args.cell c.args.letters.now s) in
    subst P (ap (loop c.in-Loop.header) c.deref-in-Loop.ensures ∙ whole) c.expanded_loop.ensures.term

pub expanded_apply-returns-clause-term : goal.expanded_apply-returns-clause-term
expanded_apply-returns-clause-term t c =
    let cell = c.args.cell in
    let letters = c.args.letters.now in
    let P : Syntax → Type 0 = λ s. IfOk c.boxed.result (λ made. made.value ≡ s) in
    subst P (ap (λ xs. apply c.args.op (terms_of xs)) c.in_ok-arguments.ensures.terms ∙ ap (apply c.args.op) (terms_map cell letters c.args.arguments.now))
    c.boxed.ensures

pub expanded_chain-returns-in-Ok-clause-term : goal.expanded_chain-returns-in-Ok-clause-term
expanded_chain-returns-in-Ok-clause-term t c =
    let cell = c.args.cell in
    let letters = c.args.letters.now in
    let items = c.in-Ok.ensures.links ∙ ap (λ ls. map (link_expanded cell ls) c.args.links.now) c.in_ok-first.ensures.letters in
    let rest = ap plain_links_of items ∙ links_map cell letters c.args.links.now in
    let P : Syntax → Type 0 = λ s. IfOk c.boxed.result (λ made. made.value ≡ s) in
    subst P (λ k. chain (c.in_ok-first.ensures.term k) (rest k)) c.boxed.ensures

pub expanded_among-returns-in-Ok-clause-term : goal.expanded_among-returns-in-Ok-clause-term
expanded_among-returns-in-Ok-clause-term t c =
    let cell = c.args.cell in
    let letters = c.args.letters.now in
    let items = c.in-Ok.ensures.members ∙ ap (λ ls. map (member_expanded cell ls) c.args.members.now) c.in_ok-first.ensures.letters in
    let rest = ap plain_members_of items ∙ members_map cell letters c.args.members.now in
    let P : Syntax → Type 0 = λ s. IfOk c.boxed.result (λ made. made.value ≡ s) in
    subst P (λ k. among c.args.negated (c.in_ok-first.ensures.term k) (rest k)) c.boxed.ensures

pub expanded_loop-returns-in-Ok-clause-term : goal.expanded_loop-returns-in-Ok-clause-term
expanded_loop-returns-in-Ok-clause-term t c =
    let cell = c.args.cell in
    let letters = c.args.letters.now in
    let operands = c.in-Ok.ensures.links
    ∙ (λ k. c.new-links.ensures.items k ++ map (instance_link cell c.args.body.now) (instances (c.as_slice-indexes.ensures k) letters)) in
    let P : Syntax → Type 0 = λ s. IfOk c.summed.result (λ made. made.value ≡ s) in
    subst P (ap links_sum operands ∙ sum_is cell c.args.body.now (instances c.args.header.now.indexes letters)) c.summed.ensures

pub expanded_terms-expanded_box-requires : goal.expanded_terms-expanded_box-requires
expanded_terms-expanded_box-requires t c = (
  omega (arith, term_below c.args.terms.now c.loop-term.term-index c.term-item.result c.loop-term-test.true c.term-item.is),
  ap length c.loop-term.invariant.letters ∙ c.requires,
)

pub expanded_links-expanded_box-requires : goal.expanded_links-expanded_box-requires
expanded_links-expanded_box-requires t c = (
  omega (arith, link_below c.args.links.now c.loop-link.link-index c.link-item.result c.loop-link-test.true c.link-item.is),
  ap length c.loop-link.invariant.letters ∙ c.requires,
)

pub expanded_members-expanded_box-requires : goal.expanded_members-expanded_box-requires
expanded_members-expanded_box-requires t c = (
  omega (arith, low_below c.args.members.now c.loop-member.member-index c.member-item.result c.loop-member-test.true c.member-item.is),
  ap length c.loop-member.invariant.letters ∙ c.requires,
)

pub expanded_members-expanded_box-requires-in-loop-member : goal.expanded_members-expanded_box-requires-in-loop-member
expanded_members-expanded_box-requires-in-loop-member t c = (
  omega (arith, high_below c.args.members.now c.loop-member.member-index c.member-item.result c.loop-member-test.true c.member-item.is),
  ap length (c.in-Ok.ensures.letters ∙ c.loop-member.invariant.letters) ∙ c.requires,
)
