use Rattle.std.proofs.Common.{◌≡◌, Ok, [], map, sym, ap, ◌∙◌, arith}
use Rattle.std.proofs.lemmas.List.{drop_all}
use Rattle.mpp_parser.specs.TermView.{links_of}
use Rattle.micro_m.specs.Trees.{apply, chain}
use Rattle.micro_m.specs.Views.{trees_of, steps_of}
use Rattle.micro_m.proofs.LeafLemmas.{trees-written, written_step, steps-written}
use Rattle.driver_core.specs.Leaves.{leaf_tree, rule_term}
use Rattle.mpp_core.specs.Names.{if_resolved}
use Rattle.mpp_core.specs.Bodies.{resolved_links}
use Rattle.mpp_core.proofs.ListLemmas.{term_size, link_size}
use Rattle.mpp_core.proofs.terms.+term.Goals as goal

pub terms-term-requires : goal.terms-term-requires
terms-term-requires t c = (omega (arith, term_size c.args.all.now c.loop-one.one-index _ c.loop-one-test.true c.one-item.is), c.requires)

pub chained-term-requires-in-loop-link : goal.chained-term-requires-in-loop-link
chained-term-requires-in-loop-link t c = (omega (arith, link_size c.args.links.now c.loop-link.link-index _ c.loop-link-test.true c.link-item.is), c.requires)

pub applied-returns : goal.applied-returns
applied-returns t c =
    ap (if_resolved (λ all. Ok (apply c.args.op (trees_of all)))) c.in_ok-arguments.ensures
    ∙ ap Ok (sym (ap (apply c.args.op) (trees-written leaf_tree c.in_ok-arguments.arguments.items)) ∙ sym c.in_ok-boxed.ensures)

pub chained-returns : goal.chained-returns
chained-returns t c =
    let scope = c.args.scope.now in
    let line = c.args.line in
    let links = c.args.links.now in
    let first = rule_term c.in_ok-first.first.value in
    let steps = c.loop-link.steps.items in
    let linked : resolved_links scope line [] (links_of links) ≡ Ok (map (written_step leaf_tree) steps) = sym c.loop-link.invariant
    ∙ ap (λ l. resolved_links scope line (map (written_step leaf_tree) steps) (links_of l)) (drop_all c.loop-link.link-index links c.loop-link-test.false) in
    ap (if_resolved (λ f. if_resolved (λ ss. Ok (chain f (steps_of ss))) (resolved_links scope line [] (links_of links)))) c.in_ok-first.ensures
    ∙ ap (if_resolved (λ ss. Ok (chain first (steps_of ss)))) linked
    ∙ ap Ok (sym (ap (chain first) (steps-written leaf_tree steps)) ∙ sym c.in_ok-boxed.ensures)
