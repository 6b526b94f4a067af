use Rattle.std.proofs.Common.{◌≡◌, ◌+◌, ◌*◌, [], drop, map}
use Rattle.mpp_parser.specs.Trees.{term_nodes, nodes_of_terms, nodes_of_links}
use Rattle.mpp_parser.specs.TermView.{terms_of, links_of}
use Rattle.micro_m.proofs.LeafLemmas.{written_step}
use Rattle.driver_core.specs.Leaves.{leaf_tree, rule_term}
use Rattle.mpp_core.specs.Bodies.{resolved_terms, resolved_links}
use Rattle.mpp_core.proofs.terms.+term.Given as goal

abbrev pub decreases-term : goal.decreases-term
decreases-term l = 3 * term_nodes l.term.now

abbrev pub decreases-applied : goal.decreases-applied
decreases-applied l = 3 * nodes_of_terms (terms_of l.arguments.now) + 2

abbrev pub decreases-terms : goal.decreases-terms
decreases-terms l = 3 * nodes_of_terms (terms_of l.all.now) + 1

abbrev pub decreases-chained : goal.decreases-chained
decreases-chained l = 3 * (term_nodes l.first.now + nodes_of_links (links_of l.links.now)) + 1

abbrev pub invariant-terms-loop-one : goal.invariant-terms-loop-one
invariant-terms-loop-one l = resolved_terms l.scope l.line (map rule_term l.stated.items) (terms_of (drop l.one-index l.all)) ≡ resolved_terms l.scope l.line []
    (terms_of l.all)

abbrev pub invariant-chained-loop-link : goal.invariant-chained-loop-link
invariant-chained-loop-link l = resolved_links l.scope l.line (map (written_step leaf_tree) l.steps.items) (links_of (drop l.link-index l.links))
    ≡ resolved_links l.scope l.line []
    (links_of l.links)
