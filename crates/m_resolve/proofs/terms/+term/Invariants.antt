use Rattle.std.proofs.Common.{◌≡◌, ◌+◌, ◌*◌, [], ◌∷◌, drop}
use Rattle.m_ast.specs.Syntax.{nodes, nodes_of_terms, nodes_of_links, nodes_of_members}
use Rattle.m_ast.specs.View.{terms_of}
use Rattle.m_ast.specs.PlainView.{links_of, members_of}
use Rattle.m_resolve.specs.Terms.{if_resolved, resolved_term, resolved_terms, resolved_links, resolved_members}
use Rattle.m_resolve.proofs.terms.+term.Given as goal

abbrev pub decreases-term : goal.decreases-term
decreases-term l = 3 * nodes l.term.now

abbrev pub decreases-table_read : goal.decreases-table_read
decreases-table_read l = 3 * nodes l.index.now + 1

abbrev pub decreases-applied : goal.decreases-applied
decreases-applied l = 3 * nodes_of_terms (terms_of l.arguments.now) + 2

abbrev pub decreases-terms : goal.decreases-terms
decreases-terms l = 3 * nodes_of_terms (terms_of l.all.now) + 1

abbrev pub decreases-chained : goal.decreases-chained
decreases-chained l = 3 * (nodes l.first.now + nodes_of_links (links_of l.links.now)) + 1

abbrev pub decreases-among : goal.decreases-among
decreases-among l = 3 * (nodes l.x.now + nodes_of_members (members_of l.members.now)) + 2

abbrev pub decreases-member_steps : goal.decreases-member_steps
decreases-member_steps l = 3 * (nodes l.x.now + nodes_of_members (members_of (l.first.now ∷ l.others.now))) + 1

abbrev pub decreases-member : goal.decreases-member
decreases-member l = 3 * (nodes l.x.now + nodes l.member.now.low + nodes l.member.now.high) + 1

abbrev pub invariant-terms-loop-one : goal.invariant-terms-loop-one
invariant-terms-loop-one l = resolved_terms l.symbols l.trees.items (terms_of (drop l.one-index l.all)) ≡ resolved_terms l.symbols [] (terms_of l.all)

abbrev pub invariant-chained-loop-link : goal.invariant-chained-loop-link
invariant-chained-loop-link l = resolved_links l.symbols l.steps.items (links_of (drop l.link-index l.links)) ≡ resolved_links l.symbols [] (links_of l.links)

abbrev pub invariant-member_steps-loop-one : goal.invariant-member_steps-loop-one
invariant-member_steps-loop-one l =
    if_resolved (λ t. resolved_members l.symbols t l.steps.items (members_of (drop l.one-index l.others))) (resolved_term l.symbols l.x)
    ≡ if_resolved (λ t. resolved_members l.symbols t [] (members_of (l.first ∷ l.others))) (resolved_term l.symbols l.x)
