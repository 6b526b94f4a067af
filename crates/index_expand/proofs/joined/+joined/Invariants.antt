use Rattle.std.proofs.Common.{◌≡◌, ◌+◌, map, take}
use Rattle.m_ast.specs.View.{terms_of, links_of, members_of}
use Rattle.index_expand.specs.inner.Meanings.{meaning, link_meaning, member_meaning}
use Rattle.index_expand.proofs.Loads.{load, terms_load, links_load, members_load}
use Rattle.index_expand.proofs.joined.+joined.Given as goal

abbrev pub decreases-joined : goal.decreases-joined
decreases-joined l = load l.term.now

abbrev pub decreases-joined_cell : goal.decreases-joined_cell
decreases-joined_cell l = load l.index.now + 1

abbrev pub decreases-joined_apply : goal.decreases-joined_apply
decreases-joined_apply l = terms_load (terms_of l.arguments.now) + 1

abbrev pub decreases-joined_chain : goal.decreases-joined_chain
decreases-joined_chain l = load l.first.now + links_load (links_of l.links.now) + 1

abbrev pub decreases-joined_among : goal.decreases-joined_among
decreases-joined_among l = load l.first.now + members_load (members_of l.members.now) + 1

abbrev pub decreases-joined_loop : goal.decreases-joined_loop
decreases-joined_loop l = load l.body.now + 1

abbrev pub decreases-joined_terms : goal.decreases-joined_terms
decreases-joined_terms l = terms_load (terms_of l.terms.now)

abbrev pub decreases-joined_links : goal.decreases-joined_links
decreases-joined_links l = links_load (links_of l.links.now)

abbrev pub decreases-joined_members : goal.decreases-joined_members
decreases-joined_members l = members_load (members_of l.members.now)

abbrev pub invariant-joined_terms-loop-term : goal.invariant-joined_terms-loop-term
invariant-joined_terms-loop-term l = map meaning l.copies.items ≡ map meaning (take l.term-index l.terms)

abbrev pub invariant-joined_links-loop-link : goal.invariant-joined_links-loop-link
invariant-joined_links-loop-link l = map link_meaning l.copies.items ≡ map link_meaning (take l.link-index l.links)

abbrev pub invariant-joined_members-loop-member : goal.invariant-joined_members-loop-member
invariant-joined_members-loop-member l = map member_meaning l.copies.items ≡ map member_meaning (take l.member-index l.members)
