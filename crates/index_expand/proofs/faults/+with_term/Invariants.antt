use Rattle.std.proofs.Common.{◌≡◌, ◌+◌, drop}
use Rattle.m_ast.specs.View.{terms_of, links_of, members_of}
use Rattle.index_expand.specs.LoopFaults as spec
use Rattle.index_expand.proofs.Loads.{load, terms_load, links_load, members_load}
use Rattle.index_expand.proofs.faults.+with_term.Given as goal

abbrev pub decreases-with_term : goal.decreases-with_term
decreases-with_term l = load l.term.now

abbrev pub decreases-with_loop : goal.decreases-with_loop
decreases-with_loop l = load l.body.now + 1

abbrev pub decreases-with_terms : goal.decreases-with_terms
decreases-with_terms l = terms_load (terms_of l.terms.now)

abbrev pub decreases-with_links : goal.decreases-with_links
decreases-with_links l = links_load (links_of l.links.now)

abbrev pub decreases-with_members : goal.decreases-with_members
decreases-with_members l = members_load (members_of l.members.now)

abbrev pub invariant-with_terms-loop-term : goal.invariant-with_terms-loop-term
invariant-with_terms-loop-term l = spec.least l.first (spec.terms_faults l.scope (terms_of (drop l.term-index l.terms))) ≡ spec.least l.initial.first
    (spec.terms_faults l.scope (terms_of l.terms))

abbrev pub invariant-with_links-loop-link : goal.invariant-with_links-loop-link
invariant-with_links-loop-link l = spec.least l.first (spec.links_faults l.scope (links_of (drop l.link-index l.links))) ≡ spec.least l.initial.first
    (spec.links_faults l.scope (links_of l.links))

abbrev pub invariant-with_members-loop-member : goal.invariant-with_members-loop-member
invariant-with_members-loop-member l = spec.least l.first (spec.members_faults l.scope (members_of (drop l.member-index l.members))) ≡ spec.least
    l.initial.first (spec.members_faults l.scope (members_of l.members))
