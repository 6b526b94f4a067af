use Rattle.std.proofs.Common.{◌≡◌, ℕ, ◌+◌, ◌≤◌, drop, min}
use Rattle.m_places.specs.declared.limits.TheConstants.{PARTS}
use Rattle.m_ast.specs.View.{terms_of, links_of, members_of}
use Rattle.index_expand.specs.Parts as spec
use Rattle.index_expand.proofs.parts.+parts.Given as goal

abbrev pub invariant-terms_parts-loop-term : goal.invariant-terms_parts-loop-term
invariant-terms_parts-loop-term l = (l.count ≤ PARTS)
    × (min (l.count + spec.terms_parts (terms_of (drop l.term-index l.terms))) PARTS ≡ min (spec.terms_parts (terms_of l.terms)) PARTS)

abbrev pub invariant-links_parts-loop-link : goal.invariant-links_parts-loop-link
invariant-links_parts-loop-link l = (l.count ≤ PARTS)
    × (min (l.count + spec.links_parts (links_of (drop l.link-index l.links))) PARTS ≡ min (l.first + spec.links_parts (links_of l.links)) PARTS)

abbrev pub invariant-members_parts-loop-member : goal.invariant-members_parts-loop-member
invariant-members_parts-loop-member l =
    (l.count ≤ PARTS + 1)
    × ((x : ℕ) → l.first ≡ min x PARTS → min (l.count + spec.members_parts x (members_of (drop l.member-index l.members))) (PARTS + 1) ≡ min
    (spec.members_parts x (members_of l.members)) (PARTS + 1))
