use Rattle.std.proofs.Common.{◌≡◌, ◌++◌, ◌+◌, ◌*◌, length, drop, map}
use Rattle.std.specs.List.{flat_map}
use Rattle.m_ast.specs.View.{terms_of, links_of, members_of}
use Rattle.loop_values.specs.Headers.{instances}
use Rattle.loop_values.specs.Letters.{bind}
use Rattle.index_expand.specs.Terms as spec
use Rattle.index_expand.specs.inner.Operands.{link_expanded, member_expanded, instance_link}
use Rattle.index_expand.proofs.Loads.{load, terms_load, links_load, members_load}
use Rattle.index_expand.proofs.terms.+expanded.Given as goal

abbrev pub decreases-expanded_box : goal.decreases-expanded_box
decreases-expanded_box l = load l.term.now

abbrev pub decreases-expanded_cell : goal.decreases-expanded_cell
decreases-expanded_cell l = load l.index.now + 1

abbrev pub decreases-expanded_apply : goal.decreases-expanded_apply
decreases-expanded_apply l = terms_load (terms_of l.arguments.now) + 1

abbrev pub decreases-expanded_chain : goal.decreases-expanded_chain
decreases-expanded_chain l = load l.first.now + links_load (links_of l.links.now) + 1

abbrev pub decreases-expanded_among : goal.decreases-expanded_among
decreases-expanded_among l = load l.first.now + members_load (members_of l.members.now) + 1

abbrev pub decreases-expanded_loop : goal.decreases-expanded_loop
decreases-expanded_loop l = load l.body.now + 3 * length l.header.now.indexes + 2

abbrev pub decreases-expanded_terms : goal.decreases-expanded_terms
decreases-expanded_terms l = terms_load (terms_of l.terms.now)

abbrev pub decreases-expanded_links : goal.decreases-expanded_links
decreases-expanded_links l = links_load (links_of l.links.now)

abbrev pub decreases-expanded_members : goal.decreases-expanded_members
decreases-expanded_members l = members_load (members_of l.members.now)

abbrev pub decreases-expand_instances : goal.decreases-expand_instances
decreases-expand_instances l = load l.body.now + 3 * length l.indexes.now + 1

abbrev pub decreases-expand_singles : goal.decreases-expand_singles
decreases-expand_singles l = load l.body.now + 3 * length l.indexes.now

abbrev pub decreases-expand_index : goal.decreases-expand_index
decreases-expand_index l = load l.body.now + 3 * length l.indexes.now + 3

abbrev pub decreases-expand_bound : goal.decreases-expand_bound
decreases-expand_bound l = load l.body.now + 3 * length l.indexes.now + 2

abbrev pub invariant-expanded_terms-loop-term : goal.invariant-expanded_terms-loop-term
invariant-expanded_terms-loop-term l = record {
  letters : l.letters ≡ l.initial.letters;
  copies : l.copies.items ++ map (spec.expanded l.cell l.initial.letters) (drop l.term-index l.terms) ≡ map (spec.expanded l.cell l.initial.letters) l.terms;
}

abbrev pub invariant-expanded_links-loop-link : goal.invariant-expanded_links-loop-link
invariant-expanded_links-loop-link l = record {
  letters : l.letters ≡ l.initial.letters;
  copies : l.copies.items ++ map (link_expanded l.cell l.initial.letters) (drop l.link-index l.links) ≡ map (link_expanded l.cell l.initial.letters) l.links;
}

abbrev pub invariant-expanded_members-loop-member : goal.invariant-expanded_members-loop-member
invariant-expanded_members-loop-member l = record {
  letters : l.letters ≡ l.initial.letters;
  copies : l.copies.items ++ map (member_expanded l.cell l.initial.letters) (drop l.member-index l.members) ≡ map (member_expanded l.cell l.initial.letters)
      l.members;
}

abbrev pub invariant-expand_index-loop-value : goal.invariant-expand_index-loop-value
invariant-expand_index-loop-value l = record {
  letters : l.letters ≡ l.initial.letters;
  links : l.links.items ++ map (instance_link l.cell l.body) (flat_map (λ value. instances l.indexes (bind l.initial.letters l.index.letter value))
      (drop l.value-index l.value-items))
      ≡ l.initial.links.items ++ map (instance_link l.cell l.body) (flat_map (λ value. instances l.indexes (bind l.initial.letters l.index.letter value))
      l.value-items);
}
