use Rattle.std.proofs.Common.{◌≡◌, take}
use Rattle.m_ast.proofs.copy_term.+copied.Given as goal

abbrev pub invariant-copied_terms-loop-term : goal.invariant-copied_terms-loop-term
invariant-copied_terms-loop-term l = l.copies.items ≡ take l.term-index l.terms

abbrev pub invariant-copied_links-loop-link : goal.invariant-copied_links-loop-link
invariant-copied_links-loop-link l = l.copies.items ≡ take l.link-index l.links

abbrev pub invariant-copied_members-loop-member : goal.invariant-copied_members-loop-member
invariant-copied_members-loop-member l = l.copies.items ≡ take l.member-index l.members
