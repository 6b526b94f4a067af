use Rattle.m_ast.specs.View.{terms_of, links_of, members_of}
use Rattle.index_expand.proofs.Loads.{load, terms_load, links_load, members_load}
use Rattle.index_expand.proofs.joined.+has_nested.Given as goal

abbrev pub decreases-has_nested : goal.decreases-has_nested
decreases-has_nested l = load l.term.now

abbrev pub decreases-term_has_nested : goal.decreases-term_has_nested
decreases-term_has_nested l = terms_load (terms_of l.terms.now)

abbrev pub decreases-link_has_nested : goal.decreases-link_has_nested
decreases-link_has_nested l = links_load (links_of l.links.now)

abbrev pub decreases-member_has_nested : goal.decreases-member_has_nested
decreases-member_has_nested l = members_load (members_of l.members.now)
