-- The syntax of a node without loops, and of lists of its parts.
use Rattle.std.specs.Prelude.{List, [], ◌∷◌}
use Rattle.m_ast.specs.declared.plain_term.PNode.{PNode}
use Rattle.m_ast.specs.declared.plain_term.PNode.TheVariants.{Lit, Named, X, Cell, Apply, Chain, Among}
use Rattle.m_ast.specs.declared.plain_term.PLink.{PLink}
use Rattle.m_ast.specs.declared.plain_term.PMember.{PMember}
use Rattle.m_ast.specs.View.{terms_of}
use Rattle.m_ast.specs.Syntax.{Syntax, lit, named, the_x, cell, apply, chain, among, Links, no_links, a_link, Members, no_members, a_member}

abbrev pub links_of : List PLink → Links
links_of [] = no_links
links_of (a ∷ rest) = a_link a.op a.term (links_of rest)

abbrev pub members_of : List PMember → Members
members_of [] = no_members
members_of (a ∷ rest) = a_member a.low a.high (members_of rest)

abbrev pub syntax_of : PNode → Syntax
syntax_of (Lit v) = lit v
syntax_of (Named n p) = named n p
syntax_of (X p) = the_x p
syntax_of (Cell n a p) = cell n a.value p
syntax_of (Apply op all) = apply op (terms_of all.items)
syntax_of (Chain a all) = chain a.value (links_of all.items)
syntax_of (Among negated a all) = among negated a.value (members_of all.items)
