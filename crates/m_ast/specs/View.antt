-- The syntax of a node, and of lists of its parts.
use Rattle.std.specs.Prelude.{List, [], ◌∷◌}
use Rattle.m_ast.specs.declared.term.Node.{Node}
use Rattle.m_ast.specs.declared.term.Node.TheVariants.{Lit, Named, X, Cell, Apply, Chain, Among, Loop}
use Rattle.m_ast.specs.declared.term.Link.{Link}
use Rattle.m_ast.specs.declared.term.Member.{Member}
use Rattle.m_ast.specs.Syntax.{Syntax, lit, named, the_x, cell, apply, chain, among, loop, Terms, no_terms, a_term, Links, no_links, a_link, Members}
use Rattle.m_ast.specs.Syntax.{no_members, a_member}

abbrev pub terms_of : List Syntax → Terms
terms_of [] = no_terms
terms_of (a ∷ rest) = a_term a (terms_of rest)

abbrev pub links_of : List Link → Links
links_of [] = no_links
links_of (a ∷ rest) = a_link a.op a.term (links_of rest)

abbrev pub members_of : List Member → Members
members_of [] = no_members
members_of (a ∷ rest) = a_member a.low a.high (members_of rest)

abbrev pub syntax_of : Node → Syntax
syntax_of (Lit v) = lit v
syntax_of (Named n p) = named n p
syntax_of (X p) = the_x p
syntax_of (Cell n a p) = cell n a.value p
syntax_of (Apply op all) = apply op (terms_of all.items)
syntax_of (Chain a all) = chain a.value (links_of all.items)
syntax_of (Among negated a all) = among negated a.value (members_of all.items)
syntax_of (Loop h a) = loop h a.value
