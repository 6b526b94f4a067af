-- Each part of a term has fewer nodes than the term. The lemmas `sizes_fall_..` discharge the
-- measure of a helper over a list of a term's parts, in the crates that use this one.
use Rattle.std.specs.Prelude.{◌+◌, ◌*◌, ◌≤◌, max, List, [], ◌∷◌}
use Rattle.std.proofs.Common.{arith}
use Rattle.m_ast.specs.declared.plain_term.PNode.{PNode}
use Rattle.m_ast.specs.declared.plain_term.PNode.TheVariants.{Lit, Named, X, Cell, Apply, Chain, Among}
use Rattle.m_ast.specs.declared.plain_term.PLink.{PLink}
use Rattle.m_ast.specs.declared.plain_term.PMember.{PMember}
use Rattle.m_ast.specs.declared.plain_term.PTerm.TheDeep.{deep-PNode, deep-PLink, deep-PMember, size-PTerm, size-PLink, size-PMember}
use denote.Param.Weighed.{most}
use Rattle.m_ast.specs.Syntax.{Syntax, nodes, nodes_of_terms, nodes_of_links, nodes_of_members}
use Rattle.m_ast.specs.View.{terms_of}
use Rattle.m_ast.specs.PlainView.{syntax_of, links_of, members_of}

terms_fall : (all : List Syntax) → most (λ s. nodes s + 1) all ≤ nodes_of_terms (terms_of all)
terms_fall [] = omega arith
terms_fall (a ∷ rest) = omega (arith, terms_fall rest)

links_fall : (all : List PLink) → most deep-PLink all ≤ nodes_of_links (links_of all)
links_fall [] = omega arith
links_fall (a ∷ rest) = omega (arith, links_fall rest)

members_fall : (all : List PMember) → most deep-PMember all ≤ nodes_of_members (members_of all)
members_fall [] = omega arith
members_fall (a ∷ rest) = omega (arith, members_fall rest)

pub falls : (n : PNode) → max (deep-PNode n) 0 ≤ nodes (syntax_of n)
falls (Lit v) = omega arith
falls (Named n p) = omega arith
falls (X p) = omega arith
falls (Cell n a p) = omega arith
falls (Apply op all) = omega (arith, terms_fall all.items)
falls (Chain a all) = omega (arith, links_fall all.items)
falls (Among negated a all) = omega (arith, members_fall all.items)

pub sizes_fall_links : (all : List PLink) → most size-PLink all ≤ 3 * nodes_of_links (links_of all) + 1
sizes_fall_links [] = omega arith
sizes_fall_links (a ∷ rest) = omega (arith, sizes_fall_links rest)

pub sizes_fall_members : (all : List PMember) → most size-PMember all ≤ 3 * nodes_of_members (members_of all) + 1
sizes_fall_members [] = omega arith
sizes_fall_members (a ∷ rest) = omega (arith, sizes_fall_members rest)

pub sizes_fall_terms : (all : List Syntax) → most size-PTerm all ≤ 3 * nodes_of_terms (terms_of all) + 1
sizes_fall_terms [] = omega arith
sizes_fall_terms (a ∷ rest) = omega (arith, sizes_fall_terms rest)
