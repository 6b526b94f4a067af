-- Each part of a term has fewer nodes than the term. The lemmas `sizes_fall_..` discharge the
-- measure of a helper over a list of a term's parts, as in `proofs/copy_term/+copied`, in this
-- crate and those that use it.
use Rattle.std.specs.Prelude.{◌+◌, ◌*◌, ◌≤◌, max, List, [], ◌∷◌}
use Rattle.std.proofs.Common.{arith}
use Rattle.m_ast.specs.declared.term.Node.{Node}
use Rattle.m_ast.specs.declared.term.Node.TheVariants.{Lit, Named, X, Cell, Apply, Chain, Among, Loop}
use Rattle.m_ast.specs.declared.term.Link.{Link}
use Rattle.m_ast.specs.declared.term.Member.{Member}
use Rattle.m_ast.specs.declared.term.Term.TheDeep.{deep-Node, deep-Link, deep-Member, size-Term, size-Link, size-Member}
use denote.Param.Weighed.{most}
use Rattle.m_ast.specs.Syntax.{Syntax, nodes, nodes_of_terms, nodes_of_links, nodes_of_members}
use Rattle.m_ast.specs.View.{syntax_of, terms_of, links_of, members_of}

terms_fall : (all : List Syntax) → most (λ s. nodes s + 1) all ≤ nodes_of_terms (terms_of all)
terms_fall [] = omega arith
terms_fall (a ∷ rest) = omega (arith, terms_fall rest)

links_fall : (all : List Link) → most deep-Link all ≤ nodes_of_links (links_of all)
links_fall [] = omega arith
links_fall (a ∷ rest) = omega (arith, links_fall rest)

members_fall : (all : List Member) → most deep-Member all ≤ nodes_of_members (members_of all)
members_fall [] = omega arith
members_fall (a ∷ rest) = omega (arith, members_fall rest)

pub falls : (n : Node) → max (deep-Node n) 0 ≤ nodes (syntax_of n)
falls (Lit v) = omega arith
falls (Named n p) = omega arith
falls (X p) = omega arith
falls (Cell n a p) = omega arith
falls (Apply op all) = omega (arith, terms_fall all.items)
falls (Chain a all) = omega (arith, links_fall all.items)
falls (Among negated a all) = omega (arith, members_fall all.items)
falls (Loop h a) = omega arith

pub sizes_fall_links : (all : List Link) → most size-Link all ≤ 3 * nodes_of_links (links_of all) + 1
sizes_fall_links [] = omega arith
sizes_fall_links (a ∷ rest) = omega (arith, sizes_fall_links rest)

pub sizes_fall_members : (all : List Member) → most size-Member all ≤ 3 * nodes_of_members (members_of all) + 1
sizes_fall_members [] = omega arith
sizes_fall_members (a ∷ rest) = omega (arith, sizes_fall_members rest)

pub sizes_fall_terms : (all : List Syntax) → most size-Term all ≤ 3 * nodes_of_terms (terms_of all) + 1
sizes_fall_terms [] = omega arith
sizes_fall_terms (a ∷ rest) = omega (arith, sizes_fall_terms rest)
