-- A term has more nodes than each of its parts.
use Rattle.std.specs.Prelude.{◌+◌, ◌≤◌, max, List, [], ◌∷◌}
use Rattle.std.proofs.Common.{arith}
use Rattle.mpp_parser.specs.declared.term.DNode.{DNode}
use Rattle.mpp_parser.specs.declared.term.DNode.TheVariants.{Lit, Named, Apply, Chain, Exists}
use Rattle.mpp_parser.specs.declared.term.DLink.{DLink}
use Rattle.mpp_parser.specs.declared.term.DTerm.TheDeep.{deep-DNode, deep-DLink}
use denote.Param.Weighed.{most}
use Rattle.mpp_parser.specs.Trees.{Term, term_nodes, nodes_of_terms, nodes_of_links}
use Rattle.mpp_parser.specs.TermView.{term_of, terms_of, links_of}

terms_fall : (all : List Term) → most (λ s. term_nodes s + 1) all ≤ nodes_of_terms (terms_of all)
terms_fall [] = omega arith
terms_fall (a ∷ rest) = omega (arith, terms_fall rest)

links_fall : (all : List DLink) → most deep-DLink all ≤ nodes_of_links (links_of all)
links_fall [] = omega arith
links_fall (a ∷ rest) = omega (arith, links_fall rest)

pub falls : (n : DNode) → max (deep-DNode n) 0 ≤ term_nodes (term_of n)
falls (Lit v) = omega arith
falls (Named c) = omega arith
falls (Apply op all) = omega (arith, terms_fall all.items)
falls (Chain a all) = omega (arith, links_fall all.items)
falls (Exists k) = omega arith
