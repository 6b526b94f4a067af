-- The term of a node, and the lists of its parts.
use Rattle.std.specs.Prelude.{List, [], ◌∷◌}
use Rattle.mpp_parser.specs.declared.term.DNode.{DNode}
use Rattle.mpp_parser.specs.declared.term.DNode.TheVariants.{Lit, Named, Apply, Chain, Exists}
use Rattle.mpp_parser.specs.declared.term.DLink.{DLink}
use Rattle.mpp_parser.specs.Trees.{Term, lit, named, apply, chain, exists, Terms, no_terms, a_term, Links, no_links, a_link}

abbrev pub terms_of : List Term → Terms
terms_of [] = no_terms
terms_of (a ∷ rest) = a_term a (terms_of rest)

abbrev pub links_of : List DLink → Links
links_of [] = no_links
links_of (a ∷ rest) = a_link a.op a.term (links_of rest)

abbrev pub term_of : DNode → Term
term_of (Lit v) = lit v
term_of (Named c) = named c
term_of (Apply op all) = apply op (terms_of all.items)
term_of (Chain a all) = chain a.value (links_of all.items)
term_of (Exists k) = exists k
