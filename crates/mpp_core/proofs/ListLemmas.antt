-- An element of a list is no larger than the list.
use Rattle.std.proofs.Common.{◌≡◌, ◌≤◌, ◌<◌, ℕ, zero, suc, List, [], ◌∷◌, length, get_or, ap, arith}
use Rattle.mpp_parser.specs.Trees.{Term, term_nodes, nodes_of_terms, nodes_of_links}
use Rattle.mpp_parser.specs.TermView.{terms_of, links_of}
use Rattle.mpp_parser.specs.declared.term.DLink.{DLink}
use Rattle.mpp_parser.specs.Commands.{Act, act_nodes, nodes_of_acts}
use Rattle.mpp_parser.specs.CommandView.{block_of}

pub term_size : (all : List Term) (i : ℕ) (a : Term) → i < length all → a ≡ get_or all i a → term_nodes a ≤ nodes_of_terms (terms_of all)
term_size [] i a h e = absurd (omega arith)
term_size (b ∷ all) zero a h e = omega (arith, ap term_nodes e)
term_size (b ∷ all) (suc i) a h e = let k = term_size all i a (omega (arith, h)) e in omega (arith, k)

pub link_size : (all : List DLink) (i : ℕ) (a : DLink) → i < length all → a ≡ get_or all i a → term_nodes a.term ≤ nodes_of_links (links_of all)
link_size [] i a h e = absurd (omega arith)
link_size (b ∷ all) zero a h e = omega (arith, ap (λ (l : DLink). term_nodes l.term) e)
link_size (b ∷ all) (suc i) a h e = let k = link_size all i a (omega (arith, h)) e in omega (arith, k)

pub act_size : (all : List Act) (i : ℕ) (a : Act) → i < length all → a ≡ get_or all i a → act_nodes a ≤ nodes_of_acts (block_of all)
act_size [] i a h e = absurd (omega arith)
act_size (b ∷ all) zero a h e = omega (arith, ap act_nodes e)
act_size (b ∷ all) (suc i) a h e = let k = act_size all i a (omega (arith, h)) e in omega (arith, k)
