-- An element is at most as large as the list.
use Rattle.std.proofs.Common.{◌≡◌, ◌≤◌, ◌<◌, ◌+◌, ℕ, zero, suc, List, [], ◌∷◌, length, get_or, ap, arith}
use Rattle.m_ast.specs.Syntax.{Syntax, nodes, nodes_of_terms, nodes_of_links, nodes_of_members}
use Rattle.m_ast.specs.View.{terms_of}
use Rattle.m_ast.specs.PlainView.{links_of, members_of}
use Rattle.m_ast.specs.declared.plain_term.PLink.{PLink}
use Rattle.m_ast.specs.declared.plain_term.PMember.{PMember}

pub term_size : (all : List Syntax) (i : ℕ) (a : Syntax) → i < length all → a ≡ get_or all i a → nodes a ≤ nodes_of_terms (terms_of all)
term_size [] i a h e = absurd (omega arith)
term_size (b ∷ all) zero a h e = omega (arith, ap nodes e)
term_size (b ∷ all) (suc i) a h e = let k = term_size all i a (omega (arith, h)) e in omega (arith, k)

pub link_size : (all : List PLink) (i : ℕ) (a : PLink) → i < length all → a ≡ get_or all i a → nodes a.term ≤ nodes_of_links (links_of all)
link_size [] i a h e = absurd (omega arith)
link_size (b ∷ all) zero a h e = omega (arith, ap (λ (l : PLink). nodes l.term) e)
link_size (b ∷ all) (suc i) a h e = let k = link_size all i a (omega (arith, h)) e in omega (arith, k)

pub member_size : (all : List PMember) (i : ℕ) (a : PMember) → i < length all → a ≡ get_or all i a
    → nodes a.low + nodes a.high + 1 ≤ nodes_of_members (members_of all)
member_size [] i a h e = absurd (omega arith)
member_size (b ∷ all) zero a h e = omega (arith, ap (λ (m : PMember). nodes m.low) e, ap (λ (m : PMember). nodes m.high) e)
member_size (b ∷ all) (suc i) a h e = let k = member_size all i a (omega (arith, h)) e in omega (arith, k)
