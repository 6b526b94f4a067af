-- The terms of a driver as contracts see them; equality of terms is equality of these.
use Rattle.std.specs.Prelude.{ℕ, ◌+◌}
use Rattle.m_fixed.specs.declared.amount.Value.{Value}
use Rattle.m_fixed.specs.declared.operator.Op.{Op}
use Rattle.mpp_parser.specs.declared.term.CellName.{CellName}
use Rattle.mpp_parser.specs.declared.term.Kind.{Kind}

-- A term. `A - B * 2` is
--   chain (named A) (a_link Sub (chain (named B) (a_link Mul (lit (Num 2000000)) no_links)) no_links)
mutual
  pub data Term : Type 0 where
    lit : Value → Term
    named : CellName → Term
    apply : Op → Terms → Term
    chain : Term → Links → Term
    exists : Kind → Term

  -- the arguments of an operator
  pub data Terms : Type 0 where
    no_terms : Terms
    a_term : Term → Terms → Terms

  -- the links of a chain, from left to right
  pub data Links : Type 0 where
    no_links : Links
    a_link : Op → Term → Links → Links

-- the number of nodes of a term: a measure for recursion
abbrev mutual
  pub term_nodes : Term → ℕ
  term_nodes (lit v) = 1
  term_nodes (named c) = 1
  term_nodes (apply op all) = nodes_of_terms all + 1
  term_nodes (chain a all) = term_nodes a + nodes_of_links all + 1
  term_nodes (exists k) = 1

  pub nodes_of_terms : Terms → ℕ
  nodes_of_terms no_terms = 0
  nodes_of_terms (a_term a rest) = term_nodes a + nodes_of_terms rest + 1

  pub nodes_of_links : Links → ℕ
  nodes_of_links no_links = 0
  nodes_of_links (a_link op a rest) = term_nodes a + nodes_of_links rest + 1
