-- The syntax of terms, as contracts see them: terms are equal if their syntax is.
use Rattle.std.specs.Prelude.{ℕ, ◌+◌, Bool, List}
use Rattle.m_fixed.specs.declared.amount.Value.{Value}
use Rattle.m_fixed.specs.declared.operator.Op.{Op}
use Rattle.m_places.specs.declared.place.Place.{Place}
use Rattle.m_ast.specs.declared.header.Header.{Header}

-- A term. `A - B * 2` with A, B at places p, q is
--   chain (named A p) (a_link Sub (chain (named B q) (a_link Mul (lit (Num 2000000)) no_links)) no_links)
-- and `si A alors 1 finsi` is
--   apply Choose (a_term (named A p) (a_term (lit (Num 1000000)) (a_term (lit Undef) no_terms)))
mutual
  pub data Syntax : Type 0 where
    lit : Value → Syntax
    named : List ℕ → Place → Syntax
    the_x : Place → Syntax
    cell : List ℕ → Syntax → Place → Syntax
    apply : Op → Terms → Syntax
    chain : Syntax → Links → Syntax
    among : Bool → Syntax → Members → Syntax
    loop : Header → Syntax → Syntax

  -- arguments of an operator
  pub data Terms : Type 0 where
    no_terms : Terms
    a_term : Syntax → Terms → Terms

  -- the operands of a chain after the first, from left to right
  pub data Links : Type 0 where
    no_links : Links
    a_link : Op → Syntax → Links → Links

  -- pairs of a low and a high end
  pub data Members : Type 0 where
    no_members : Members
    a_member : Syntax → Syntax → Members → Members

-- the number of nodes of a term: a measure for recursion
abbrev mutual
  pub nodes : Syntax → ℕ
  nodes (lit v) = 1
  nodes (named n p) = 1
  nodes (the_x p) = 1
  nodes (cell n a p) = nodes a + 1
  nodes (apply op all) = nodes_of_terms all + 1
  nodes (chain a all) = nodes a + nodes_of_links all + 1
  nodes (among negated a all) = nodes a + nodes_of_members all + 1
  nodes (loop h a) = nodes a + 1

  pub nodes_of_terms : Terms → ℕ
  nodes_of_terms no_terms = 0
  nodes_of_terms (a_term a rest) = nodes a + nodes_of_terms rest + 1

  pub nodes_of_links : Links → ℕ
  nodes_of_links no_links = 0
  nodes_of_links (a_link op a rest) = nodes a + nodes_of_links rest + 1

  pub nodes_of_members : Members → ℕ
  nodes_of_members no_members = 0
  nodes_of_members (a_member a b rest) = nodes a + nodes b + nodes_of_members rest + 1
