-- The number of parts of an expanded term: its literals, names, cells and operators.
use Rattle.std.specs.Prelude.{ℕ, ◌+◌, ◌-◌, ◌*◌, Bool, true, false}
use Rattle.m_ast.specs.Syntax.{Syntax, lit, named, the_x, cell, apply, chain, among, loop, Terms, no_terms, a_term, Links, no_links, a_link, Members}
use Rattle.m_ast.specs.Syntax.{no_members, a_member}
use Rattle.m_ast.specs.Members.{is_single}
use Rattle.loop_values.specs.Headers.{instance_count}

-- A member is expanded to `x = m`, or to `x >= low et x <= high`. If each of the terms has one
-- part, these have 3 and 7.
abbrev pub member_parts : Bool → ℕ → ℕ → ℕ → ℕ
member_parts true x low high = x + low + 1
member_parts false x low high = (x + low + 1) + (x + high + 1) + 1

-- `non` of a membership
abbrev pub negation_parts : Bool → ℕ
negation_parts true = 1
negation_parts false = 0

-- A literal, a name and `X` have one part each, and each operator is one: the read of a cell has
-- one more than its index, a list of n operands has n - 1 operators, and members are joined by
-- `ou`. `A + T[2] * 3` has six: A, `+`, the read, 2, `*`, 3. A loop of n instances has n times the
-- parts of its body and n - 1 sums.
abbrev mutual
  pub parts : Syntax → ℕ
  parts (lit v) = 1
  parts (named w p) = 1
  parts (the_x p) = 1
  parts (cell w a p) = parts a + 1
  parts (apply op all) = terms_parts all + 1
  parts (chain a all) = parts a + links_parts all
  parts (among negated a all) = negation_parts negated + (members_parts (parts a) all - 1)
  parts (loop h a) = instance_count h.indexes * (parts a + 1) - 1

  pub terms_parts : Terms → ℕ
  terms_parts no_terms = 0
  terms_parts (a_term a rest) = parts a + terms_parts rest

  pub links_parts : Links → ℕ
  links_parts no_links = 0
  links_parts (a_link op a rest) = (parts a + 1) + links_parts rest

  pub members_parts : ℕ → Members → ℕ
  members_parts x no_members = 0
  members_parts x (a_member low high rest) = (member_parts (is_single low high) x (parts low) (parts high) + 1) + members_parts x rest
