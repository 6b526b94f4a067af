-- The expansion of a term.
use Rattle.std.specs.Prelude.{ℕ, ◌*◌, Bool, ◌&&◌, pos, List, [], ◌∷◌, map, length, nat_le, Option, None, Some, if◌then◌else◌}
use Rattle.std.specs.Str.Parse.{digits_value}
use Rattle.m_fixed.specs.Text.{is_digits}
use Rattle.m_fixed.specs.Amounts.{unit}
use Rattle.m_fixed.specs.declared.amount.Value.TheVariants.{Num, Undef}
use Rattle.m_fixed.specs.declared.operator.Op.TheVariants.{Add}
use Rattle.m_places.specs.declared.place.Place.{Place}
use Rattle.m_ast.specs.Syntax.{Syntax, lit, named, the_x, cell, apply, chain, among, loop, Terms, no_terms, a_term, Links, no_links, a_link, Members}
use Rattle.m_ast.specs.Syntax.{no_members, a_member}
use Rattle.loop_values.specs.Letters.{Letters, replaced}
use Rattle.loop_values.specs.Headers.{instances}

-- a literal, in whole units
abbrev pub number_term : ℕ → Syntax
number_term n = lit (Num (pos (n * unit)))

-- one to twelve digits, and nothing else
abbrev pub is_number_word : List ℕ → Bool
is_number_word word = is_digits word && nat_le (length word) 12

-- A word of a term: one to twelve digits are a number, and any other word is a name. So `i` bound
-- to `08` is the number 8, and `REVi` is the name `REV08`.
abbrev pub word_term : List ℕ → Place → Syntax
word_term word place = if is_number_word word then number_term (digits_value 10 word) else named word place

-- `X` in the definition of a table's cell is that cell's number; elsewhere it is unchanged
abbrev pub x_term : Option ℕ → Place → Syntax
x_term (Some k) place = number_term k
x_term None place = the_x place

-- further operands of a sum, as links
abbrev pub added : List Syntax → Links
added [] = no_links
added (a ∷ rest) = a_link Add a (added rest)

-- the sum of terms in order; the sum of one term is that term
abbrev pub summed : List Syntax → Syntax
summed [] = lit Undef
summed (a ∷ []) = a
summed (a ∷ b ∷ rest) = chain a (added (b ∷ rest))

-- A term after the substitution of its letters, with `X` replaced by the number of a cell, if one
-- is given. `somme` is the sum of its instances: `somme(i=1,2: Ti * i)` is `T1 * 1 + T2 * 2`.
-- Places are unchanged.
abbrev mutual
  pub expanded : Option ℕ → Letters → Syntax → Syntax
  expanded cell_number letters (lit v) = lit v
  expanded cell_number letters (named word place) = word_term (replaced letters word) place
  expanded cell_number letters (the_x place) = x_term cell_number place
  expanded cell_number letters (cell word index place) = cell (replaced letters word) (expanded cell_number letters index) place
  expanded cell_number letters (apply op all) = apply op (expanded_terms cell_number letters all)
  expanded cell_number letters (chain a all) = chain (expanded cell_number letters a) (expanded_links cell_number letters all)
  expanded cell_number letters (among negated a all) = among negated (expanded cell_number letters a) (expanded_members cell_number letters all)
  expanded cell_number letters (loop header a) = summed (map (λ bound. expanded cell_number bound a) (instances header.indexes letters))

  pub expanded_terms : Option ℕ → Letters → Terms → Terms
  expanded_terms cell_number letters no_terms = no_terms
  expanded_terms cell_number letters (a_term a rest) = a_term (expanded cell_number letters a) (expanded_terms cell_number letters rest)

  pub expanded_links : Option ℕ → Letters → Links → Links
  expanded_links cell_number letters no_links = no_links
  expanded_links cell_number letters (a_link op a rest) = a_link op (expanded cell_number letters a) (expanded_links cell_number letters rest)

  pub expanded_members : Option ℕ → Letters → Members → Members
  expanded_members cell_number letters no_members = no_members
  expanded_members cell_number letters (a_member a b rest) = a_member (expanded cell_number letters a) (expanded cell_number letters b)
      (expanded_members cell_number letters rest)
