-- Single members of a membership: both ends are equal.
use Rattle.std.specs.Prelude.{ℤ, ℕ, Bool, true, false, ◌||◌, List, Option, None, Some, if◌then◌else◌}
use Rattle.std.specs.Str.{bytes_eq}
use Rattle.std.specs.Ordering.{int_eq}
use Rattle.m_fixed.specs.declared.amount.Value.{Value}
use Rattle.m_fixed.specs.declared.amount.Value.TheVariants.{Num}
use Rattle.m_fixed.specs.declared.operator.Op.{Op}
use Rattle.m_fixed.specs.declared.operator.Op.TheVariants.{Neg}
use Rattle.m_ast.specs.Syntax.{Syntax, lit, named, apply, Terms, no_terms, a_term}

abbrev pub amount_in : Value → Option ℤ
amount_in (Num z) = Some z
amount_in _ = None

-- the amount of a literal
abbrev pub amount_of : Syntax → Option ℤ
amount_of (lit v) = amount_in v
amount_of _ = None

-- the amount, if the only argument is a literal
abbrev pub only_amount : Terms → Option ℤ
only_amount no_terms = None
only_amount (a_term a no_terms) = amount_of a
only_amount (a_term a (a_term b rest)) = None

abbrev pub is_negation : Op → Bool
is_negation Neg = true
is_negation _ = false

-- the amount of a negated literal, without the minus
abbrev pub opposite_of : Syntax → Option ℤ
opposite_of (apply op all) = if is_negation op then only_amount all else None
opposite_of _ = None

-- the word, if the term is one
abbrev pub word_of : Syntax → Option (List ℕ)
word_of (named w p) = Some w
word_of _ = None

-- whether there are two, and they are equal
abbrev pub are_equal : {A : Type 0} → (A → A → Bool) → Option A → Option A → Bool
are_equal equal (Some a) (Some b) = equal a b
are_equal equal _ _ = false

-- Whether a member is a single value: both ends are the same amount, the same negated amount, or
-- the same word. `3..3.0` is single, and `-0..0` is a range.
abbrev pub is_single : Syntax → Syntax → Bool
is_single low high =
    are_equal int_eq (amount_of low) (amount_of high)
    || (are_equal int_eq (opposite_of low) (opposite_of high) || are_equal bytes_eq (word_of low) (word_of high))
