-- The vocabulary of the laws of amounts and operators.
use Rattle.std.specs.Prelude.{◌≡◌, ℕ, List, [], ◌∷◌, ◌++◌, IsTrue, Bool, true, false, ℤ, pos, neg_ℤ, ⊤}
use Rattle.m_fixed.specs.declared.amount.Value.{Value}
use Rattle.m_fixed.specs.declared.amount.Value.TheVariants.{Undef, Num, Over}
use Rattle.m_fixed.specs.declared.operator.Op.{Op}
use Rattle.m_fixed.specs.declared.operator.Op.TheVariants.{Add, Sub, Mul, Div, Neg, Eq, Ne, Lt, Le, Gt, Ge, And, Or, Not, Present, Abs, Positive}
use Rattle.m_fixed.specs.declared.operator.Op.TheVariants.{PositiveOrNull, Null, Arr, Inf, Max, Min, Truth, Choose, At}
use Rattle.m_fixed.specs.Amounts.{IsAmount}
use Rattle.m_fixed.specs.Text.{is_digits, millionths_of, minus, point}

-- a value that the program can hold: a number in it is an amount
abbrev pub IsValue : Value → Type 0
IsValue Undef = ⊤
IsValue (Num z) = IsAmount z
IsValue Over = ⊤

-- the two operators that select: they ignore Over in an argument that they don't need
abbrev pub is_selecting : Op → Bool
is_selecting Add = false
is_selecting Sub = false
is_selecting Mul = false
is_selecting Div = false
is_selecting Neg = false
is_selecting Eq = false
is_selecting Ne = false
is_selecting Lt = false
is_selecting Le = false
is_selecting Gt = false
is_selecting Ge = false
is_selecting And = false
is_selecting Or = false
is_selecting Not = false
is_selecting Present = false
is_selecting Abs = false
is_selecting Positive = false
is_selecting PositiveOrNull = false
is_selecting Null = false
is_selecting Arr = false
is_selecting Inf = false
is_selecting Max = false
is_selecting Min = false
is_selecting Truth = true
is_selecting Choose = true
is_selecting At = false

-- the text is a number: digits, or digits, a point and decimals; it spells n millionths
pub data SpellsNumber (text : List ℕ) (n : ℕ) : Type 0 where
  whole : (ds : List ℕ) → IsTrue (is_digits ds) → text ≡ ds → n ≡ millionths_of ds [] → SpellsNumber text n
  decimal : (ds fs : List ℕ) → IsTrue (is_digits ds) → IsTrue (is_digits fs) → text ≡ ds ++ point ∷ fs → n ≡ millionths_of ds fs → SpellsNumber text n

-- the text is an amount: a number, or a number after a minus; it spells z millionths
pub data SpellsAmount (text : List ℕ) (z : ℤ) : Type 0 where
  plain : (n : ℕ) → SpellsNumber text n → z ≡ pos n → SpellsAmount text z
  below_zero : (number : List ℕ) (n : ℕ) → text ≡ minus ∷ number → SpellsNumber number n → z ≡ neg_ℤ (pos n) → SpellsAmount text z
