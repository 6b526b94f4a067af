-- The inputs of a program, and the lists of values that it accepts.
use Rattle.std.specs.Prelude.{◌≡◌, ℕ, ℤ, pos, Bool, true, false, ◌||◌, ⊤, List, [], ◌∷◌, codes, map, IsTrue, int_rem, if◌then◌else◌}
use Rattle.std.specs.List.{AllByRecursion, AllZip}
use Rattle.std.specs.Ordering.{int_eq}
use Rattle.std.specs.Str.{bytes_eq}
use Rattle.m_fixed.specs.Amounts.{IsAmount}
use Rattle.m_fixed.specs.declared.amount.Value.{Value}
use Rattle.m_fixed.specs.declared.amount.Value.TheVariants.{Undef, Num, Over}
use Rattle.observables.specs.declared.inputs.Coded.{Coded}
use Rattle.observables.specs.declared.inputs.InputType.{InputType}
use Rattle.observables.specs.declared.inputs.InputType.TheVariants.{Any, Whole, Truth}

-- the codes of inputs, in order
abbrev pub codes_of : List Coded → List (List ℕ)
codes_of inputs = map (λ input. input.code) inputs

-- the input type that a declaration's type word denotes
abbrev pub type_of : List ℕ → InputType
type_of word = if bytes_eq word (codes "BOOLEEN") then Truth else if bytes_eq word (codes "ENTIER") then Whole else Any

-- Whether an amount in millionths is of a type: 2500000 is of the type `Any` alone, 3000000 of
-- `Whole` too, and 1000000 of all three.
abbrev pub is_of_type : InputType → ℤ → Bool
is_of_type Any z = true
is_of_type Whole z = int_eq (int_rem z (pos 1_000_000)) (pos 0)
is_of_type Truth z = int_eq z (pos 0) || int_eq z (pos 1_000_000)

-- all inputs admit every amount
abbrev pub AreAny : List Coded → Type 0
AreAny inputs = AllByRecursion (λ input. input.kind ≡ Any) inputs

-- a value that an input of a type admits: undefined or an amount of the type, but not over
abbrev pub IsValueOf : InputType → Value → Type 0
IsValueOf kind Undef = ⊤
IsValueOf kind (Num z) = IsAmount z × IsTrue (is_of_type kind z)
IsValueOf kind Over = ⊥

-- The lists of values that a program with these inputs accepts: for each input, in order, a value
-- that it admits. Optimized programs are proved equal to the source on these lists, and may differ
-- on others.
abbrev pub AreValuesOf : List Coded → List Value → Type 0
AreValuesOf inputs values = AllZip (λ input value. IsValueOf input.kind value) inputs values
