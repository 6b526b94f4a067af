-- Fields of a record, and the inputs by number.
use Rattle.std.proofs.Common.{◌≡◌, ℕ, ◌<◌, ◌≤◌, zero, suc, List, [], ◌∷◌, length, get_or, false, refl, ap, arith}
use Rattle.observables.specs.declared.inputs.Coded.{Coded}
use Rattle.observables.specs.declared.inputs.InputType.TheVariants.{Any}
use Rattle.household.specs.Household.{input_type}
use Rattle.input_ranges.specs.Ranges.{are_headings, is_header}

-- ---- the first record

pub four_header : (fields : List (List ℕ)) → length fields ≡ 4 → is_header fields ≡ are_headings (get_or fields 0 []) (get_or fields 1 []) (get_or fields 2 [])
    (get_or fields 3 [])
four_header [] e = absurd (omega arith)
four_header (a ∷ []) e = absurd (omega arith)
four_header (a ∷ b ∷ []) e = absurd (omega arith)
four_header (a ∷ b ∷ c ∷ []) e = absurd (omega arith)
four_header (a ∷ b ∷ c ∷ d ∷ []) e = refl
four_header (a ∷ b ∷ c ∷ d ∷ more ∷ rest) e = absurd (omega arith)

pub no_header : (fields : List (List ℕ)) → (length fields ≡ 4 → ⊥) → is_header fields ≡ false
no_header [] n = refl
no_header (a ∷ []) n = refl
no_header (a ∷ b ∷ []) n = refl
no_header (a ∷ b ∷ c ∷ []) n = refl
no_header (a ∷ b ∷ c ∷ d ∷ []) n = absurd (n refl)
no_header (a ∷ b ∷ c ∷ d ∷ more ∷ rest) n = refl

-- ---- types by number

pub kind_read : (inputs : List Coded) (number : ℕ) (input : Coded) → number < length inputs → input ≡ get_or inputs number input
    → input.kind ≡ input_type inputs number
kind_read [] number input l e = absurd (omega arith)
kind_read (first ∷ inputs) zero input l e = ap (λ (i : Coded). i.kind) e
kind_read (first ∷ inputs) (suc number) input l e = kind_read inputs number input (omega arith) e

pub kind_past : (inputs : List Coded) (number : ℕ) → length inputs ≤ number → Any ≡ input_type inputs number
kind_past [] number l = refl
kind_past (first ∷ inputs) zero l = absurd (omega arith)
kind_past (first ∷ inputs) (suc number) l = kind_past inputs number (omega arith)
