-- The names and codes of the rule base of `large N` are distinct.
use Rattle.std.proofs.Common.{◌≡◌, ℕ, zero, suc, ◌<◌, ◌≤◌, false, ◌||◌, List, [], ◌∷◌, ◌++◌, decimal, refl, ap, ◌∙◌, arith}
use Rattle.std.specs.Str.{bytes_eq}
use Rattle.std.proofs.lemmas.Fmt.{decimal_injective}
use Rattle.m_names.specs.Names.{has}
use Rattle.m_names.proofs.NameLemmas.{same, cases, has-append}

abbrev pub input_name : ℕ → List ℕ
input_name k = 82 ∷ decimal k

abbrev pub sum_name : ℕ → List ℕ
sum_name k = 84 ∷ decimal k

abbrev pub code_name : ℕ → List ℕ
code_name k = 67 ∷ decimal k

abbrev pub names : ℕ → List (List ℕ)
names zero = []
names (suc k) = names k ++ (input_name k ∷ sum_name k ∷ [])

abbrev pub codes_until : ℕ → List (List ℕ)
codes_until zero = []
codes_until (suc k) = codes_until k ++ (code_name k ∷ [])

pub differ : (m j : ℕ) → j < m → m ≤ 100000 → bytes_eq (decimal m) (decimal j) ≡ false
differ m j l h = cases (bytes_eq (decimal m) (decimal j)) (λ e. let f = decimal_injective m j (omega arith) (omega arith) (same (decimal m) (decimal j) e) in
    absurd (omega arith)) (λ e. e)

pub new_input : (m k : ℕ) → k ≤ m → m ≤ 100000 → has (input_name m) (names k) ≡ false
new_input m zero l h = refl
new_input m (suc k) l h =
    has-append (input_name m) (names k) (input_name k ∷ sum_name k ∷ [])
    ∙ ap (λ b. b || has (input_name m) (input_name k ∷ sum_name k ∷ [])) (new_input m k (omega arith) h)
    ∙ ap (λ b. b || (false || false)) (differ m k (omega arith) h)

pub new_sum : (m k : ℕ) → k ≤ m → m ≤ 100000 → has (sum_name m) (names k) ≡ false
new_sum m zero l h = refl
new_sum m (suc k) l h =
    has-append (sum_name m) (names k) (input_name k ∷ sum_name k ∷ [])
    ∙ ap (λ b. b || has (sum_name m) (input_name k ∷ sum_name k ∷ [])) (new_sum m k (omega arith) h)
    ∙ ap (λ b. b || false) (differ m k (omega arith) h)

pub new_code : (m k : ℕ) → k ≤ m → m ≤ 100000 → has (code_name m) (codes_until k) ≡ false
new_code m zero l h = refl
new_code m (suc k) l h =
    has-append (code_name m) (codes_until k) (code_name k ∷ [])
    ∙ ap (λ b. b || has (code_name m) (code_name k ∷ [])) (new_code m k (omega arith) h)
    ∙ ap (λ b. b || false) (differ m k (omega arith) h)

-- the sum follows its input
pub new_second : (k : ℕ) → k ≤ 100000 → has (sum_name k) (names k ++ (input_name k ∷ [])) ≡ false
new_second k h = has-append (sum_name k) (names k) (input_name k ∷ []) ∙ ap (λ b. b || false) (new_sum k k (omega arith) h)
