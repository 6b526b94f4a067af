-- The rule base and the household of `large N`, as functions of N.
use Rattle.std.specs.Prelude.{ℕ, zero, suc, ◌+◌, ◌-◌, ◌*◌, ◌%◌, List, [], ◌∷◌, ◌++◌, codes, decimal}
use Rattle.m_text.specs.Pieces.{new_line, joined}

abbrev pub base_name : List ℕ
base_name = codes "large.m"

-- input k and sum k: `R0 : saisie revenu classe = 0 alias C0 : "r" ;` and `T0 : calculee : "t" ;`
abbrev pub declaration : ℕ → List ℕ
declaration k =
    joined (codes "R" ∷ decimal k ∷ codes " : saisie revenu classe = 0 alias C" ∷ decimal k ∷ codes " : \"r\" ;" ∷ new_line
    ∷ codes "T" ∷ decimal k ∷ codes " : calculee : \"t\" ;" ∷ new_line ∷ [])

-- the first n declarations, in order
abbrev pub declarations : ℕ → List ℕ
declarations zero = []
declarations (suc k) = declarations k ++ declaration k

-- the rule with this number, of sum k, which reads sum j: `regle 2 : application : iliad ;` and `T1 = max(0, R1 -
-- 1000) + T0 ;`
abbrev pub rule : ℕ → ℕ → ℕ → List ℕ
rule number k j =
    joined (codes "regle " ∷ decimal number ∷ codes " : application : iliad ;" ∷ new_line
    ∷ codes "T" ∷ decimal k ∷ codes " = max(0, R" ∷ decimal k ∷ codes " - 1000) + T" ∷ decimal j ∷ codes " ;" ∷ new_line ∷ [])

-- the rules of the sums from k down to 1
abbrev pub rules : ℕ → List ℕ
rules zero = []
rules (suc j) = rule (j + 2) (suc j) j ++ rules j

-- the rule of sum 0
abbrev pub first_rule : List ℕ
first_rule =
    joined (codes "regle 1 : application : iliad ;" ∷ new_line ∷ codes "T0 = max(0, R0 - 1000) ;" ∷ new_line ∷ [])

-- the error, and the verification that sum k isn't negative
abbrev pub check : ℕ → List ℕ
check k =
    joined (codes "E1 : anomalie : \"E\" : \"1\" : \"0\" : \"negative\" ;" ∷ new_line
    ∷ codes "verif 1 : application : iliad ;" ∷ new_line
    ∷ codes "si T" ∷ decimal k ∷ codes " < 0 alors erreur E1 ;" ∷ new_line ∷ [])

-- The rule base: n inputs and sums, the rules from the last sum to the first, and the verification of the last.
abbrev pub base_text : ℕ → List ℕ
base_text n = joined (declarations n ∷ rules (n - 1) ∷ first_rule ∷ check (n - 1) ∷ [])

-- the row of input k: `C1,997`
abbrev pub row : ℕ → List ℕ
row k = joined (codes "C" ∷ decimal k ∷ codes "," ∷ decimal ((997 * k) % 5000) ∷ new_line ∷ [])

-- the first n rows, in order
abbrev pub rows : ℕ → List ℕ
rows zero = []
rows (suc k) = rows k ++ row k

-- The household: its header, and a row for each input.
abbrev pub household_text : ℕ → List ℕ
household_text n = joined (codes "code,amount" ∷ new_line ∷ rows n ∷ [])
