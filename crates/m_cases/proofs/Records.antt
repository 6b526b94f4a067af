-- The parts of a record.
use Rattle.std.proofs.Common.{◌≡◌, ℕ, ℤ, ◌+◌, true, cond, eqb, arith, get_or, drop, List, [], ◌∷◌, length, Result, Ok, Err, ap, ◌∙◌}
use Rattle.std.proofs.lemmas.Bool.{eq-eqb}
use Rattle.m_names.proofs.NameLemmas.{and-both}
use Rattle.observables.specs.declared.inputs.Coded.{Coded}
use Rattle.household.specs.InTurn.{if_read}
use Rattle.household.specs.Table.{is_label, pairs_read}
use Rattle.m_cases.specs.declared.cases.Case.{Case}
use Rattle.m_cases.specs.declared.columns.Column.{Column}
use Rattle.m_cases.specs.declared.expected.Expected.{Expected}
use Rattle.m_cases.specs.declared.fault.CasesFault.{CasesFault}
use Rattle.m_cases.specs.declared.fault.CasesFault.TheVariants.{BadRow}
use Rattle.m_cases.specs.Cases.{parsed_case, case_with, expected_read, of_household}
use Rattle.m_cases.specs.Columns.{column_inputs, input_cells}

-- the case of a record with a label and a cell for each column
abbrev parsed_parts : List Coded → ℕ → List Column → List ℕ → List (List ℕ) → Result Case CasesFault
parsed_parts inputs line columns label cells =
    if_read (λ pairs. if_read (λ expected. Ok (case_with label pairs expected)) (expected_read line [] columns cells))
    (of_household (pairs_read inputs line (column_inputs columns) (input_cells columns cells)))

in_parts : (inputs : List Coded) (line : ℕ) (columns : List Column) (fields : List (List ℕ)) → length fields ≡ length columns + 1
    → is_label (get_or fields 0 []) ≡ true
    → parsed_case inputs line columns fields ≡ parsed_parts inputs line columns (get_or fields 0 []) (drop 1 fields)
in_parts inputs line columns [] l t = absurd (omega (arith, l))
in_parts inputs line columns (label ∷ cells) l t =
    let many = eq-eqb (length cells) (length columns) (omega (arith, l)) in
    ap (λ b. cond b (parsed_parts inputs line columns label cells) (Err (BadRow line))) (and-both (eqb (length cells) (length columns)) (is_label label) many t)

pub bad_pairs : (inputs : List Coded) (line : ℕ) (columns : List Column) (fields : List (List ℕ)) (fault : CasesFault) → length fields ≡ length columns + 1
    → is_label (get_or fields 0 []) ≡ true
    → of_household (pairs_read inputs line (column_inputs columns) (input_cells columns (drop 1 fields))) ≡ Err fault
    → parsed_case inputs line columns fields ≡ Err fault
bad_pairs inputs line columns fields fault l t e =
    in_parts inputs line columns fields l t
    ∙ ap (if_read (λ (pairs : List (ℕ × ℤ)). if_read (λ expected. Ok (case_with (get_or fields 0 []) pairs expected))
    (expected_read line [] columns (drop 1 fields)))) e

pub bad_expected : (inputs : List Coded) (line : ℕ) (columns : List Column) (fields : List (List ℕ)) (pairs : List (ℕ × ℤ)) (fault : CasesFault)
    → length fields ≡ length columns + 1 → is_label (get_or fields 0 []) ≡ true
    → pairs_read inputs line (column_inputs columns) (input_cells columns (drop 1 fields)) ≡ Ok pairs
    → expected_read line [] columns (drop 1 fields) ≡ Err fault → parsed_case inputs line columns fields ≡ Err fault
bad_expected inputs line columns fields pairs fault l t p e =
    in_parts inputs line columns fields l t
    ∙ ap (λ r. if_read (λ (ps : List (ℕ × ℤ)). if_read (λ expected. Ok (case_with (get_or fields 0 []) ps expected))
    (expected_read line [] columns (drop 1 fields))) (of_household r)) p
    ∙ ap (if_read (λ (expected : List (ℕ × Expected)). Ok (case_with (get_or fields 0 []) pairs expected))) e

pub whole_case : (inputs : List Coded) (line : ℕ) (columns : List Column) (fields : List (List ℕ)) (pairs : List (ℕ × ℤ)) (expected : List (ℕ × Expected))
    → length fields ≡ length columns + 1 → is_label (get_or fields 0 []) ≡ true
    → pairs_read inputs line (column_inputs columns) (input_cells columns (drop 1 fields)) ≡ Ok pairs
    → expected_read line [] columns (drop 1 fields) ≡ Ok expected
    → parsed_case inputs line columns fields ≡ Ok (case_with (get_or fields 0 []) pairs expected)
whole_case inputs line columns fields pairs expected l t p e =
    in_parts inputs line columns fields l t
    ∙ ap (λ r. if_read (λ (ps : List (ℕ × ℤ)). if_read (λ es. Ok (case_with (get_or fields 0 []) ps es)) (expected_read line [] columns (drop 1 fields)))
    (of_household r)) p
    ∙ ap (if_read (λ (es : List (ℕ × Expected)). Ok (case_with (get_or fields 0 []) pairs es))) e
