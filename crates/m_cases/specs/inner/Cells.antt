-- The effect of one cell, by its column.
use Rattle.std.specs.Prelude.{ℕ, ℤ, ◌==◌, List, [], ◌∷◌, ◌++◌, length, Result, Ok, if◌then◌else◌}
use Rattle.m_fixed.specs.Text.{text_value, amount_read}
use Rattle.household.specs.declared.fault.HouseholdFault.{HouseholdFault}
use Rattle.household.specs.InTurn.{if_read}
use Rattle.household.specs.Table.{parsed_amount}
use Rattle.m_cases.specs.declared.columns.Column.{Column}
use Rattle.m_cases.specs.declared.columns.Column.TheVariants.{Input, Output}
use Rattle.m_cases.specs.declared.expected.Expected.{Expected}
use Rattle.m_cases.specs.declared.fault.CasesFault.{CasesFault}
use Rattle.m_cases.specs.Cases.{parsed_expectation}

-- the pairs after a cell in this column
abbrev pub amounts_behind : ℕ → List (ℕ × ℤ) → Column → List ℕ → Result (List (ℕ × ℤ)) HouseholdFault
amounts_behind line before (Input input) cell =
    if length cell == 0 then Ok before else if_read (λ pair. Ok (before ++ pair ∷ [])) (parsed_amount line input (amount_read (text_value cell)))
amounts_behind line before (Output output) cell = Ok before

-- the expectations after a cell in this column
abbrev pub expected_behind : ℕ → List (ℕ × Expected) → Column → List ℕ → Result (List (ℕ × Expected)) CasesFault
expected_behind line before (Input input) cell = Ok before
expected_behind line before (Output output) cell =
    if length cell == 0 then Ok before else if_read (λ expected. Ok (before ++ (output, expected) ∷ [])) (parsed_expectation line cell)
