-- The values that households and rows of tables give the inputs are ones that the inputs may have.
use Rattle.std.proofs.Common.{◌≡◌, ℕ, ℤ, ◌+◌, List, [], ◌∷◌, length, suc, Ok, Bool, true, false, cond, eqb, refl, subst, ap, ◌∙◌, arith}
use Rattle.std.specs.Prelude.{drop, map}
use Rattle.std.specs.List.{AllByRecursion, range_with_len}
use Rattle.std.proofs.lemmas.Bool.{eqb-true}
use Rattle.m_fixed.specs.declared.amount.Value.TheVariants.{Num}
use Rattle.observables.specs.declared.inputs.Coded.{Coded}
use Rattle.observables.specs.Inputs.{AreValuesOf, IsValueOf}
use Rattle.household.specs.declared.fault.HouseholdFault.TheVariants.{BadHeader}
use Rattle.household.specs.declared.table.Row.{Row}
use Rattle.household.specs.InTurn.{in_turn}
use Rattle.household.specs.Records.{records_of}
use Rattle.household.specs.Household.{AreOfTypes, household_of, household_read, input_type, is_header, row_of, value_at, values_of}
use Rattle.household.specs.Table.{column_of, is_table_header, rows_read, table_of, table_read, table_row}
use Rattle.household.proofs.InputLemmas.{household_types, if_ok, read_before}
use Rattle.household.proofs.ColumnLemmas.{table_types}

-- ---- values of pairs of the inputs' types

given : (all : List Coded) (pairs : List (ℕ × ℤ)) (input : ℕ) → AreOfTypes all pairs → IsValueOf (input_type all input) (value_at pairs input)
given all [] input h = tt
given all (pair ∷ pairs) input h = by (eqb pair.0 input) refl (given all pairs input h.1)
  where
    by : (b : Bool) → eqb pair.0 input ≡ b → IsValueOf (input_type all input) (value_at pairs input)
        → IsValueOf (input_type all input) (cond b (Num pair.1) (value_at pairs input))
    by true e rest = subst (λ (n : ℕ). IsValueOf (input_type all n) (Num pair.1)) (eqb-true pair.0 input e) h.0
    by false e rest = rest

-- the inputs from a number on
given_from : (all inputs : List Coded) (from : ℕ) (pairs : List (ℕ × ℤ)) → ((k : ℕ) → input_type all (from + k) ≡ input_type inputs k) → AreOfTypes all pairs
    → AreValuesOf inputs (map (value_at pairs) (range_with_len from (length inputs)))
given_from all [] from pairs same h = tt
given_from all (input ∷ inputs) from pairs same h =
    let first : input_type all from ≡ input.kind = ap (input_type all) (omega arith) ∙ same 0 in (
      subst (λ kind. IsValueOf kind (value_at pairs from)) first (given all pairs from h),
      given_from all inputs (from + 1) pairs (λ k. ap (input_type all) (omega arith) ∙ same (suc k)) h,
    )

-- Pairs with amounts of their inputs' types give values that the inputs may have.
pub pairs_give : (inputs : List Coded) (pairs : List (ℕ × ℤ)) → AreOfTypes inputs pairs → AreValuesOf inputs (values_of pairs (length inputs))
pairs_give inputs pairs h = given_from inputs inputs 0 pairs (λ k. ap (input_type inputs) (omega arith)) h

-- ---- a household and a table

pub read_types : (inputs : List Coded) (bytes : List ℕ) (pairs : List (ℕ × ℤ)) → household_of inputs bytes ≡ Ok pairs → AreOfTypes inputs pairs
read_types inputs bytes pairs h = by (records_of bytes) h
  where
    by : (records : List (List (List ℕ))) → household_read inputs records ≡ Ok pairs → AreOfTypes inputs pairs
    by [] g = cc g
    by (first ∷ rows) g = household_types inputs rows pairs (if_ok (is_header first) (in_turn (row_of inputs) [] rows) BadHeader pairs g).1

pub household_gives : (inputs : List Coded) (bytes : List ℕ) (pairs : List (ℕ × ℤ)) → household_of inputs bytes ≡ Ok pairs
    → AreValuesOf inputs (values_of pairs (length inputs))
household_gives inputs bytes pairs h = pairs_give inputs pairs (read_types inputs bytes pairs h)

rows_give : (inputs : List Coded) (rows : List Row) → AllByRecursion (λ row. AreOfTypes inputs row.household.pairs) rows
    → AllByRecursion (λ row. AreValuesOf inputs (values_of row.household.pairs (length inputs))) rows
rows_give inputs [] h = tt
rows_give inputs (row ∷ rows) h = (pairs_give inputs row.household.pairs h.0, rows_give inputs rows h.1)

table_rows : (inputs : List Coded) (records : List (List (List ℕ))) (rows : List Row) → table_read inputs records ≡ Ok rows
    → AllByRecursion (λ row. AreOfTypes inputs row.household.pairs) rows
table_rows inputs [] rows h = cc h
table_rows inputs (first ∷ records) rows h =
    let g = if_ok (is_table_header first) (rows_read inputs (drop 1 first) records) BadHeader rows h in
    let r = read_before (λ columns. in_turn (table_row inputs columns) [] records) (in_turn (column_of inputs) [] (drop 1 first)) rows g.1 in
    table_types inputs r.0 records rows r.2

pub table_gives : (inputs : List Coded) (bytes : List ℕ) (rows : List Row) → table_of inputs bytes ≡ Ok rows
    → AllByRecursion (λ row. AreValuesOf inputs (values_of row.household.pairs (length inputs))) rows
table_gives inputs bytes rows h = rows_give inputs rows (table_rows inputs (records_of bytes) rows h)
