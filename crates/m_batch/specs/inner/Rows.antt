-- Rows of values, and the inputs that they give to code.
use Rattle.std.specs.Prelude.{ℕ, List, [], map, slice_index_or, Vec, Option, None}
use Rattle.std.specs.declared.alloc.Global.{Global}
use Rattle.m_fixed.specs.declared.amount.Value.{Value}
use Rattle.observables.specs.declared.answer.Answer.{Answer}
use Rattle.observables.specs.declared.answer.Stop.{Stop}
use Rattle.flat_code.specs.Runs.{value_at}
use Rattle.reg_machine.specs.Flow.{Listing}
use Rattle.reg_machine.specs.Machine.{answer_of}

-- a machine for blocks, as contracts see it: the code, the stops of the last block's rows, and a
-- column for each output
pub record Table : Type 0 where
  pub code : Listing
  pub stops : List (Option Stop)
  pub outputs : List (Vec Value Global)

-- row r of columns
abbrev pub row_of : ℕ → List (Vec Value Global) → List Value
row_of r columns = map (λ (column : Vec Value Global). value_at column.items r) columns

-- the answer of the last block's row r: its stop, or else its outputs
abbrev pub answer_in : Table → ℕ → Answer
answer_in table r = answer_of (slice_index_or table.stops r None) (row_of r table.outputs)

-- the values of row r
abbrev pub row_at : List (Vec Value Global) → ℕ → List Value
row_at rows r = slice_index_or (map (λ (row : Vec Value Global). row.items) rows) r []

-- The inputs that a row gives, where input n is the row's value at the place of n: the places 2, 0
-- and 0 and the row Undef, 7 and 5 give 5, Undef and Undef.
abbrev pub row_inputs : List ℕ → List Value → List Value
row_inputs numbers row = map (value_at row) numbers
