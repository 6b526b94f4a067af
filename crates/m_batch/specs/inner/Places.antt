-- The places of inputs in the lists of values of rows.
use Rattle.std.specs.Prelude.{◌≡◌, ℕ, ℤ, ◌<◌, List, length, slice_index_or, Vec}
use Rattle.std.specs.declared.alloc.Global.{Global}
use Rattle.std.specs.List.{AllByRecursion}
use Rattle.m_fixed.specs.declared.amount.Value.{Value}
use Rattle.flat_code.specs.Runs.{value_at as at}
use Rattle.household.specs.declared.table.Row.{Row}
use Rattle.household.specs.Household.{inputs_of, value_at}
use Rattle.m_batch.specs.declared.places.Places.{Places}

-- the place of an input
abbrev pub place_of : Places → ℕ → ℕ
place_of places input = slice_index_or places.of.items input 0

-- Each input has a place, and places from 1 on are those of one input each.
pub record IsPlacing (places : Places) : Type 0 where
  pub some : 0 < length places.inputs.items
  pub below : (n : ℕ) → n < length places.of.items → place_of places n < length places.inputs.items
  pub back : (n : ℕ) → n < length places.of.items → 0 < place_of places n → slice_index_or places.inputs.items (place_of places n) 0 ≡ n

-- the inputs of pairs have places from 1 on
abbrev pub HasPlaces : Places → List (ℕ × ℤ) → Type 0
HasPlaces places pairs = AllByRecursion (λ input. (input < length places.of.items) × (0 < place_of places input)) (inputs_of pairs)

abbrev pub RowHasPlaces : Places → Row → Type 0
RowHasPlaces places row = HasPlaces places row.household.pairs

-- inputs with a place from 1 on still have one, and the number of inputs is unchanged
pub record KeepPlaces (old new : Places) : Type 0 where
  pub many : length new.of.items ≡ length old.of.items
  pub places : (n : ℕ) → 0 < place_of old n → 0 < place_of new n

-- this many inputs have places, and those of rows have places from 1 on
pub record ArePlaced (inputs : ℕ) (places : Places) (rows : List Row) : Type 0 where
  pub many : length places.of.items ≡ inputs
  pub placing : IsPlacing places
  pub placed : AllByRecursion (RowHasPlaces places) rows

-- each input's place has the value that pairs give it
abbrev pub IsFilled : Places → List Value → List (ℕ × ℤ) → Type 0
IsFilled places row pairs = (n : ℕ) → n < length places.of.items → at row (place_of places n) ≡ value_at pairs n

-- lists with this many values each
abbrev pub AreRows : ℕ → List (Vec Value Global) → Type 0
AreRows width rows = (r : ℕ) (d : Vec Value Global) → r < length rows → length (slice_index_or rows r d).items ≡ width
