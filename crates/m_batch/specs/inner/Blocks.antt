-- The state of a worker.
use Rattle.std.specs.Prelude.{◌≡◌, ℕ, List, length, Vec}
use Rattle.std.specs.declared.alloc.Global.{Global}
use Rattle.m_fixed.specs.declared.amount.Value.{Value}
use Rattle.household.specs.declared.table.Row.{Row}
use Rattle.m_batch.specs.declared.room.TheConstants.{BLOCK}
use Rattle.m_batch.specs.declared.places.Places.{Places}
use Rattle.m_batch.specs.inner.Places.{ArePlaced, AreRows}

-- the inputs of the rows have places, and a block has for each row a list with one value for each
-- place
pub record IsReady (inputs : ℕ) (places : Places) (block : List (Vec Value Global)) (rows : List Row) : Type 0 where
  pub placed : ArePlaced inputs places rows
  pub many : length block ≡ BLOCK
  pub width : AreRows (length places.inputs.items) block
