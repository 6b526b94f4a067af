-- The state of a sheet, as contracts see it.
use Rattle.std.specs.Prelude.{ℕ, Bool, false, List, replicate, slice_index_or}
use Rattle.m_fixed.specs.declared.amount.Value.{Value}
use Rattle.m_fixed.specs.declared.amount.Value.TheVariants.{Undef}
use Rattle.flat_code.specs.declared.program.Flat.{Flat}
use Rattle.flat_code.specs.Runs.{node_values, value_at}

-- a program, the inputs of the last settled state, the current inputs, and for each input whether
-- it was set since
pub record Held : Type 0 where
  pub flat : Flat
  pub settled : List Value
  pub now : List Value
  pub put : List Bool

-- the settled sheet of a program whose inputs are all undefined
abbrev pub fresh : Flat → Held
fresh flat = record { flat = flat; settled = replicate flat.inputs Undef; now = replicate flat.inputs Undef; put = replicate flat.inputs false }

-- the value of the output with this number, for these inputs
abbrev pub output_value : Flat → List Value → ℕ → Value
output_value flat inputs k = value_at (node_values inputs flat.nodes) (slice_index_or flat.outputs k 0)
