-- What every pass over flat programs preserves.
use Rattle.std.specs.Prelude.{◌≡◌, ℕ, ◌<◌, ◌≤◌, List, length}
use Rattle.m_fixed.specs.declared.amount.Value.{Value}
use Rattle.flat_code.specs.declared.program.Check.{Check}
use Rattle.flat_code.specs.declared.program.Flat.{Flat}
use Rattle.flat_code.specs.Runs.{IsFlat, flat_run}
use Rattle.flat_code.specs.Tidy.{check_at}
use Rattle.flat_code.specs.Facts.{ArePlain}

-- each label of the first checks is a label of the second
abbrev pub HaveLabelsOf : List Check → List Check → Type 0
HaveLabelsOf old new = (j : ℕ) → j < length new → (i : ℕ) × (i < length old) × ((check_at new j).label ≡ (check_at old i).label)

-- A pass may turn the old program into the new one: the new one is valid, has the same numbers of
-- inputs and outputs, no more nodes and checks, no other labels, and the same answer for all plain
-- inputs (each undefined or an amount). The relation is transitive (`passes_compose`), so a
-- sequence of passes is proved pass by pass.
pub record Becomes (old new : Flat) : Type 0 where
  pub valid : IsFlat new
  pub inputs : new.inputs ≡ old.inputs
  pub outputs : length new.outputs ≡ length old.outputs
  pub nodes : length new.nodes ≤ length old.nodes
  pub checks : length new.checks ≤ length old.checks
  pub labels : HaveLabelsOf old.checks new.checks
  pub answer : (inputs : List Value) → ArePlain inputs → flat_run new inputs ≡ flat_run old inputs
