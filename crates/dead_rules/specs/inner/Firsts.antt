-- Duplicate checks: only the first of equal checks is kept.
use Rattle.std.specs.Prelude.{◌≡◌, ℕ, ◌<◌, ◌≤◌, Bool, true, false, List, [], ◌∷◌, ◌++◌, length}
use Rattle.m_fixed.specs.declared.amount.Value.{Value}
use Rattle.m_fixed.specs.declared.operator.Op.{Op}
use Rattle.m_fixed.specs.declared.operator.Op.TheVariants.{And, Or}
use Rattle.flat_code.specs.declared.program.Node.{Node}
use Rattle.flat_code.specs.declared.program.Node.TheVariants.{Do}
use Rattle.flat_code.specs.declared.program.Check.{Check}
use Rattle.flat_code.specs.declared.program.Flat.{Flat}
use Rattle.flat_code.specs.Runs.{first_stop}
use Rattle.flat_code.specs.Tidy.{IsFolded, IsReached, check_at}

-- an operator that encodes whether a check stops on overflow only
abbrev pub kind_op : Bool → Op
kind_op true = And
kind_op false = Or

-- A check encoded as a node, so that a table of nodes can find it. The node is never computed: its
-- last argument is a label.
abbrev pub check_node : Check → Node
check_node check = Do (kind_op check.over_only) check.guard check.condition check.label

-- A check is taken: either it is in the list, which is unchanged, or it isn't, and it is appended.
pub data IsTaken (old new : List Check) (check : Check) : Type 0 where
  there : (k : ℕ) → k < length old → check_at old k ≡ check → new ≡ old → IsTaken old new check
  added : ((j : ℕ) → j < length old → check_at old j ≡ check → ⊥) → new ≡ old ++ check ∷ [] → IsTaken old new check

-- The new checks are the old ones without duplicates: both have the same elements, no two new ones
-- are equal, they are no more than the old, and the first stop is the same.
pub record AreFirsts (old new : List Check) : Type 0 where
  pub unlike : (i j : ℕ) → i < length new → j < length new → check_at new i ≡ check_at new j → i ≡ j
  pub few : length new ≤ length old
  pub from : (j : ℕ) → j < length new → (i : ℕ) × (i < length old) × (check_at new j ≡ check_at old i)
  pub all : (i : ℕ) → i < length old → (j : ℕ) × (j < length new) × (check_at new j ≡ check_at old i)
  pub stop : (vs : List Value) → first_stop vs new ≡ first_stop vs old

-- a program whose nodes are folded and shared, and all reached
pub record IsPruned (flat : Flat) : Type 0 where
  pub folded : IsFolded flat.nodes
  pub reached : (p : ℕ) → p < length flat.nodes → IsReached flat p

-- the program with these checks
abbrev pub with_checks : Flat → List Check → Flat
with_checks flat checks = record { inputs = flat.inputs; nodes = flat.nodes; checks = checks; outputs = flat.outputs }
