-- The invariants of a sheet: between calls, and during a settle.
use Rattle.std.specs.Prelude.{◌≡◌, ℕ, ◌+◌, ◌*◌, ◌<◌, ◌≤◌, Bool, false, List, length, replicate, take, count_by}
use Rattle.dirty_set.specs.Members.{is_member}
use Rattle.m_fixed.specs.declared.amount.Value.{Value}
use Rattle.flat_code.specs.declared.program.Node.{Node}
use Rattle.flat_code.specs.declared.program.Flat.{Flat}
use Rattle.flat_code.specs.Runs.{IsFlat, node_values, value_at}
use Rattle.flat_code.specs.Touched.{is_touched}
use Rattle.value_sheet.specs.inner.Readers.{node_at, IsReaders, IsInputRows}

-- Between calls, the kept values are those for the inputs of the last settled state, these differ
-- from the current inputs at most where an input was set, and no node is marked.
pub record IsSheet (flat : Flat) (settled now : List Value) (put : List Bool) (kept : List Value) (marks : List Bool)
    (readers input_rows : List (List ℕ)) : Type 0 where
  pub valid : IsFlat flat
  pub few : 3 * length flat.nodes < 4_294_967_295
  pub given : length now ≡ flat.inputs
  pub before : length settled ≡ flat.inputs
  pub puts : length put ≡ flat.inputs
  pub same : (n : ℕ) → is_member put n ≡ false → value_at settled n ≡ value_at now n
  pub right : kept ≡ node_values settled flat.nodes
  pub unmarked : marks ≡ replicate (length flat.nodes) false
  pub edges : IsReaders readers flat.nodes
  pub starts : IsInputRows input_rows flat.nodes flat.inputs

-- A settle that has reached node p: below p the kept values are new and no node is marked; from p
-- on they are old, and exactly the nodes are marked that are touched between the old and the kept
-- values. The number of steps is that of the nodes below p that are touched between the old and the
-- new values. So marks are defined by an equation, without a history of the loop.
pub record IsSettling (nodes : List Node) (put : List Bool) (old new kept : List Value) (marks : List Bool) (p begun steps : ℕ) : Type 0 where
  pub so_many : length kept ≡ length nodes
  pub room : length marks ≡ length nodes
  pub new_below : (k : ℕ) → k < p → value_at kept k ≡ value_at new k
  pub old_above : (k : ℕ) → p ≤ k → value_at kept k ≡ value_at old k
  pub unmarked : (k : ℕ) → k < p → is_member marks k ≡ false
  pub marked : (k : ℕ) → p ≤ k → is_member marks k ≡ is_touched put old kept (node_at nodes k)
  pub cost : steps ≡ begun + count_by (is_touched put old new) (take p nodes)
