-- Masks of 64 bits, one for each node: bit k is 1 if the requested node k may depend on it.
use Rattle.std.specs.Prelude.{◌≡◌, ℕ, ◌<◌, ◌==◌, Bool, true, ◌⊎◌, List, length, slice_index_or}
use Rattle.std.specs.Int.{bit_at}
use Rattle.definedness.specs.Facts.{Possible}
use Rattle.flat_code.specs.declared.program.Node.{Node}
use Rattle.input_reads.specs.Reads.{may_depend}
use Rattle.input_reads.specs.Steps.{Depends}

abbrev pub has : ℕ → ℕ → Bool
has mask k = bit_at mask k == 1

abbrev pub mask_at : List ℕ → ℕ → ℕ
mask_at masks x = slice_index_or masks x 0

abbrev pub number_at : List ℕ → ℕ → ℕ
number_at wanted k = slice_index_or wanted k 0

-- the mask was added to the masks of the numbers that are read, and to no others
pub record Adds (read : ℕ → Type 0) (mask : ℕ) (old new : List ℕ) : Type 0 where
  pub size : length new ≡ length old
  pub keeps : (k x : ℕ) → has (mask_at old x) k ≡ true → has (mask_at new x) k ≡ true
  pub adds : (k x : ℕ) → read x → has mask k ≡ true → has (mask_at new x) k ≡ true
  pub only : (k x : ℕ) → has (mask_at new x) k ≡ true → (has (mask_at old x) k ≡ true) ⊎ (read x × (has mask k ≡ true))

-- each of the first i requested nodes has its bit, and no other bit is 1
pub record IsMarked (wanted : List ℕ) (i : ℕ) (masks : List ℕ) : Type 0 where
  pub marks : (k : ℕ) → k < i → has (mask_at masks (number_at wanted k)) k ≡ true
  pub only : (k x : ℕ) → has (mask_at masks x) k ≡ true → (k < i) × (x ≡ number_at wanted k)

-- The invariant of the backward pass, once it has visited the nodes from p on. A bit k that is 1 is
-- right: the requested node k depends on the input, or on all that the node depends on. And no
-- input is missed: if the requested node k depends on an input, the input has bit k, or a node
-- below p that depends on it has.
pub record IsSpread (known : List Possible) (nodes : List Node) (wanted : List ℕ) (p : ℕ) (masks found : List ℕ) : Type 0 where
  pub node : (k q n : ℕ) → k < length wanted → has (mask_at masks q) k ≡ true → Depends known nodes n q → Depends known nodes n (number_at wanted k)
  pub input : (k n : ℕ) → k < length wanted → has (mask_at found n) k ≡ true → Depends known nodes n (number_at wanted k)
  pub left : (k n : ℕ) → k < length wanted → Depends known nodes n (number_at wanted k)
      → (has (mask_at found n) k ≡ true) ⊎ ((q : ℕ) × (q < p) × (has (mask_at masks q) k ≡ true) × Depends known nodes n q)

-- bit k of an input's mask is 1 exactly if the requested node k may depend on the input
pub record AreMasks (known : List Possible) (nodes : List Node) (wanted found : List ℕ) : Type 0 where
  pub bit : (k n : ℕ) → k < length wanted → has (mask_at found n) k ≡ may_depend known nodes (number_at wanted k) n
