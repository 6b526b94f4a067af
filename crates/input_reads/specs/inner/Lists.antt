-- Lists of numbers, one for each bit.
use Rattle.std.specs.Prelude.{◌≡◌, ℕ, ◌<◌, true, not, ◌&&◌, List, [], ◌∷◌, ◌++◌, length, map, filter, slice_index_or, slice_set, if◌then◌else◌, Vec}
use Rattle.std.specs.List.{range_with_len}
use Rattle.std.specs.declared.alloc.Global.{Global}
use Rattle.input_reads.specs.inner.Masks.{has, mask_at}

abbrev pub lists_in : List (Vec ℕ Global) → List (List ℕ)
lists_in vecs = map (λ v. v.items) vecs

abbrev pub list_at : List (List ℕ) → ℕ → List ℕ
list_at lists k = slice_index_or lists k []

-- the lists, with a number appended to list k
abbrev pub with_number : List (List ℕ) → ℕ → ℕ → List (List ℕ)
with_number lists k n = slice_set lists k (list_at lists k ++ n ∷ [])

-- a number was appended to each list whose bit is in the mask and not in the rest
pub record IsPut (mask rest n : ℕ) (old new : List (List ℕ)) : Type 0 where
  pub many : length new ≡ length old
  pub within : (k : ℕ) → k < 64 → has rest k ≡ true → has mask k ≡ true
  pub list : (k : ℕ) → k < length old → list_at new k ≡ list_at old k ++ (if has mask k && not (has rest k) then n ∷ [] else [])

-- list k has the numbers below `first` whose masks have bit k
pub record AreLists (masks : List ℕ) (first count : ℕ) (lists : List (List ℕ)) : Type 0 where
  pub many : length lists ≡ count
  pub list : (k : ℕ) → k < count → list_at lists k ≡ filter (λ n. has (mask_at masks n) k) (range_with_len 0 first)
