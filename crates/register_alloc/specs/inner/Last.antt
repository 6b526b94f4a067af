-- The last read of each node.
use Rattle.std.specs.Prelude.{◌≡◌, ℕ, ◌<◌, nat_lt, Bool, List, length, drop, slice_index}
use Rattle.std.specs.List.{list_any}
use Rattle.flat_code.specs.declared.program.Flat.{Flat}
use Rattle.register_alloc.specs.Width.{reads, check_reads}

-- For each x below n, `last` is one more than the last place of an item that reads x, or 0.
pub record IsLast {X : Type 0} (read : ℕ → X → Bool) (items : List X) (n : ℕ) (last : List ℕ) : Type 0 where
  pub size : length last ≡ n
  pub is : (x k : ℕ) → x < n → list_any (read x) (drop k items) ≡ nat_lt k (slice_index last x)

pub record AreLast (flat : Flat) (by_node by_check : List ℕ) : Type 0 where
  pub nodes : IsLast reads flat.nodes (length flat.nodes) by_node
  pub checks : IsLast check_reads flat.checks (length flat.nodes) by_check
