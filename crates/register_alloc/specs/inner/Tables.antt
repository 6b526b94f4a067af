-- The tables of registers and slots, and live nodes.
use Rattle.std.specs.Prelude.{◌≡◌, ℕ, ◌<◌, ◌&&◌, ◌||◌, nat_lt, Bool, true, false, ◌⊎◌, List, drop, Option, Some, None, slice_index_or}
use Rattle.std.specs.Option.{option_map_or}
use Rattle.std.specs.List.{list_any}
use Rattle.flat_code.specs.declared.program.Flat.{Flat}
use Rattle.register_alloc.specs.Width.{reads, check_reads}

-- the entry at a place of a table
abbrev pub look : List (Option ℕ) → ℕ → Option ℕ
look table k = slice_index_or table k None

-- a table contains node x
pub record In (table : ℕ → Option ℕ) (x : ℕ) : Type 0 where
  pub place : ℕ
  pub is : table place ≡ Some x

-- Whether a node is live: it is made, and is read by a node from `read` on or by a check from
-- `checked` on.
abbrev pub is_live : Flat → ℕ → ℕ → ℕ → ℕ → Bool
is_live flat made read checked x = nat_lt x made && (list_any (reads x) (drop read flat.nodes) || list_any (check_reads x) (drop checked flat.checks))

-- whether an entry is a live node
abbrev pub is_busy : (ℕ → Bool) → Option ℕ → Bool
is_busy live entry = option_map_or live entry false

-- The invariant of the registers r and the slots s: each entry is a made node, and no two are equal
-- within a table; every node in a slot is live; every live node is in a register or in a slot.
pub record Tables (live : ℕ → Bool) (made : ℕ) (r s : ℕ → Option ℕ) : Type 0 where
  pub earlier : (k x : ℕ) → r k ≡ Some x → x < made
  pub one_register : (i j x : ℕ) → r i ≡ Some x → r j ≡ Some x → i ≡ j
  pub one_slot : (i j x : ℕ) → s i ≡ Some x → s j ≡ Some x → i ≡ j
  pub owned : (k x : ℕ) → s k ≡ Some x → live x ≡ true
  pub placed : (x : ℕ) → live x ≡ true → In r x ⊎ In s x
