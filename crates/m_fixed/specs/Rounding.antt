-- Quotients of whole numbers, rounded to whole numbers.
use Rattle.std.specs.Prelude.{ℕ, ◌≤◌, ◌-ℤ◌, ◌*ℤ◌, ◌+◌, ◌*◌, ◌/◌, ℤ, pos, neg_ℤ, unsigned_abs, Bool, true, false, not, if◌then◌else◌}
use Rattle.std.specs.Int.{is_negative}

-- the whole number nearest to n / d, halves up
abbrev pub nearest : ℕ → ℕ → ℕ
nearest n d = (2 * n + d) / (2 * d)

-- a size with a sign
abbrev pub signed : Bool → ℕ → ℤ
signed negative size = if negative then neg_ℤ (pos size) else pos size

-- exclusive or
abbrev pub differ : Bool → Bool → Bool
differ true b = not b
differ false b = b

-- the whole number nearest to n / d, halves away from zero: 5 / 2 gives 3, and -5 / 2 gives -3
abbrev pub rounded : ℤ → ℤ → ℤ
rounded n d = signed (differ (is_negative n) (is_negative d)) (nearest (unsigned_abs n) (unsigned_abs d))

-- q · d is as near to n as a multiple of d can be
abbrev pub IsNear : ℤ → ℤ → ℤ → Type 0
IsNear n d q = 2 * unsigned_abs (n -ℤ q *ℤ d) ≤ unsigned_abs d

-- q is nearest to n / d; of two equally near numbers, where n is halfway, it is the farther from
-- zero
pub record IsNearest (n d q : ℤ) : Type 0 where
  pub near : IsNear n d q
  pub farthest : (p : ℤ) → IsNear n d p → unsigned_abs p ≤ unsigned_abs q
