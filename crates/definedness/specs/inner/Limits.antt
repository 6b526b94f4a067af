-- Numbers beyond the amounts, up to their distance from them.
use Rattle.std.specs.Prelude.{ℤ, pos, neg_ℤ, ◌+◌}
use Rattle.std.specs.Int.{int_min, int_max, is_negative}
use Rattle.m_fixed.specs.Amounts.{most}
use Rattle.m_fixed.specs.Rounding.{signed, differ}

-- one millionth more than the greatest amount
abbrev pub beyond : ℤ
beyond = pos (most + 1)

-- the number itself if it is an amount, else the nearest number beyond the amounts
unfoldable pub limited : ℤ → ℤ
limited z = int_max (neg_ℤ beyond) (int_min z beyond)

unfoldable pub limited_range : ℤ × ℤ → ℤ × ℤ
limited_range r = (limited r.0, limited r.1)

-- beyond the amounts, with the sign of the product of two numbers
abbrev pub signed_beyond : ℤ → ℤ → ℤ
signed_beyond x y = signed (differ (is_negative x) (is_negative y)) (most + 1)
