-- The representation of an amount in a pair: absolute value and sign.
use Rattle.std.specs.Prelude.{◌≡◌, ℕ, ◌≤◌, Bool, true, false, zero, suc, unsigned_abs}
use Rattle.std.specs.Int.{is_negative}
use Rattle.std.proofs.Common.{refl}
use Rattle.m_fixed.specs.Amounts.{most}
use Rattle.m_fixed.specs.Rounding.{signed}

-- An absolute value and a sign are an amount, and 0 isn't negative, so that the representation is
-- unique.
pub record IsSize (negative : Bool) (size : ℕ) : Type 0 where
  pub bound : size ≤ most
  pub sign : is_negative (signed negative size) ≡ negative

-- the absolute value and the sign of the amount they represent
pub size_back : (negative : Bool) (size : ℕ) → IsSize negative size → unsigned_abs (signed negative size) ≡ size
size_back false size h = refl
size_back true zero h = refl
size_back true (suc size) h = refl

pub sign_back : (negative : Bool) (size : ℕ) → IsSize negative size → is_negative (signed negative size) ≡ negative
sign_back negative size h = h.sign
