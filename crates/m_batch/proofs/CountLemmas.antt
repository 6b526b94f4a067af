-- Saturating sums of counts.
use Rattle.std.proofs.Common.{◌≡◌, ℕ, ◌+◌, ◌-◌, ◌^◌, min, arith}
use Rattle.m_batch.specs.Printing.{counted_to_end}

-- the count of a prefix of the whole, where the rest has this count
pub record IsCounting (count rest whole : ℕ) : Type 0 where
  pub done : ℕ
  pub is : count ≡ counted_to_end done
  pub sum : done + rest ≡ whole

pub counting_first : (whole : ℕ) → IsCounting 0 whole whole
counting_first whole = record { done = 0; is = omega arith; sum = omega arith }

-- one more piece
pub counting_more : (count some new piece rest left whole : ℕ) → left ≡ piece + rest → IsCounting count left whole → some ≡ counted_to_end piece
    → new ≡ min (count + some) (2 ^ 64 - 1)
    → IsCounting new rest whole
counting_more count some new piece rest left whole is counting of_piece added =
    let before = counting.is in
    let sum = counting.sum in
    record { done = counting.done + piece; is = omega (arith, before, of_piece, added); sum = omega (arith, sum, is) }

-- one more piece, with a known count
pub counting_one : (count some new piece rest left whole : ℕ) → left ≡ piece + rest → IsCounting count left whole → some ≡ piece
    → new ≡ min (count + some) (2 ^ 64 - 1) → IsCounting new rest whole
counting_one count some new piece rest left whole is counting of_piece added =
    let before = counting.is in
    let sum = counting.sum in
    record { done = counting.done + piece; is = omega (arith, before, of_piece, added); sum = omega (arith, sum, is) }

-- the rest is empty
pub counting_last : (count rest whole : ℕ) → rest ≡ 0 → IsCounting count rest whole → count ≡ counted_to_end whole
counting_last count rest whole none counting = let is = counting.is in let sum = counting.sum in omega (arith, is, sum, none)
