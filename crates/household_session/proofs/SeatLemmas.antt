-- Marks of the inputs of a household's pairs, from the last pair on.
use Rattle.std.proofs.Common.{◌≡◌, ℕ, ℤ, ◌+◌, ◌-◌, ◌<◌, ◌≤◌, Bool, true, List, ◌∷◌, length, get_or, set, drop, sym, ap, ◌∙◌, arith}
use Rattle.std.proofs.lemmas.List.{drop_more}
use Rattle.household_session.specs.Seats.{noted_pairs}

pub noted_next : (pairs : List (ℕ × ℤ)) (put : List Bool) (left : ℕ) (pair : ℕ × ℤ) → 0 < left → left ≤ length pairs → pair ≡ get_or pairs (left - 1) pair
    → set (noted_pairs (drop left pairs) put) pair.0 true ≡ noted_pairs (drop (left - 1) pairs) put
noted_next pairs put left pair some within read =
    let at = left - 1 in
    let next : at + 1 ≡ left = omega arith in
    let at_within : at < length pairs = omega arith in
    let cut : drop at pairs ≡ pair ∷ drop left pairs = drop_more pairs at pair at_within ∙ (λ i. sym read i ∷ drop (next i) pairs) in
    sym (ap (λ ps. noted_pairs ps put) cut)
