-- The lines of the expectations that aren't met, and their count, from a position on.
use Rattle.std.proofs.Common.{◌≡◌, ℕ, zero, suc, ◌+◌, ◌<◌, ◌≤◌, Bool, true, false, cond, arith, get_or, drop, List, [], ◌∷◌, ◌++◌, length, Option, sym, ap, ◌∙◌}
use Rattle.std.proofs.Common.{subst}
use Rattle.std.proofs.lemmas.List.{drop_more, drop_all}
use Rattle.m_fixed.specs.declared.amount.Value.{Value}
use Rattle.m_cases.specs.declared.expected.Expected.{Expected}
use Rattle.std.specs.List.{AllByRecursion}
use Rattle.m_cases.specs.Mismatches.{got_of, is_met, mismatch_count, mismatch_lines, one_line}

pub lines_at : (names : List (List ℕ)) (label : List ℕ) (vs : Option (List Value)) (expected : List (ℕ × Expected)) (k : ℕ) (e : ℕ × Expected)
    → k < length expected → e ≡ get_or expected k e
    → mismatch_lines names label vs (drop k expected) ≡ one_line names label vs e ++ mismatch_lines names label vs (drop (k + 1) expected)
lines_at names label vs expected k e h is =
    ap (mismatch_lines names label vs) (drop_more expected k e h) ∙ ap (λ x. one_line names label vs x ++ mismatch_lines names label vs (drop (k + 1) expected))
    (sym is)

pub lines_end : (names : List (List ℕ)) (label : List ℕ) (vs : Option (List Value)) (expected : List (ℕ × Expected)) (k : ℕ) → length expected ≤ k
    → mismatch_lines names label vs (drop k expected) ≡ []
lines_end names label vs expected k h = ap (mismatch_lines names label vs) (drop_all k expected h)

count_at : (vs : Option (List Value)) (expected : List (ℕ × Expected)) (k : ℕ) (e : ℕ × Expected) → k < length expected → e ≡ get_or expected k e
    → mismatch_count vs (drop k expected) ≡ cond (is_met e.1 (got_of vs e.0)) 0 1 + mismatch_count vs (drop (k + 1) expected)
count_at vs expected k e h is = ap (mismatch_count vs) (drop_more expected k e h)
    ∙ ap (λ (x : ℕ × Expected). cond (is_met x.1 (got_of vs x.0)) 0 1 + mismatch_count vs (drop (k + 1) expected)) (sym is)

-- an expectation that is met, and one that isn't
pub count_met : (vs : Option (List Value)) (expected : List (ℕ × Expected)) (k : ℕ) (e : ℕ × Expected) (met : Bool) → k < length expected
    → e ≡ get_or expected k e → met ≡ is_met e.1 (got_of vs e.0) → met ≡ true
    → mismatch_count vs (drop k expected) ≡ mismatch_count vs (drop (k + 1) expected)
count_met vs expected k e met h is m t =
    let at = count_at vs expected k e h is in
    let zero_more : cond (is_met e.1 (got_of vs e.0)) 0 1 ≡ 0 = ap {B = ℕ} (λ b. cond b 0 1) (sym m ∙ t) in
    omega (arith, at, zero_more)

pub count_unmet : (vs : Option (List Value)) (expected : List (ℕ × Expected)) (k : ℕ) (e : ℕ × Expected) (met : Bool) → k < length expected
    → e ≡ get_or expected k e → met ≡ is_met e.1 (got_of vs e.0) → met ≡ false
    → mismatch_count vs (drop k expected) ≡ suc (mismatch_count vs (drop (k + 1) expected))
count_unmet vs expected k e met h is m f =
    let at = count_at vs expected k e h is in
    let one_more : cond (is_met e.1 (got_of vs e.0)) 0 1 ≡ 1 = ap {B = ℕ} (λ b. cond b 0 1) (sym m ∙ f) in
    omega (arith, at, one_more)

pub count_end : (vs : Option (List Value)) (expected : List (ℕ × Expected)) (k : ℕ) → length expected ≤ k → mismatch_count vs (drop k expected) ≡ 0
count_end vs expected k h = ap (mismatch_count vs) (drop_all k expected h)

-- the expectation at a position is of a known output
pub known_at : (names : ℕ) (expected : List (ℕ × Expected)) (k : ℕ) (e : ℕ × Expected) → AllByRecursion (λ x. x.0 < names) expected → k < length expected
    → e ≡ get_or expected k e → e.0 < names
known_at names [] k e all h is = absurd (omega (arith, h))
known_at names (x ∷ expected) zero e all h is = subst (λ (y : ℕ × Expected). y.0 < names) (sym is) all.0
known_at names (x ∷ expected) (suc k) e all h is = known_at names expected k e all.1 (omega (arith, h)) is
