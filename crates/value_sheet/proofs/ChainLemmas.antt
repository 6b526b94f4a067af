-- The edges of each source as linked lists.
use Rattle.std.proofs.Common.{◌≡◌, ◌≢◌, ℕ, zero, suc, ◌+◌, ◌-◌, ◌/◌, ◌<◌, ◌≤◌, List, [], ◌∷◌, ◌++◌, cond, length, get_or, drop, sym, ◌∙◌, ap, append_assoc}
use Rattle.std.proofs.Common.{arith}
use Rattle.std.proofs.lemmas.Bool.{eq-eqb, ne_eqb}
use Rattle.std.proofs.lemmas.List.{drop_more}
use Rattle.value_sheet.specs.Edges.{sourced}
use Rattle.value_sheet.specs.inner.EdgeChain.{IsNext}

sourced_own : (per p e s : ℕ) (sources : List ℕ) → s ≡ p → sourced per p e (s ∷ sources) ≡ e / per ∷ sourced per p (e + 1) sources
sourced_own per p e s sources is = ap (λ b. cond b (e / per ∷ sourced per p (e + 1) sources) (sourced per p (e + 1) sources)) (eq-eqb s p is)

sourced_other : (per p e s : ℕ) (sources : List ℕ) → s ≢ p → sourced per p e (s ∷ sources) ≡ sourced per p (e + 1) sources
sourced_other per p e s sources ne = ap (λ b. cond b (e / per ∷ sourced per p (e + 1) sources) (sourced per p (e + 1) sources)) (ne_eqb s p ne)

-- edges of other sources are skipped
skip : (per p d k j : ℕ) (sources : List ℕ) → k + d ≡ j → j ≤ length sources → ((i : ℕ) → k ≤ i → i < j → get_or sources i 0 ≢ p)
    → sourced per p k (drop k sources) ≡ sourced per p j (drop j sources)
skip per p zero k j sources e le others = ap (λ m. sourced per p m (drop m sources)) (let z : k ≡ j = omega arith in z)
skip per p (suc d) k j sources e le others =
    let lt : k < length sources = omega arith in
    let first : k < j = omega arith in
    ap (sourced per p k) (drop_more sources k 0 lt)
    ∙ sourced_other per p k (get_or sources k 0) (drop (k + 1) sources) (others k (omega arith) first)
    ∙ skip per p d (k + 1) j sources (omega arith) le (λ i from below. others i (omega arith) below)

pub sourced_next : (per p k j : ℕ) (sources : List ℕ) → IsNext sources p k j → sourced per p k (drop k sources) ≡ sourced per p j (drop j sources)
sourced_next per p k j sources h =
    let from : k ≤ j = h.from in
    skip per p (j - k) k j sources (omega arith) h.within h.between

-- one edge of the row
pub row_more : (per p e j : ℕ) (sources before new whole : List ℕ) → e < length sources → get_or sources e 0 ≡ p → IsNext sources p (e + 1) j
    → new ≡ before ++ e / per ∷ [] → before ++ sourced per p e (drop e sources) ≡ whole → new ++ sourced per p j (drop j sources) ≡ whole
row_more per p e j sources before new whole lt is next pushed rest =
    ap (λ ts. ts ++ sourced per p j (drop j sources)) pushed
    ∙ append_assoc before (e / per ∷ []) (sourced per p j (drop j sources))
    ∙ ap (λ ts. before ++ (e / per ∷ ts)) (sym (sourced_next per p (e + 1) j sources next))
    ∙ ap (λ ts. before ++ ts) (sym (ap (sourced per p e) (drop_more sources e 0 lt) ∙ sourced_own per p e (get_or sources e 0) (drop (e + 1) sources) is))
    ∙ rest
