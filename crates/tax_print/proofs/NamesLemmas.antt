-- The text of names, from one of them on, and of words and a name.
use Rattle.std.proofs.Common.{◌≡◌, ℕ, ◌+◌, ◌<◌, ◌≤◌, length, get_or, drop, List, [], ◌∷◌, ◌++◌, Option, Result, sym, subst, ◌∙◌, ap, append_assoc, append-nil}
use Rattle.std.proofs.lemmas.List.{drop_more, drop_all}
use Rattle.m_ports.specs.Giving.{Gives}
use Rattle.tax_print.specs.FaultLines.{names_text}

-- it begins with a space and the name at this index
pub names_at : (names : List (List ℕ)) (i : ℕ) (name d : List ℕ) (rest : List ℕ) → i < length names → name ≡ get_or names i d
    → names_text (drop i names) ++ rest ≡ (32 ∷ (name ++ [])) ++ (names_text (drop (i + 1) names) ++ rest)
names_at names i name d rest h is =
    let behind : List ℕ = names_text (drop (i + 1) names) in
    ap (λ left. names_text left ++ rest) (drop_more names i d h)
    ∙ ap (λ bytes. 32 ∷ bytes) (append_assoc (get_or names i d) behind rest
    ∙ ap (λ bytes. bytes ++ (behind ++ rest)) (sym is ∙ sym (append-nil name)))

-- after the last name it is empty
pub names_end : (names : List (List ℕ)) (i : ℕ) (rest : List ℕ) → length names ≤ i → names_text (drop i names) ++ rest ≡ rest
names_end names i rest h = ap (λ left. names_text left ++ rest) (drop_all i names h)

-- words and a name that are given as two pieces are one text
pub as_one : {S T E : Type 0} (written : S → Option (List ℕ)) (faults : S → ℕ) (old new : S) (result : Result T E)
    (before : List ℕ → List ℕ) (words name : List ℕ)
    → Gives written faults old new result (before (words ++ (name ++ 10 ∷ [])))
    → Gives written faults old new result (before ((words ++ name) ++ 10 ∷ []))
as_one written faults old new result before words name given =
    subst (λ text. Gives written faults old new result (before text)) (sym (append_assoc words name (10 ∷ []))) given
