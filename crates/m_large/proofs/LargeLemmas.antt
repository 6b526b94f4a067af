-- How one turn of a loop extends the texts of `large N`, and how the parts make the whole.
use Rattle.std.proofs.Common.{◌≡◌, ℕ, zero, suc, ◌+◌, ◌-◌, ◌<◌, List, [], ◌++◌, sym, ◌∙◌, ap, append_assoc, append-nil, arith}
use Rattle.m_large.specs.Large.{rule, rules}

-- the rules from a sum down begin with that sum's rule
rules_down : (k : ℕ) → 0 < k → rules k ≡ rule (k + 1) k (k - 1) ++ rules (k - 1)
rules_down zero h = let no : 0 < 0 = h in absurd (omega (arith, no))
rules_down (suc j) h =
    let number : j + 2 ≡ suc j + 1 = omega arith in
    let next : j ≡ suc j - 1 = omega arith in
    ap (λ n. rule n (suc j) j ++ rules j) number ∙ ap (λ i. rule (suc j + 1) (suc j) i ++ rules i) next

-- one turn of the loop over rules
pub rules_turn : (k : ℕ) (text new whole : List ℕ) → 0 < k → text ++ rules k ≡ whole → new ≡ text ++ rule (k + 1) k (k - 1) → new ++ rules (k - 1) ≡ whole
rules_turn k text new whole h same appended =
    ap (λ bytes. bytes ++ rules (k - 1)) appended ∙ append_assoc text (rule (k + 1) k (k - 1)) (rules (k - 1))
    ∙ ap (λ bytes. text ++ bytes) (sym (rules_down k h)) ∙ same

-- four parts appended to an empty text
pub four_parts : (none one two three four a b c d : List ℕ) → none ≡ [] → one ≡ none ++ a → two ≡ one ++ b → three ≡ two ++ c → four ≡ three ++ d
    → four ≡ a ++ (b ++ (c ++ (d ++ [])))
four_parts none one two three four a b c d e0 e1 e2 e3 e4 =
    e4 ∙ ap (λ text. text ++ d) (e3 ∙ ap (λ text. text ++ c) (e2 ∙ ap (λ text. text ++ b) (e1 ∙ ap (λ text. text ++ a) e0)))
    ∙ append_assoc (a ++ b) c d ∙ append_assoc a b (c ++ d) ∙ ap (λ text. a ++ (b ++ (c ++ text))) (sym (append-nil d))
