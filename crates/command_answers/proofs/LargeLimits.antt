-- The generated source is within the limits of a source.
use Rattle.std.proofs.Common.{◌≡◌, ℕ, zero, suc, ◌+◌, ◌-◌, ◌*◌, ◌<◌, ◌≤◌, List, [], ◌∷◌, length, refl, ◌∙◌, ap, arith, length-append}
use Rattle.std.specs.Prelude.{codes, decimal}
use Rattle.std.proofs.lemmas.Fmt.{length-decimal-le}
use Rattle.m_text.specs.Pieces.{joined}
use Rattle.m_places.specs.SourceLimits.{SourceKeepsLimits}
use Rattle.m_text.specs.Pieces.{new_line}
use Rattle.m_large.specs.Large.{declaration, declarations, rule, rules, first_rule, check, base_text}
use Rattle.large_validity.specs.Sources.{large_requests, large_source}

-- the total length of pieces
abbrev total : List (List ℕ) → ℕ
total [] = 0
total (piece ∷ pieces) = length piece + total pieces

length-joined : (pieces : List (List ℕ)) → length (joined pieces) ≡ total pieces
length-joined [] = refl
length-joined (piece ∷ pieces) = length-append piece (joined pieces) ∙ ap (λ n. length piece + n) (length-joined pieces)

-- a number of at most five digits, and one of at most six
five : (k : ℕ) → k < 100000 → length (decimal k) ≤ 5
five k h = length-decimal-le 5 k (omega arith) h (omega (arith, h))

six : (k : ℕ) → k < 1000000 → length (decimal k) ≤ 6
six k h = length-decimal-le 6 k (omega arith) h (omega (arith, h))

declaration_within : (k : ℕ) → k < 100000 → length (declaration k) ≤ 81
declaration_within k h =
    let e : length (declaration k) ≡ 1 + (length (decimal k) + (35 + (length (decimal k) + (8 + (1 + (1 + (length (decimal k) + (19 + (1 + 0))))))))) =
    length-joined (codes "R" ∷ decimal k ∷ codes " : saisie revenu classe = 0 alias C" ∷ decimal k ∷ codes " : \"r\" ;" ∷ new_line
    ∷ codes "T" ∷ decimal k ∷ codes " : calculee : \"t\" ;" ∷ new_line ∷ []) in
    omega (arith, e, five k h)

declarations_within : (n : ℕ) → n ≤ 100000 → length (declarations n) ≤ 81 * n
declarations_within zero h = omega arith
declarations_within (suc k) h =
    let before = declarations_within k (omega (arith, h)) in
    let one = declaration_within k (omega (arith, h)) in
    omega (arith, before, one, length-append (declarations k) (declaration k))

rule_within : (number k j : ℕ) → number < 1000000 → k < 100000 → j < 100000 → length (rule number k j) ≤ 79
rule_within number k j a b c =
    let e : length (rule number k j) ≡ 6 + (length (decimal number) +
    (24 + (1 + (1 + (length (decimal k) + (11 + (length (decimal k) + (12 + (length (decimal j) + (2 + (1 + 0))))))))))) =
    length-joined (codes "regle " ∷ decimal number ∷ codes " : application : iliad ;" ∷ new_line
    ∷ codes "T" ∷ decimal k ∷ codes " = max(0, R" ∷ decimal k ∷ codes " - 1000) + T" ∷ decimal j ∷ codes " ;" ∷ new_line ∷ []) in
    omega (arith, e, six number a, five k b, five j c)

rules_within : (k : ℕ) → k < 100000 → length (rules k) ≤ 79 * k
rules_within zero h = omega arith
rules_within (suc j) h =
    let before = rules_within j (omega (arith, h)) in
    let one = rule_within (j + 2) (suc j) j (omega (arith, h)) h (omega (arith, h)) in
    omega (arith, before, one, length-append (rule (j + 2) (suc j) j) (rules j))

check_within : (k : ℕ) → k < 100000 → length (check k) ≤ 111
check_within k h =
    let e : length (check k) ≡ 46 + (1 + (31 + (1 + (4 + (length (decimal k) + (22 + (1 + 0))))))) =
    length-joined (codes "E1 : anomalie : \"E\" : \"1\" : \"0\" : \"negative\" ;" ∷ new_line
    ∷ codes "verif 1 : application : iliad ;" ∷ new_line
    ∷ codes "si T" ∷ decimal k ∷ codes " < 0 alors erreur E1 ;" ∷ new_line ∷ []) in
    omega (arith, e, five k h)

base_within : (n : ℕ) → 1 ≤ n → n ≤ 100000 → length (base_text n) ≤ 16777216
base_within n some few =
    let whole : length (base_text n) ≡ length (declarations n) + (length (rules (n - 1)) + (length first_rule + (length (check (n - 1)) + 0))) =
    length-joined (declarations n ∷ rules (n - 1) ∷ first_rule ∷ check (n - 1) ∷ []) in
    let first : length first_rule ≡ 57 = refl in
    let last : n - 1 < 100000 = omega (arith, some, few) in
    omega (arith, whole, first, some, few, declarations_within n few, rules_within (n - 1) last, check_within (n - 1) last)

requests_within : (n : ℕ) → n ≤ 100000 → length (large_requests n) ≤ 16777216
requests_within n few =
    let e : length (large_requests n) ≡ 1 + (length (decimal (n - 1)) + (1 + 0)) = length-joined (codes "T" ∷ decimal (n - 1) ∷ new_line ∷ []) in
    let digits = six (n - 1) (omega (arith, few)) in
    omega (arith, e, digits)

pub large_within : (n : ℕ) → 1 ≤ n → n ≤ 100000 → SourceKeepsLimits (large_source n)
large_within n some few = record {
  texts = record { few = omega arith; each = (base_within n some few, tt); total = omega (arith, base_within n some few) };
  driver = tt;
  requests = requests_within n few;
}
