-- Words of code files, and their tests.
use Rattle.std.proofs.Common.{◌≡◌, ◌≢◌, inl, inr, ◌<◌, ◌≤◌, ◌==◌, ◌&&◌, ℕ, Bool, false, true, not, cond, nat_le, nat_lt, is_some, List, [], ◌∷◌, ◌++◌, length}
use Rattle.std.proofs.Common.{Option, Some, None, decimal, refl, sym, ap, ◌∙◌, subst, arith, leb, ltb}
use Rattle.std.specs.List.{list_all, AllByRecursion}
use Rattle.std.specs.Str.Parse.{digits_value}
use Rattle.std.proofs.lemmas.Bool.{and_from, and_parts, or_cases, leb-true, ltb-true, le-leb, lt-ltb, eqb-true, ne_eqb, or_left, or_right, true≢false}
use Rattle.std.proofs.lemmas.Bool.{false≢true}
use Rattle.m_text.specs.Bytes.{IsDigit, IsWordByte, is_digit}
use Rattle.m_text.specs.Words.{AreDigits}
use Rattle.m_text.specs.Numbers.{whole_number}
use Rattle.reg_machine.proofs.TableLemmas.{none≢some, some-is}
use Rattle.code_file.specs.Printable.{IsPlainName, IsNoSmallLetter, IsCellName}
use Rattle.code_file.specs.inner.Spelled.{cut, number}
use Rattle.code_file.specs.inner.Faces.{is_no_small, index_by, is_index}
use Rattle.code_file.proofs.CutLemmas.{lacks, cut-at, cut-parts}
use Rattle.code_file.proofs.NumberLemmas.{number-sound, number-complete, decimal-lacks}

-- ---- digits

digits-all : (text : List ℕ) → list_all is_digit text ≡ true → AllByRecursion IsDigit text
digits-all [] h = tt
digits-all (b ∷ bs) h =
    let k = and_parts (is_digit b) (list_all is_digit bs) h in
    let d = and_parts (leb 48 b) (leb b 57) k.0 in
    ((leb-true 48 b d.0, leb-true b 57 d.1), digits-all bs k.1)

all-digits : (text : List ℕ) → AllByRecursion IsDigit text → list_all is_digit text ≡ true
all-digits [] h = refl
all-digits (b ∷ bs) h = and_from (is_digit b) (list_all is_digit bs) (and_from (leb 48 b) (leb b 57) (le-leb 48 b h.0.0) (le-leb b 57 h.0.1))
    (all-digits bs h.1)

not-empty : (text : List ℕ) → ltb 0 (length text) ≡ true → text ≢ []
not-empty text h e = true≢false (sym h ∙ ap (λ t. ltb 0 (length t)) e)

some-length : (text : List ℕ) → text ≢ [] → ltb 0 (length text) ≡ true
some-length [] n = absurd (n refl)
some-length (b ∷ bs) n = lt-ltb 0 (length (b ∷ bs)) (omega arith)

some-true : (b : Bool) (n : ℕ) → is_some (cond b (Some n) None) ≡ true → b ≡ true
some-true true n h = refl
some-true false n h = h

pub few-yes : (text : List ℕ) → is_some (whole_number text) ≡ true → AreDigits text × (length text ≤ 9)
unfolding whole_number
few-yes text h =
    let k = and_parts (list_all is_digit text && nat_lt 0 (length text)) (nat_le (length text) 9)
    (some-true ((list_all is_digit text && nat_lt 0 (length text)) && nat_le (length text) 9) (digits_value 10 text) h) in
    let d = and_parts (list_all is_digit text) (nat_lt 0 (length text)) k.0 in
    ((not-empty text d.1, digits-all text d.0), leb-true (length text) 9 k.1)

pub few-is : (text : List ℕ) → AreDigits text × (length text ≤ 9) → is_some (whole_number text) ≡ true
unfolding whole_number
few-is text h =
    ap (λ b. is_some (cond b (Some (digits_value 10 text)) None))
    (and_from (list_all is_digit text && nat_lt 0 (length text)) (nat_le (length text) 9)
    (and_from (list_all is_digit text) (nat_lt 0 (length text)) (all-digits text h.0.1) (some-length text h.0.0)) (le-leb (length text) 9 h.1))

-- ---- letters

pub no-small-yes : (text : List ℕ) → list_all is_no_small text ≡ true → AllByRecursion IsNoSmallLetter text
no-small-yes [] h = tt
no-small-yes (b ∷ bs) h =
    let k = and_parts (is_no_small b) (list_all is_no_small bs) h in (
      elim (or_cases (ltb b 97) (ltb 122 b) k.0) as (λ _. IsNoSmallLetter b) [ inl e ↦ inl (ltb-true b 97 e) | inr e ↦ inr (ltb-true 122 b e) ],
      no-small-yes bs
          k.1,
    )

pub no-small-is : (text : List ℕ) → AllByRecursion IsNoSmallLetter text → list_all is_no_small text ≡ true
no-small-is [] h = refl
no-small-is (b ∷ bs) h =
    and_from (is_no_small b) (list_all is_no_small bs)
    (elim h.0 as (λ _. is_no_small b ≡ true) [
      | inl e ↦ or_left (ltb b 97) (ltb 122 b) (lt-ltb b 97 e)
      | inr e ↦ or_right (ltb b 97) (ltb 122 b) (lt-ltb 122 b e)
    ])
    (no-small-is bs h.1)

-- ---- bytes that words don't have

-- a byte that occurs in no word
abbrev pub IsApart : ℕ → Type 0
IsApart mark = IsWordByte mark → ⊥

pub word-lacks : (mark : ℕ) (text : List ℕ) → IsApart mark → AllByRecursion IsWordByte text → lacks mark text ≡ true
word-lacks mark [] other h = refl
word-lacks mark (b ∷ bs) other h = and_from (not (b == mark)) (lacks mark bs) (ap not (ne_eqb b mark (λ e. other (subst IsWordByte e h.0))))
    (word-lacks mark bs other h.1)

pub digits-apart : (mark : ℕ) (text : List ℕ) → IsApart mark → AllByRecursion IsDigit text → lacks mark text ≡ true
digits-apart mark [] other h = refl
digits-apart mark (b ∷ bs) other h = and_from (not (b == mark)) (lacks mark bs) (ap not (ne_eqb b mark (λ e. other (subst IsWordByte e (inr (inl h.0))))))
    (digits-apart mark bs other h.1)

apart-from : (mark : ℕ) → (65 ≤ mark → mark ≤ 90 → ⊥) → (97 ≤ mark → mark ≤ 122 → ⊥) → (48 ≤ mark → mark ≤ 57 → ⊥) → mark ≢ 95 → IsApart mark
apart-from mark a b c d (inl (inl h)) = a h.0 h.1
apart-from mark a b c d (inl (inr h)) = b h.0 h.1
apart-from mark a b c d (inr (inl h)) = c h.0 h.1
apart-from mark a b c d (inr (inr h)) = d h

pub feed-apart : IsApart 10
feed-apart = apart-from 10 (λ a b. omega arith) (λ a b. omega arith) (λ a b. omega arith) (λ e. omega arith)

pub space-apart : IsApart 32
space-apart = apart-from 32 (λ a b. omega arith) (λ a b. omega arith) (λ a b. omega arith) (λ e. omega arith)

bracket-apart : IsApart 91
bracket-apart = apart-from 91 (λ a b. omega arith) (λ a b. omega arith) (λ a b. omega arith) (λ e. omega arith)

closing : 48 ≤ 93 → 93 ≤ 57 → ⊥
closing a b = omega arith

-- ---- cells of tables

-- the part after `[` in the name of a table's cell
abbrev pub Index : List ℕ → ℕ → Type 0
Index text k = (k < 1024) × (text ≡ decimal k ++ 93 ∷ [])

some-of : (o : Option ℕ) → is_some o ≡ true → (n : ℕ) × (o ≡ Some n)
some-of None h = absurd (false≢true h)
some-of (Some n) h = (n, refl)

no-length : (l : List ℕ) → (length l == 0) ≡ true → l ≡ []
no-length [] h = refl
no-length (x ∷ xs) h = absurd (omega (arith, eqb-true (length (x ∷ xs)) 0 h))

index-by-yes : (text : List ℕ) (o : Option (List ℕ × List ℕ)) → cut 93 text ≡ o → index_by o ≡ true → (k : ℕ) × Index text k
index-by-yes text None e h = absurd (false≢true h)
index-by-yes text (Some p) e h =
    let k = and_parts (length p.1 == 0) (is_some (number 1024 p.0)) h in
    let n = some-of (number 1024 p.0) k.1 in
    let d = number-sound 1024 n.0 p.0 (omega arith) (omega arith) n.1 in
    (n.0, (d.1, (cut-parts 93 text p e).whole ∙ (λ j. d.0 j ++ 93 ∷ no-length p.1 k.0 j)))

pub index-yes : (text : List ℕ) → is_index text ≡ true → (k : ℕ) × Index text k
index-yes text h = index-by-yes text (cut 93 text) refl h

pub index-is : (k : ℕ) → k < 1024 → is_index (decimal k ++ 93 ∷ []) ≡ true
index-is k small =
    ap index_by (cut-at 93 (decimal k) [] (decimal-lacks 93 k closing (omega arith)))
    ∙ ap is_some (number-complete 1024 k small (omega arith))

-- splitting the name of a table's cell
pub cell-cut : (text name : List ℕ) (k : ℕ) → IsPlainName name → text ≡ name ++ 91 ∷ (decimal k ++ 93 ∷ []) → cut 91 text ≡ Some (name, decimal k ++ 93 ∷ [])
cell-cut text name k h e = ap (cut 91) e ∙ cut-at 91 name (decimal k ++ 93 ∷ []) (word-lacks 91 name bracket-apart h.0.0.0)

-- a cell's name with an index
abbrev pub Tabled : List ℕ → Type 0
Tabled t = (name : List ℕ) × (k : ℕ) × IsPlainName name × (k < 1024) × (t ≡ name ++ 91 ∷ (decimal k ++ 93 ∷ []))

pub cell-yes : (text name index : List ℕ) → cut 91 text ≡ Some (name, index) → IsPlainName name → is_index index ≡ true → IsCellName text
cell-yes text name index e h i =
    let k = index-yes index i in
    inr (name, k.0, h, k.1.0, (cut-parts 91 text (name, index) e).whole ∙ (λ j. name ++ 91 ∷ k.1.1 j))

pub cell-parts : (text name index : List ℕ) → cut 91 text ≡ Some (name, index) → (IsPlainName text → ⊥) → IsCellName text
    → IsPlainName name × (is_index index ≡ true)
cell-parts text name index e other (inl h) = absurd (other h)
cell-parts text name index e other (inr h) =
    let same = some-is _ _ (sym (cell-cut text h.0 h.1 h.2 h.4) ∙ e) in
    (subst IsPlainName (ap (λ p. p.0) same) h.2, ap is_index (sym (ap (λ p. p.1) same)) ∙ index-is h.1 h.3)

pub cell-not : (text : List ℕ) → cut 91 text ≡ None → (IsPlainName text → ⊥) → IsCellName text → ⊥
cell-not text e other (inl h) = other h
cell-not text e other (inr h) = none≢some _ (sym e ∙ cell-cut text h.0 h.1 h.2 h.4)
