-- Words of tokens are free, and a name has no letter from a to z.
use Rattle.std.proofs.Common.{◌≡◌, ◌≤◌, ◌<◌, ℕ, Bool, true, false, cond, nat_lt, nat_le, List, [], ◌∷◌, length, Some, None, refl, inl, inr, subst, arith}
use mathlib.Core.Bool.{◌||◌, ◌&&◌}
use Rattle.std.specs.List.{AllByRecursion, list_all}
use Rattle.std.proofs.lemmas.Bool.{ltb-true, leb-true}
use Rattle.m_text.specs.Bytes.{IsDigit, is_digit}
use Rattle.m_text.specs.Words.{AreDigits}
use Rattle.m_places.specs.declared.place.Place.{Place}
use Rattle.m_names.proofs.NameLemmas.{both}
use Rattle.m_lexer.specs.declared.token.Token.{Token}
use Rattle.m_lexer.specs.declared.token.Kind.{Kind}
use Rattle.m_lexer.specs.declared.token.Kind.TheVariants.{Word, Number, Text, Key, Sign}
use Rattle.m_lexer.specs.Tokens.{Spells, word, key, number, text, sign, Lexes, end, gap, token}
use Rattle.m_lexer.specs.Chains.{First, first}
use Rattle.m_terms.specs.Tokens.{is_name, is_not_small, is_whole}
use Rattle.m_terms.proofs.Passes.{Behind, next, later}
use Rattle.m_items.specs.Tokens.{placed, word_of, name_of, whole_of, word as a_word, name as a_name, whole as a_whole}
use Rattle.code_file.specs.Printable.{IsFreeWord, IsPlainName, IsNoSmallLetter}

-- ---- tokens

-- the properties of a token's spelling
abbrev pub IsSpelled : Kind → Type 0
IsSpelled (Word w) = IsFreeWord w
IsSpelled (Number z n) = Unit {0}
IsSpelled (Text inside) = Unit {0}
IsSpelled (Key k) = Unit {0}
IsSpelled (Sign s) = Unit {0}

-- a property of the kind of each token
abbrev pub EachKind : (Kind → Type 0) → List Token → Type 0
EachKind P tokens = AllByRecursion (λ t. P t.kind) tokens

pub lexed_each : (P : Kind → Type 0) → ((t : List ℕ) (kind : Kind) → Spells t kind → P kind) → {p : Place} {bytes : List ℕ} {tokens : List Token}
    → Lexes p bytes tokens → EachKind P tokens
lexed_each P known end = tt
lexed_each P known (gap l g rest) = lexed_each P known rest
lexed_each P known (token {t = t} {kind = kind} l s rest) = (known t kind s, lexed_each P known rest)

pub behind_each : (P : Kind → Type 0) → {ts rest : List Token} → Behind rest ts → EachKind P ts → EachKind P rest
behind_each P next a = a.1
behind_each P (later b) a = behind_each P b a.1

abbrev pub AreSpelled : List Token → Type 0
AreSpelled = EachKind IsSpelled

spelled : (t : List ℕ) (kind : Kind) → Spells t kind → IsSpelled kind
spelled _ _ (word w f) = (w, f)
spelled _ _ (key w e) = tt
spelled _ _ (number n e) = tt
spelled _ _ (text q) = tt
spelled _ _ (sign e) = tt

pub lexed_spelled : {p : Place} {bytes : List ℕ} {tokens : List Token} → Lexes p bytes tokens → AreSpelled tokens
lexed_spelled l = lexed_each IsSpelled spelled l

pub behind_spelled : {ts rest : List Token} → Behind rest ts → AreSpelled ts → AreSpelled rest
behind_spelled b a = behind_each IsSpelled b a

-- ---- words

word_kind : (k : Kind) (w : List ℕ) → word_of k ≡ Some w → IsSpelled k → IsFreeWord w
word_kind (Word v) w e s = let same : v ≡ w = cc in subst IsFreeWord same s
word_kind (Number z n) w e s = absurd (cc)
word_kind (Text inside) w e s = absurd (cc)
word_kind (Key k) w e s = absurd (cc)
word_kind (Sign k) w e s = absurd (cc)

pub word_free : {w : List ℕ} {ts rest : List Token} → First a_word w ts rest → AreSpelled ts → IsFreeWord w
word_free {w} (first {t = t} e) a = word_kind t.kind w e a.0

-- ---- names

not_small : (b : ℕ) (low high : Bool) → nat_lt b 97 ≡ low → nat_lt 122 b ≡ high → (low || high) ≡ true → IsNoSmallLetter b
not_small b true high e f h = inl (ltb-true b 97 e)
not_small b false true e f h = inr (ltb-true 122 b f)
not_small b false false e f h = absurd (cc)

none_small : (w : List ℕ) → is_name w ≡ true → AllByRecursion IsNoSmallLetter w
none_small [] h = tt
none_small (b ∷ bs) h =
    let p = both (is_not_small b) (is_name bs) h in
    (not_small b (nat_lt b 97) (nat_lt 122 b) refl refl p.0, none_small bs p.1)

name_word : (w : List ℕ) (p : Place) (n : List ℕ × Place) (b : Bool) → is_name w ≡ b → placed (cond b (Some w) None) p ≡ Some n → IsFreeWord w → IsPlainName n.0
name_word w p n true h e s = let same : (w, p) ≡ n = cc in subst (λ (x : List ℕ × Place). IsPlainName x.0) same (s, none_small w h)
name_word w p n false h e s = absurd (cc)

name_kind : (k : Kind) (p : Place) (n : List ℕ × Place) → placed (name_of k) p ≡ Some n → IsSpelled k → IsPlainName n.0
name_kind (Word w) p n e s = name_word w p n (is_name w) refl e s
name_kind (Number z m) p n e s = absurd (cc)
name_kind (Text inside) p n e s = absurd (cc)
name_kind (Key k) p n e s = absurd (cc)
name_kind (Sign k) p n e s = absurd (cc)

pub name_plain : {n : List ℕ × Place} {ts rest : List Token} → First a_name n ts rest → AreSpelled ts → IsPlainName n.0
name_plain {n} (first {t = t} e) a = name_kind t.kind t.place n e a.0

-- ---- numbers

-- one to nine digits
abbrev pub IsWholeNumber : List ℕ → Type 0
IsWholeNumber n = AreDigits n × (length n ≤ 9)

digit : (b : ℕ) → is_digit b ≡ true → IsDigit b
digit b h = let p = both (nat_le 48 b) (nat_le b 57) h in (leb-true 48 b p.0, leb-true b 57 p.1)

digits : (n : List ℕ) → list_all is_digit n ≡ true → AllByRecursion IsDigit n
digits [] h = tt
digits (b ∷ bs) h = let p = both (is_digit b) (list_all is_digit bs) h in (digit b p.0, digits bs p.1)

not_empty : (n : List ℕ) → 0 < length n → n ≡ [] → ⊥
not_empty [] h e = absurd (omega (arith, h))
not_empty (b ∷ bs) h e = absurd (cc)

whole_word : (m n : List ℕ) (b : Bool) → is_whole m ≡ b → cond b (Some m) None ≡ Some n → IsWholeNumber n
whole_word m n true h e =
    let same : m ≡ n = cc in
    let p = both (nat_lt 0 (length m) && nat_le (length m) 9) (list_all is_digit m) h in
    let q = both (nat_lt 0 (length m)) (nat_le (length m) 9) p.0 in
    subst IsWholeNumber same ((not_empty m (ltb-true 0 (length m) q.0), digits m p.1), leb-true (length m) 9 q.1)
whole_word m n false h e = absurd (cc)

whole_kind : (k : Kind) (n : List ℕ) → whole_of k ≡ Some n → IsWholeNumber n
whole_kind (Word w) n e = absurd (cc)
whole_kind (Number z m) n e = whole_word m n (is_whole m) refl e
whole_kind (Text inside) n e = absurd (cc)
whole_kind (Key k) n e = absurd (cc)
whole_kind (Sign k) n e = absurd (cc)

pub whole_number : {n : List ℕ} {ts rest : List Token} → First a_whole n ts rest → IsWholeNumber n
whole_number {n} (first {t = t} e) = whole_kind t.kind n e
