-- The kind of the first token, if one table is defined at it, and which other tables then aren't.
use Rattle.std.proofs.Common.{◌≡◌, ℕ, ℤ, Bool, true, false, cond, List, ◌∷◌, Option, Some, None, refl, ap}
use denote.Enum.Bare.{same_true}
use Rattle.m_places.specs.declared.place.Place.{Place}
use Rattle.m_places.specs.declared.verification.ErrorKind.{ErrorKind}
use Rattle.m_places.specs.declared.verification.ErrorKind.TheVariants as kinds
use Rattle.m_lexer.specs.contracts.token.Sign as sign_row
use Rattle.m_lexer.specs.contracts.token.Key as key_row
use Rattle.m_lexer.specs.declared.token.Token.{Token}
use Rattle.m_lexer.specs.declared.token.Kind.{Kind}
use Rattle.m_lexer.specs.declared.token.Kind.TheVariants.{Word, Number, Text, Key, Sign}
use Rattle.m_lexer.specs.declared.token.Key.{Key as AKey}
use Rattle.m_lexer.specs.declared.token.Key.TheVariants as keys
use Rattle.m_lexer.specs.declared.token.Sign.{Sign as ASign}
use Rattle.m_lexer.specs.Chains.{First, first}
use Rattle.m_terms.specs.Tokens.{same_sign, same_key, kind_is_sign, kind_is_key}
use Rattle.m_lexer.specs.inner.Chains.{open_at}
use Rattle.m_items.specs.Tokens.{placed, place_where, word_of, name_of, amount_of, error_kind_of, word, name, amount, error_kind, key_place, SpellsSign}
use Rattle.m_items.specs.Tokens.{SpellsKey, SpellsKeyAt}

-- the first token is of this kind
pub data BeginsWith (k : Kind) : List Token → Type 0 where
  begins_with : {t : Token} {ts : List Token} → t.kind ≡ k → BeginsWith k (t ∷ ts)

-- so a table that isn't defined at this kind reads nothing
pub nothing_opened : {B : Type 0} (table : Kind → Option B) {k : Kind} {ts : List Token} → BeginsWith k ts → table k ≡ None
    → open_at (λ (t : Token). table t.kind) ts ≡ None
nothing_opened table (begins_with e) h = rw (e, h) refl

pub no_place_opened : (key : AKey) {k : Kind} {ts : List Token} → BeginsWith k ts → kind_is_key key k ≡ None → open_at (key_place key) ts ≡ None
no_place_opened key (begins_with e) h = rw (e, h) refl

same : {A : Type 0} {x y : A} → Some x ≡ Some y → x ≡ y
same e = cc

sign_of : (s : ASign) (k : Kind) (b : Unit {0}) → kind_is_sign s k ≡ Some b → k ≡ Sign s
sign_of s (Sign t) b e = go (same_sign t s) refl e
  where
    go : (o : Bool) → same_sign t s ≡ o → cond o (Some tt) None ≡ Some b → Sign t ≡ Sign s
    go true h e = ap Sign (same_true sign_row.the_type tt t s h)
    go false h e = absurd (cc)
sign_of s (Word w) b e = absurd (cc)
sign_of s (Number z n) b e = absurd (cc)
sign_of s (Text w) b e = absurd (cc)
sign_of s (Key k) b e = absurd (cc)

key_of : (j : AKey) (k : Kind) (b : Unit {0}) → kind_is_key j k ≡ Some b → k ≡ Key j
key_of j (Key i) b e = go (same_key i j) refl e
  where
    go : (o : Bool) → same_key i j ≡ o → cond o (Some tt) None ≡ Some b → Key i ≡ Key j
    go true h e = ap Key (same_true key_row.the_type tt i j h)
    go false h e = absurd (cc)
key_of j (Word w) b e = absurd (cc)
key_of j (Number z n) b e = absurd (cc)
key_of j (Text w) b e = absurd (cc)
key_of j (Sign s) b e = absurd (cc)

pub sign_first : (s : ASign) {ts rest : List Token} → SpellsSign s ts rest → BeginsWith (Sign s) ts
sign_first s (first {t = t} e) = begins_with (sign_of s t.kind tt e)

pub key_first : (k : AKey) {ts rest : List Token} → SpellsKey k ts rest → BeginsWith (Key k) ts
key_first k (first {t = t} e) = begins_with (key_of k t.kind tt e)

place_key : (j : AKey) (k : Kind) (p q : Place) → place_where (kind_is_key j k) p ≡ Some q → k ≡ Key j
place_key j k p q e = go (kind_is_key j k) refl e
  where
    go : (o : Option (Unit {0})) → kind_is_key j k ≡ o → place_where o p ≡ Some q → k ≡ Key j
    go None h e = absurd (cc)
    go (Some b) h e = key_of j k b h

pub key_place_first : (k : AKey) {p : Place} {ts rest : List Token} → SpellsKeyAt k p ts rest → BeginsWith (Key k) ts
key_place_first k {p} (first {t = t} e) = begins_with (place_key k t.kind t.place p e)

-- a word, or a number, whatever its bytes
pub data BeginsWithWord (ts : List Token) : Type 0 where
  a_word : {w : List ℕ} → BeginsWith (Word w) ts → BeginsWithWord ts

pub data BeginsWithNumber (ts : List Token) : Type 0 where
  a_number : {z : ℤ} {n : List ℕ} → BeginsWith (Number z n) ts → BeginsWithNumber ts

word_is : (k : Kind) (x : List ℕ) → word_of k ≡ Some x → k ≡ Word x
word_is (Word w) x e = ap Word (same e)
word_is (Number z n) x e = absurd (cc)
word_is (Text w) x e = absurd (cc)
word_is (Key k) x e = absurd (cc)
word_is (Sign s) x e = absurd (cc)

pub word_first : {w : List ℕ} {ts rest : List Token} → First word w ts rest → BeginsWithWord ts
word_first (first {t = t} e) = a_word (begins_with (word_is t.kind _ e))

name_word : (k : Kind) (p : Place) (x : List ℕ × Place) → placed (name_of k) p ≡ Some x → (w : List ℕ) × (k ≡ Word w)
name_word (Word w) p x e = (w, refl)
name_word (Number z n) p x e = absurd (cc)
name_word (Text w) p x e = absurd (cc)
name_word (Key k) p x e = absurd (cc)
name_word (Sign s) p x e = absurd (cc)

pub name_first : {n : List ℕ × Place} {ts rest : List Token} → First name n ts rest → BeginsWithWord ts
name_first (first {t = t} e) = let w = name_word t.kind t.place _ e in a_word (begins_with w.1)

amount_number : (k : Kind) (x : ℤ) → amount_of k ≡ Some x → (z : ℤ) × (n : List ℕ) × (k ≡ Number z n)
amount_number (Number z n) x e = (z, n, refl)
amount_number (Word w) x e = absurd (cc)
amount_number (Text w) x e = absurd (cc)
amount_number (Key k) x e = absurd (cc)
amount_number (Sign s) x e = absurd (cc)

pub amount_first : {z : ℤ} {ts rest : List Token} → First amount z ts rest → BeginsWithNumber ts
amount_first (first {t = t} e) = let k = amount_number t.kind _ e in a_number (begins_with k.2)

-- the reserved word of each kind of error
abbrev pub kind_key : ErrorKind → AKey
kind_key kinds.Anomalie = keys.Anomalie
kind_key kinds.Discordance = keys.Discordance
kind_key kinds.Informative = keys.Informative

error_key : (k : Kind) (x : ErrorKind) → error_kind_of k ≡ Some x → k ≡ Key (kind_key x)
error_key (Key keys.Anomalie) x e = ap (λ y. Key (kind_key y)) (same e)
error_key (Key keys.Discordance) x e = ap (λ y. Key (kind_key y)) (same e)
error_key (Key keys.Informative) x e = ap (λ y. Key (kind_key y)) (same e)
error_key _ x e = absurd (cc)

pub error_kind_first : {x : ErrorKind} {ts rest : List Token} → First error_kind x ts rest → BeginsWith (Key (kind_key x)) ts
error_kind_first (first {t = t} e) = begins_with (error_key t.kind _ e)

place_meaning : (o : Option (Unit {0})) (p q : Place) → place_where o p ≡ Some q → o ≡ Some tt
place_meaning None p q e = absurd (cc)
place_meaning (Some b) p q e = refl

-- a reserved word with its place, as one without
pub key_begins : (k : AKey) {p : Place} {ts rest : List Token} → SpellsKeyAt k p ts rest → SpellsKey k ts rest
key_begins k {p} (first {t = t} e) = first (place_meaning (kind_is_key k t.kind) t.place p e)
