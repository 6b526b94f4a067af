-- The meaning of a single token in the grammar of items: each table is a partial function from
-- tokens.
use Rattle.std.specs.Prelude.{ℕ, ℤ, cond, List, Option, Some, None}
use Rattle.m_places.specs.declared.place.Place.{Place}
use Rattle.m_places.specs.declared.verification.ErrorKind.{ErrorKind}
use Rattle.m_places.specs.declared.verification.ErrorKind.TheVariants as kinds
use Rattle.m_lexer.specs.declared.token.Token.{Token}
use Rattle.m_lexer.specs.declared.token.Kind.{Kind}
use Rattle.m_lexer.specs.declared.token.Kind.TheVariants.{Word, Number, Text, Key}
use Rattle.m_lexer.specs.declared.token.Key.{Key as AKey}
use Rattle.m_lexer.specs.declared.token.Key.TheVariants as keys
use Rattle.m_lexer.specs.declared.token.Sign.{Sign as ASign}
use Rattle.m_lexer.specs.Chains.{First}
use Rattle.m_terms.specs.Tokens.{is_sign, is_key, is_name, is_whole}

-- the meaning of a token, with its place
abbrev pub placed : {A : Type 0} → Option A → Place → Option (A × Place)
placed (Some x) p = Some (x, p)
placed None p = None

-- the place of a token that has a meaning
abbrev pub place_where : {A : Type 0} → Option A → Place → Option Place
place_where (Some x) p = Some p
place_where None p = None

-- WORD, such as `restituee`
abbrev pub word_of : Kind → Option (List ℕ)
word_of (Word w) = Some w
word_of _ = None

-- NAME, a word without a letter from a to z, such as `REV` and `1AJ`
abbrev pub name_of : Kind → Option (List ℕ)
name_of (Word w) = cond (is_name w) (Some w) None
name_of _ = None

-- WHOLE, one to nine digits without a point, as spelled: `010`
abbrev pub whole_of : Kind → Option (List ℕ)
whole_of (Number z n) = cond (is_whole n) (Some n) None
whole_of _ = None

-- NUMBER, its amount
abbrev pub amount_of : Kind → Option ℤ
amount_of (Number z n) = Some z
amount_of _ = None

-- TEXT, the bytes between the quotes
abbrev pub text_of : Kind → Option (List ℕ)
text_of (Text w) = Some w
text_of _ = None

-- "anomalie" | "discordance" | "informative"
abbrev pub error_kind_of : Kind → Option ErrorKind
error_kind_of (Key keys.Anomalie) = Some kinds.Anomalie
error_kind_of (Key keys.Discordance) = Some kinds.Discordance
error_kind_of (Key keys.Informative) = Some kinds.Informative
error_kind_of _ = None

abbrev pub word : Token → Option (List ℕ)
word t = word_of t.kind

abbrev pub placed_word : Token → Option (List ℕ × Place)
placed_word t = placed (word_of t.kind) t.place

abbrev pub name : Token → Option (List ℕ × Place)
name t = placed (name_of t.kind) t.place

abbrev pub whole : Token → Option (List ℕ)
whole t = whole_of t.kind

abbrev pub amount : Token → Option ℤ
amount t = amount_of t.kind

abbrev pub text : Token → Option (List ℕ)
text t = text_of t.kind

abbrev pub error_kind : Token → Option ErrorKind
error_kind t = error_kind_of t.kind

-- a reserved word, as its place
abbrev pub key_place : AKey → Token → Option Place
key_place k t = place_where (is_key k t) t.place

-- the first token is this sign
abbrev pub SpellsSign : ASign → List Token → List Token → Type 0
SpellsSign s = First (is_sign s) tt

-- the first token is this reserved word
abbrev pub SpellsKey : AKey → List Token → List Token → Type 0
SpellsKey k = First (is_key k) tt

-- the first token is this reserved word, at this place
abbrev pub SpellsKeyAt : AKey → Place → List Token → List Token → Type 0
SpellsKeyAt k = First (key_place k)
