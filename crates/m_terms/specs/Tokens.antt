-- Single tokens of terms and headers, and lists with separators.
use Rattle.std.specs.Prelude.{◌≡◌, ℕ, Bool, cond, ◌&&◌, ◌||◌, nat_lt, nat_le, List, [], ◌∷◌, length, Option, Some, None}
use Rattle.std.specs.List.{list_all}
use denote.Enum.Bare.{sameb}
use Rattle.m_text.specs.Bytes.{is_digit}
use Rattle.m_places.specs.declared.place.Place.{Place}
use Rattle.m_lexer.specs.Chains.{Chain}
use Rattle.m_lexer.specs.declared.token.Token.{Token}
use Rattle.m_lexer.specs.declared.token.Kind.{Kind}
use Rattle.m_lexer.specs.declared.token.Kind.TheVariants.{Key, Sign}
use Rattle.m_lexer.specs.declared.token.Key.{Key as AKey}
use Rattle.m_lexer.specs.declared.token.Sign.{Sign as ASign}
use Rattle.m_lexer.specs.contracts.token.Key as key_row
use Rattle.m_lexer.specs.contracts.token.Sign as sign_row

-- a token of this kind at this place
abbrev pub at : Kind → Place → Token
at k p = record { kind = k; place = p }

abbrev pub sign : ASign → Place → Token
sign s p = at (Sign s) p

abbrev pub key : AKey → Place → Token
key k p = at (Key k) p

abbrev pub same_sign : ASign → ASign → Bool
same_sign = sameb sign_row.the_type

abbrev pub same_key : AKey → AKey → Bool
same_key = sameb key_row.the_type

abbrev pub kind_is_sign : ASign → Kind → Option (Unit {0})
kind_is_sign s (Sign t) = cond (same_sign t s) (Some tt) None
kind_is_sign s _ = None

abbrev pub kind_is_key : AKey → Kind → Option (Unit {0})
kind_is_key k (Key t) = cond (same_key t k) (Some tt) None
kind_is_key k _ = None

-- this sign
abbrev pub is_sign : ASign → Token → Option (Unit {0})
is_sign s t = kind_is_sign s t.kind

-- this reserved word
abbrev pub is_key : AKey → Token → Option (Unit {0})
is_key k t = kind_is_key k t.kind

-- R { separator R }, where the separator has no meaning
pub data Joined {A : Type 0} (opens : Token → Option (Unit {0})) (R : A → List Token → List Token → Type 0) : List A → List Token → List Token → Type 0 where
  joined : {x : A} {xs : List A} {ts mid rest : List Token}
      → R x ts mid → Chain opens (λ _ x. x) R xs mid rest →
      Joined opens R (x ∷ xs) ts rest

-- Words and numbers.

-- a letter from a to z
abbrev pub is_small : ℕ → Bool
is_small b = nat_le 97 b && nat_le b 122

abbrev pub is_not_small : ℕ → Bool
is_not_small b = nat_lt b 97 || nat_lt 122 b

-- a word without a letter from a to z, such as `REV` and `1AJ`
abbrev pub is_name : List ℕ → Bool
is_name w = list_all is_not_small w

-- the spelling of a number of one to nine digits without a point, such as `010`
abbrev pub is_whole : List ℕ → Bool
is_whole n = nat_lt 0 (length n) && nat_le (length n) 9 && list_all is_digit n

-- the only byte of a word, if it is a letter from a to z
abbrev pub small_letter : List ℕ → Option ℕ
small_letter (b ∷ []) = cond (is_small b) (Some b) None
small_letter _ = None
