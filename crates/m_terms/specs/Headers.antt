-- The grammar of loop headers: `i = V,C ; j = 08..10`, or `un i dans V,C et un j dans (08..10)`.
use Rattle.std.specs.Prelude.{ℕ, cond, List, [], ◌∷◌, Option, Some, None}
use Rattle.std.specs.Str.{bytes_eq}
use Rattle.m_places.specs.declared.place.Place.{Place}
use Rattle.m_lexer.specs.declared.token.Token.{Token}
use Rattle.m_lexer.specs.declared.token.Kind.{Kind}
use Rattle.m_lexer.specs.declared.token.Kind.TheVariants.{Word, Number, Key}
use Rattle.m_lexer.specs.declared.token.Key.TheVariants as keys
use Rattle.m_lexer.specs.declared.token.Sign.TheVariants as signs
use Rattle.m_ast.specs.declared.header.Header.{Header}
use Rattle.m_ast.specs.declared.header.Index.{Index}
use Rattle.m_ast.specs.declared.header.Span.{Span}
use Rattle.m_lexer.specs.Chains.{First}
use Rattle.m_terms.specs.Tokens.{sign, key, is_sign, is_key, Joined, is_name, is_whole, small_letter}

-- point := NAME | "X" | WHOLE, as its bytes
abbrev pub point_of : Kind → Option (List ℕ)
point_of (Word w) = cond (is_name w) (Some w) None
point_of (Number z n) = cond (is_whole n) (Some n) None
point_of (Key keys.X) = Some (88 ∷ [])
point_of _ = None

abbrev pub point : Token → Option (List ℕ)
point t = point_of t.kind

abbrev pub letter_of : Kind → Option ℕ
letter_of (Word w) = small_letter w
letter_of _ = None

-- a letter and its place
abbrev pub letter_at_place : Option ℕ → Place → Option (ℕ × Place)
letter_at_place (Some b) p = Some (b, p)
letter_at_place None p = None

-- LETTER
abbrev pub letter : Token → Option (ℕ × Place)
letter t = letter_at_place (letter_of t.kind) t.place

-- the values from one to another; if both have the same spelling, one value
abbrev pub span : List ℕ → List ℕ → Span
span a b = record { from = a; to = cond (bytes_eq a b) None (Some b) }

abbrev pub index : ℕ × Place → List Span → Index
index l vs = record { letter = l.0; place = l.1; values = vs }

abbrev pub header : Index → List Index → Header
header i is = record { place = i.place; indexes = i ∷ is }

-- value := point [ ".." point ]
pub data SpellsSpan : Span → List Token → List Token → Type 0 where
  alone : {w : List ℕ} {ts rest : List Token} → First point w ts rest → SpellsSpan (span w w) ts rest
  range : {a b : List ℕ} {p : Place} {ts us rest : List Token}
      → First point a ts (sign signs.Range p ∷ us) → First point b us rest →
      SpellsSpan (span a b) ts rest

-- values := value { "," value }
abbrev pub SpellsValues : List Span → List Token → List Token → Type 0
SpellsValues = Joined (is_sign signs.Comma) SpellsSpan

-- places := values | "(" values ")"
pub data SpellsPlaces : List Span → List Token → List Token → Type 0 where
  bare : {vs : List Span} {ts rest : List Token} → SpellsValues vs ts rest → SpellsPlaces vs ts rest
  bracketed : {vs : List Span} {p q : Place} {ts rest : List Token}
      → SpellsValues vs ts (sign signs.CloseParen q ∷ rest) →
      SpellsPlaces vs (sign signs.OpenParen p ∷ ts) rest

-- LETTER "=" values
pub data SpellsAssigned : Index → List Token → List Token → Type 0 where
  assigned : {l : ℕ × Place} {vs : List Span} {p : Place} {ts us rest : List Token}
      → First letter l ts (sign signs.Equal p ∷ us) → SpellsValues vs us rest →
      SpellsAssigned (index l vs) ts rest

-- "un" LETTER "dans" places
pub data SpellsWalked : Index → List Token → List Token → Type 0 where
  walked : {l : ℕ × Place} {vs : List Span} {p q : Place} {ts us rest : List Token}
      → First letter l ts (key keys.Dans q ∷ us) → SpellsPlaces vs us rest →
      SpellsWalked (index l vs) (key keys.Un p ∷ ts) rest

-- header := LETTER "=" values { ";" LETTER "=" values } | "un" LETTER "dans" places { "et" "un" LETTER "dans" places }
pub data SpellsHeader : Header → List Token → List Token → Type 0 where
  by_signs : {i : Index} {is : List Index} {ts rest : List Token}
      → Joined (is_sign signs.Semicolon) SpellsAssigned (i ∷ is) ts rest → SpellsHeader (header i is) ts rest
  by_words : {i : Index} {is : List Index} {ts rest : List Token}
      → Joined (is_key keys.Et) SpellsWalked (i ∷ is) ts rest → SpellsHeader (header i is) ts rest
