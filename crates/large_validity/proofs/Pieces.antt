-- Texts as lists of pieces, each a gap or the spelling of a token, and the tokens of such a text.
use Rattle.std.proofs.Common.{◌≡◌, ◌≢◌, ◌⊎◌, ◌==◌, ℕ, ℤ, ◌<◌, ◌≤◌, Bool, true, false, cond, nat_le, nat_lt, pos, Err, append_assoc, ◌&&◌, ◌||◌, not, List, []}
use Rattle.std.proofs.Common.{◌∷◌, ◌++◌, length, Ok, refl, sym, ap, ◌∙◌, subst, arith, inl, inr}
use Rattle.std.specs.List.{AllByRecursion}
use Rattle.std.specs.Str.{bytes_eq}
use Rattle.std.specs.Char.{is_ascii_digit}
use Rattle.std.proofs.lemmas.Bool.{ltb-true, leb-true, eqb-false, le-leb, lt-ltb}
use Rattle.m_fixed.specs.Text.{text_value, amount_read, millionths_of, only_digits, is_digits}
use Rattle.m_fixed.specs.declared.read.AmountFault.TheVariants.{TooGreat}
use Rattle.m_fixed.proofs.Numbers.{number_value-digits, text_value-number}
use Rattle.m_places.specs.declared.place.Place.{Place}
use Rattle.m_names.proofs.NameLemmas.{both, and-both}
use Rattle.m_text.specs.Bytes.{IsDigit, IsWordByte, quote, point}
use Rattle.m_text.specs.Words.{IsWord, IsWordOrNumber, AreDigits, LongestOf}
use Rattle.m_text.proofs.Fronts.{Stops, all_weaker}
use Rattle.m_text.proofs.Longest.{longest_among}
use Rattle.m_text.proofs.Spelled.{first, first_append, word_first, number_first, longest_word, longest_whole, NoDecimals}
use Rattle.m_lexer.specs.declared.token.Key.{Key}
use Rattle.m_lexer.specs.declared.token.Key.TheVariants as keys
use Rattle.m_lexer.specs.declared.token.Sign.{Sign}
use Rattle.m_lexer.specs.declared.token.Sign.TheVariants as signs
use Rattle.m_lexer.specs.declared.token.Kind.TheVariants as kinds
use Rattle.m_lexer.specs.declared.token.Token.{Token}
use Rattle.m_lexer.specs.Spellings.{IsPiece, word, number, sign_spelling, key_spelling}
use Rattle.m_lexer.specs.Tokens.{Longest, Lexes, behind, gap, token, word as a_word, key as a_key, number as a_number, text as a_text, sign as a_sign}
use Rattle.large_validity.proofs.Numerals.{IsWhole}
use Rattle.m_lexer.proofs.Pieces.{after_word_byte, not_empty, longest_blank, longest_quoted, longest_one, NoTwo}

-- the longest word or number is the longest piece
pub longest_of : (bytes t rest : List ℕ) → LongestOf IsWordOrNumber bytes t rest → Longest bytes t rest
longest_of bytes t rest l = longest_among IsWordOrNumber IsPiece bytes t rest l (piece t l.piece) same
  where
    piece : (t : List ℕ) → IsWordOrNumber t → IsPiece t
    piece t (inl h) = word h
    piece t (inr h) = number h

    begins : (t : List ℕ) → IsWordOrNumber t → IsWordByte (first t)
    begins t (inl h) = word_first t h
    begins t (inr h) = inr (inl (number_first t h))

    some : (u : List ℕ) → IsPiece u → u ≢ []
    some u p e = not_empty (subst IsPiece e p)

    same : (u others : List ℕ) → bytes ≡ u ++ others → IsPiece u → IsWordOrNumber u
    same u others e p =
        let at : first t ≡ first u = sym (first_append t rest (some t (piece t l.piece))) ∙ ap first (sym l.parts ∙ e) ∙ first_append u others (some u p) in
        after_word_byte u p (subst IsWordByte at (begins t l.piece))

-- ---- pieces

pub data Piece : Type 0 where
  space : Piece
  feed : Piece
  plain : List ℕ → Piece
  reserved : Key → Piece
  named : ℕ → List ℕ → Piece
  digits : List ℕ → Piece
  quoted : List ℕ → Piece
  mark : Sign → Piece

-- the bytes of a piece
abbrev pub spelling : Piece → List ℕ
spelling space = 32 ∷ []
spelling feed = 10 ∷ []
spelling (plain t) = t
spelling (reserved k) = key_spelling k
spelling (named c d) = c ∷ d
spelling (digits d) = d
spelling (quoted inside) = quote ∷ (inside ++ quote ∷ [])
spelling (mark s) = sign_spelling s

-- the amount that digits spell
abbrev pub amount : List ℕ → ℤ
amount d = pos (millionths_of d [])

-- a piece before tokens
abbrev pub before_tokens : Place → Piece → List Token → List Token
before_tokens p space ts = ts
before_tokens p feed ts = ts
before_tokens p (plain t) ts = record { kind = kinds.Word t; place = p } ∷ ts
before_tokens p (reserved k) ts = record { kind = kinds.Key k; place = p } ∷ ts
before_tokens p (named c d) ts = record { kind = kinds.Word (c ∷ d); place = p } ∷ ts
before_tokens p (digits d) ts = record { kind = kinds.Number (amount d) d; place = p } ∷ ts
before_tokens p (quoted inside) ts = record { kind = kinds.Text inside; place = p } ∷ ts
before_tokens p (mark s) ts = record { kind = kinds.Sign s; place = p } ∷ ts

-- the bytes of pieces
abbrev pub text_of : List Piece → List ℕ
text_of [] = []
text_of (x ∷ xs) = spelling x ++ text_of xs

-- the place after pieces
abbrev pub after : Place → List Piece → Place
after p [] = p
after p (x ∷ xs) = after (behind (spelling x) p) xs

-- the tokens of pieces, before further ones
abbrev pub tokens_before : Place → List Piece → List Token → List Token
tokens_before p [] ts = ts
tokens_before p (x ∷ xs) ts = before_tokens p x (tokens_before (behind (spelling x) p) xs ts)

-- ---- conditions on pieces

abbrev all_small : List ℕ → Bool
all_small [] = true
all_small (b ∷ t) = (nat_le 97 b && nat_le b 122) && all_small t

abbrev is_small_word : List ℕ → Bool
is_small_word [] = false
is_small_word (b ∷ t) = all_small (b ∷ t)

abbrev no_quote : List ℕ → Bool
no_quote [] = true
no_quote (b ∷ t) = not (b == quote) && no_quote t

abbrev is_one : List ℕ → Bool
is_one [] = false
is_one (a ∷ []) = true
is_one (a ∷ b ∷ t) = false

abbrev all_keys : List Key
all_keys =
    keys.Regle ∷ keys.Verif ∷ keys.Application ∷ keys.Enchaineur ∷ keys.Si ∷ keys.Alors ∷ keys.Sinon ∷ keys.Finsi ∷
    keys.Erreur ∷ keys.Saisie ∷ keys.Calculee ∷ keys.Const ∷ keys.Tableau ∷ keys.Alias ∷ keys.TypeKey ∷ keys.Pour ∷
    keys.Un ∷ keys.Dans ∷ keys.Et ∷ keys.Ou ∷ keys.Non ∷ keys.Somme ∷ keys.Present ∷ keys.Positif ∷ keys.PositifOuNul ∷
    keys.Null ∷ keys.Arr ∷ keys.Inf ∷ keys.Abs ∷ keys.Max ∷ keys.Min ∷ keys.Anomalie ∷ keys.Discordance ∷
    keys.Informative ∷ keys.X ∷ []

abbrev among : List ℕ → List Key → Bool
among t [] = false
among t (k ∷ ks) = bytes_eq t (key_spelling k) || among t ks

-- the conditions on a piece that are computed
abbrev pub is_set : Piece → Bool
is_set space = true
is_set feed = true
is_set (plain t) = is_small_word t && not (among t all_keys)
is_set (reserved k) = is_small_word (key_spelling k)
is_set (named c d) = (nat_le 65 c && nat_le c 90) && not (among (c ∷ d) all_keys)
is_set (digits d) = true
is_set (quoted inside) = no_quote inside
is_set (mark s) = is_one (sign_spelling s)

-- whether this byte may follow a piece
abbrev pub fits : Piece → ℕ → Bool
fits space c = true
fits feed c = true
fits (plain t) c = nat_lt c 46
fits (reserved k) c = nat_lt c 46
fits (named d e) c = nat_lt c 46
fits (digits d) c = nat_lt c 46
fits (quoted inside) c = true
fits (mark s) c = nat_lt c 46 || (c == 48)

abbrev ends : Piece → Bool
ends space = true
ends feed = true
ends (plain t) = false
ends (reserved k) = false
ends (named c d) = false
ends (digits d) = false
ends (quoted inside) = false
ends (mark s) = false

-- each piece satisfies its conditions, the next may follow it, and the last is a gap
abbrev pub are_set : List Piece → Bool
are_set [] = true
are_set (x ∷ []) = ends x
are_set (x ∷ y ∷ xs) = (is_set x && fits x (first (spelling y))) && are_set (y ∷ xs)

-- the conditions on a piece that aren't computed
abbrev pub Holds : Piece → Type 0 → Type 0
Holds space P = P
Holds feed P = P
Holds (plain t) P = P
Holds (reserved k) P = P
Holds (named c d) P = AllByRecursion IsDigit d × P
Holds (digits d) P = IsWhole d × P
Holds (quoted inside) P = P
Holds (mark s) P = P

abbrev pub AllHold : List Piece → Type 0
AllHold [] = Unit {0}
AllHold (x ∷ xs) = Holds x (AllHold xs)

-- ---- the tokens of pieces

less : (a b : ℕ) → nat_lt a b ≡ true → a < b
less a b h = ltb-true a b h

least : (a b : ℕ) → nat_le a b ≡ true → a ≤ b
least a b h = leb-true a b h

small_bytes : (t : List ℕ) → all_small t ≡ true → AllByRecursion IsWordByte t
small_bytes [] h = tt
small_bytes (b ∷ t) h =
    let k = both _ _ h in
    let l = both _ _ k.0 in
    (inl (inr (least 97 b l.0, least b 122 l.1)), small_bytes t k.1)

small_word : (t : List ℕ) → is_small_word t ≡ true → IsWord t
small_word [] h = cc
small_word (b ∷ t) h = (small_bytes (b ∷ t) h, λ d. let l = least 97 b (both _ _ (both _ _ h).0).0 in let m = d.0.1 in omega arith)

word_bytes : (d : List ℕ) → AllByRecursion IsDigit d → AllByRecursion IsWordByte d
word_bytes = all_weaker IsDigit IsWordByte (λ b h. inr (inl h))

capital_word : (c : ℕ) (d : List ℕ) → 65 ≤ c → c ≤ 90 → AllByRecursion IsDigit d → IsWord (c ∷ d)
capital_word c d l m h = ((inl (inl (l, m)), word_bytes d h), λ e. let n = e.0.1 in omega arith)

not_true : (b : Bool) → not b ≡ true → b ≡ false
not_true true h = cc
not_true false h = refl

key_among : (k : Key) → among (key_spelling k) all_keys ≡ true
key_among keys.Regle = refl
key_among keys.Verif = refl
key_among keys.Application = refl
key_among keys.Enchaineur = refl
key_among keys.Si = refl
key_among keys.Alors = refl
key_among keys.Sinon = refl
key_among keys.Finsi = refl
key_among keys.Erreur = refl
key_among keys.Saisie = refl
key_among keys.Calculee = refl
key_among keys.Const = refl
key_among keys.Tableau = refl
key_among keys.Alias = refl
key_among keys.TypeKey = refl
key_among keys.Pour = refl
key_among keys.Un = refl
key_among keys.Dans = refl
key_among keys.Et = refl
key_among keys.Ou = refl
key_among keys.Non = refl
key_among keys.Somme = refl
key_among keys.Present = refl
key_among keys.Positif = refl
key_among keys.PositifOuNul = refl
key_among keys.Null = refl
key_among keys.Arr = refl
key_among keys.Inf = refl
key_among keys.Abs = refl
key_among keys.Max = refl
key_among keys.Min = refl
key_among keys.Anomalie = refl
key_among keys.Discordance = refl
key_among keys.Informative = refl
key_among keys.X = refl

not_reserved : (t : List ℕ) → among t all_keys ≡ false → (k : Key) → t ≢ key_spelling k
not_reserved t h k e = let f : among t all_keys ≡ among (key_spelling k) all_keys = ap (λ x. among x all_keys) e in let g = key_among k in cc

stops : (rest : List ℕ) → nat_lt (first rest) 46 ≡ true → Stops IsWordByte rest
stops [] h = tt
stops (c ∷ rest) h = λ w. let l = less c 46 h in omega arith

no_decimals : (rest : List ℕ) → nat_lt (first rest) 46 ≡ true → NoDecimals rest
no_decimals [] h c more e d = cc
no_decimals (b ∷ rest) h c more e d = let l = less b 46 h in let f : b ≡ point = cc in omega arith

second_byte : (s : Sign) (a c : ℕ) → sign_spelling s ≡ a ∷ c ∷ [] → (c ≡ 61) ⊎ (c ≡ 46)
second_byte signs.Plus a c h = cc
second_byte signs.Minus a c h = cc
second_byte signs.Star a c h = cc
second_byte signs.Slash a c h = cc
second_byte signs.Equal a c h = cc
second_byte signs.NotEqual a c h = inl cc
second_byte signs.Less a c h = cc
second_byte signs.LessEqual a c h = inl cc
second_byte signs.Greater a c h = cc
second_byte signs.GreaterEqual a c h = inl cc
second_byte signs.OpenParen a c h = cc
second_byte signs.CloseParen a c h = cc
second_byte signs.OpenBracket a c h = cc
second_byte signs.CloseBracket a c h = cc
second_byte signs.Comma a c h = cc
second_byte signs.Semicolon a c h = cc
second_byte signs.Colon a c h = cc
second_byte signs.Range a c h = inr cc

one_byte : (t : List ℕ) → is_one t ≡ true → (a : ℕ) × (t ≡ a ∷ [])
one_byte [] h = cc
one_byte (a ∷ []) h = (a, refl)
one_byte (a ∷ b ∷ t) h = cc

unquoted : (t : List ℕ) → no_quote t ≡ true → AllByRecursion (λ b. b ≢ quote) t
unquoted [] h = tt
unquoted (b ∷ t) h = let k = both _ _ h in (eqb-false b quote (not_true _ k.0), unquoted t k.1)

no_two : (a : ℕ) (rest : List ℕ) → (nat_lt (first rest) 46 || (first rest == 48)) ≡ true → NoTwo a rest
no_two a rest h c more e s f = elim (second_byte s a c f) [
  | inl g ↦ let k : first rest ≡ 61 = cc in let l : true ≡ false = sym h ∙ ap (λ x. nat_lt x 46 || (x == 48)) k in cc
  | inr g ↦ let k : first rest ≡ 46 = cc in let l : true ≡ false = sym h ∙ ap (λ x. nat_lt x 46 || (x == 48)) k in cc
]

only_digits_test : (t : List ℕ) → AllByRecursion IsDigit t → only_digits t ≡ true
only_digits_test [] h = refl
only_digits_test (b ∷ t) h = and-both (is_ascii_digit b) (only_digits t) (and-both _ _ (le-leb 48 b h.0.0) (le-leb b 57 h.0.1)) (only_digits_test t h.1)

pub digits_test : (t : List ℕ) → AreDigits t → is_digits t ≡ true
digits_test [] h = absurd (h.0 refl)
digits_test (b ∷ t) h = and-both (only_digits (b ∷ t)) _ (only_digits_test (b ∷ t) h.1) (lt-ltb 0 (length (b ∷ t)) (omega arith))

pub read_amount : (d : List ℕ) → IsWhole d → amount_read (text_value d) ≡ Ok (amount d)
read_amount d h = ap amount_read (text_value-number d (millionths_of d []) (number_value-digits d (digits_test d h.are)))
    ∙ ap (λ b. cond b (Ok (amount d)) (Err TooGreat)) (le-leb _ _ h.most)

-- one piece
pub piece_lexes : (x : Piece) (P : Type 0) → Holds x P → (rest : List ℕ) (p : Place) (ts : List Token) → is_set x ≡ true → fits x (first rest) ≡ true
    → Lexes (behind (spelling x) p) rest ts → Lexes p (spelling x ++ rest) (before_tokens p x ts)
piece_lexes space P h rest p ts s f l = gap (longest_blank (32 ∷ rest) 32 rest refl (inl refl)) (inl (32, inl refl, refl)) l
piece_lexes feed P h rest p ts s f l = gap (longest_blank (10 ∷ rest) 10 rest refl (inr (inr (inr refl)))) (inl (10, inr (inr (inr refl)), refl)) l
piece_lexes (plain t) P h rest p ts s f l =
    let k = both _ _ s in
    let w = small_word t k.0 in
    token (longest_of (t ++ rest) t rest (longest_word (t ++ rest) t rest refl w (stops rest f))) (a_word w (not_reserved t (not_true _ k.1))) l
piece_lexes (reserved k) P h rest p ts s f l =
    let t = key_spelling k in
    let w = small_word t s in
    token (longest_of (t ++ rest) t rest (longest_word (t ++ rest) t rest refl w (stops rest f))) (a_key w refl) l
piece_lexes (named c d) P h rest p ts s f l =
    let k = both _ _ s in
    let m = both _ _ k.0 in
    let t = c ∷ d in
    let w = capital_word c d (least 65 c m.0) (least c 90 m.1) h.0 in
    token (longest_of (t ++ rest) t rest (longest_word (t ++ rest) t rest refl w (stops rest f))) (a_word w (not_reserved t (not_true _ k.1))) l
piece_lexes (digits d) P h rest p ts s f l =
    token (longest_of (d ++ rest) d rest (longest_whole (d ++ rest) d rest refl h.0.are (stops rest f) (no_decimals rest f)))
    (a_number (inl h.0.are) (read_amount d h.0)) l
piece_lexes (quoted inside) P h rest p ts s f l =
    let all = unquoted inside s in
    token (longest_quoted ((quote ∷ (inside ++ quote ∷ [])) ++ rest) inside rest refl all) (a_text (all, refl)) l
piece_lexes (mark g) P h rest p ts s f l =
    let o = one_byte (sign_spelling g) s in
    token (subst (λ t. Longest (sign_spelling g ++ rest) t rest) (sym o.1) (longest_one (sign_spelling g ++ rest) o.0 rest g (ap (λ t. t ++ rest) o.1) o.1
    (no_two o.0 rest f))) (a_sign refl) l

small_some : (t : List ℕ) → is_small_word t ≡ true → t ≢ []
small_some [] h e = cc
small_some (b ∷ t) h e = cc

piece_some : (x : Piece) (P : Type 0) → Holds x P → is_set x ≡ true → spelling x ≢ []
piece_some space P h s e = cc
piece_some feed P h s e = cc
piece_some (plain t) P h s e = small_some t (both _ _ s).0 e
piece_some (reserved k) P h s e = small_some (key_spelling k) s e
piece_some (named c d) P h s e = cc
piece_some (digits d) P h s e = h.0.are.0 e
piece_some (quoted inside) P h s e = cc
piece_some (mark g) P h s e = let o = one_byte (sign_spelling g) s in let f : o.0 ∷ [] ≡ [] = sym o.1 ∙ e in cc

others_hold : (x : Piece) (P : Type 0) → Holds x P → P
others_hold space P h = h
others_hold feed P h = h
others_hold (plain t) P h = h
others_hold (reserved k) P h = h
others_hold (named c d) P h = h.1
others_hold (digits d) P h = h.1
others_hold (quoted inside) P h = h
others_hold (mark s) P h = h

ends_set : (x : Piece) → ends x ≡ true → (c : ℕ) → (is_set x ≡ true) × (fits x c ≡ true)
ends_set space h c = (refl, refl)
ends_set feed h c = (refl, refl)
ends_set (plain t) h c = cc
ends_set (reserved k) h c = cc
ends_set (named d e) h c = cc
ends_set (digits d) h c = cc
ends_set (quoted inside) h c = cc
ends_set (mark s) h c = cc

next_set : (y : Piece) (xs : List Piece) → are_set (y ∷ xs) ≡ true → is_set y ≡ true
next_set y [] h = (ends_set y h 0).0
next_set y (x ∷ xs) h = (both _ _ (both _ _ h).0).0

-- The bytes of pieces before any rest have their tokens before those of the rest.
pub pieces_lex : (xs : List Piece) → AllHold xs → are_set xs ≡ true → (rest : List ℕ) (p : Place) (ts : List Token) → Lexes (after p xs) rest ts
    → Lexes p (text_of xs ++ rest) (tokens_before p xs ts)
pieces_lex [] h s rest p ts l = l
pieces_lex (x ∷ []) h s rest p ts l =
    let k = ends_set x s (first rest) in
    subst (λ t. Lexes p t (before_tokens p x ts)) (sym (append_assoc (spelling x) [] rest)) (piece_lexes x (Unit {0}) h rest p ts k.0 k.1 l)
pieces_lex (x ∷ y ∷ xs) h s rest p ts l =
    let k = both _ _ s in
    let m = both _ _ k.0 in
    let others = text_of (y ∷ xs) ++ rest in
    let hs = others_hold x (AllHold (y ∷ xs)) h in
    let some = piece_some y (AllHold xs) hs (next_set y xs k.1) in
    let at : first others ≡ first (spelling y) = ap first (append_assoc (spelling y) (text_of xs) rest) ∙ first_append (spelling y) (text_of xs ++ rest) some in
    let q = behind (spelling x) p in
    let us = tokens_before q (y ∷ xs) ts in
    subst (λ t. Lexes p t (before_tokens p x us)) (sym (append_assoc (spelling x) (text_of (y ∷ xs)) rest))
    (piece_lexes x (AllHold (y ∷ xs)) h others p us m.0 (ap (fits x) at ∙ m.1) (pieces_lex (y ∷ xs) hs k.1 rest q ts l))
