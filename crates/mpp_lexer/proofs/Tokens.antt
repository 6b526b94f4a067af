-- Tokens by their first byte, and longest tokens.
use Rattle.std.proofs.Common.{◌≡◌, ◌⊎◌, ℕ, ◌≤◌, List, [], ◌∷◌, ◌++◌, length, refl, sym, ap, ◌∙◌, subst, arith, lit≤, inl, inr}
use Rattle.m_text.specs.Bytes.{IsWordByte}
use Rattle.m_text.specs.Words.{IsWordOrNumber, LongestOf}
use Rattle.m_text.proofs.Spelled.{first, word_first, number_first}
use Rattle.m_text.proofs.Longest.{longest_from, longest_among}
use Rattle.mpp_lexer.specs.declared.piece.DriverSign.{DriverSign}
use Rattle.mpp_lexer.specs.declared.piece.DriverSign.TheVariants.{OpenParen, CloseParen, OpenBracket, CloseBracket, Comma, Colon, Assign, Equal, NotEqual, Less}
use Rattle.mpp_lexer.specs.declared.piece.DriverSign.TheVariants.{LessEqual, Greater, GreaterEqual, Plus, Minus, Star, Slash, Receive}
use Rattle.mpp_lexer.specs.Tokens.{sign_spelling, IsToken, word, number, sign, NoToken}

-- the bytes that signs begin with
abbrev pub IsMark : ℕ → Type 0
IsMark b = (b ≡ 33) ⊎ (((40 ≤ b) × (b ≤ 47)) ⊎ (((58 ≤ b) × (b ≤ 62)) ⊎ ((b ≡ 91) ⊎ (b ≡ 93))))

pub mark_first : (s : DriverSign) → IsMark (first (sign_spelling s))
mark_first OpenParen = inr (inl (lit≤ tt, lit≤ tt))
mark_first CloseParen = inr (inl (lit≤ tt, lit≤ tt))
mark_first OpenBracket = inr (inr (inr (inl refl)))
mark_first CloseBracket = inr (inr (inr (inr refl)))
mark_first Comma = inr (inl (lit≤ tt, lit≤ tt))
mark_first Colon = inr (inr (inl (lit≤ tt, lit≤ tt)))
mark_first Assign = inr (inr (inl (lit≤ tt, lit≤ tt)))
mark_first Equal = inr (inr (inl (lit≤ tt, lit≤ tt)))
mark_first NotEqual = inl refl
mark_first Less = inr (inr (inl (lit≤ tt, lit≤ tt)))
mark_first LessEqual = inr (inr (inl (lit≤ tt, lit≤ tt)))
mark_first Greater = inr (inr (inl (lit≤ tt, lit≤ tt)))
mark_first GreaterEqual = inr (inr (inl (lit≤ tt, lit≤ tt)))
mark_first Plus = inr (inl (lit≤ tt, lit≤ tt))
mark_first Minus = inr (inl (lit≤ tt, lit≤ tt))
mark_first Star = inr (inl (lit≤ tt, lit≤ tt))
mark_first Slash = inr (inl (lit≤ tt, lit≤ tt))
mark_first Receive = inr (inr (inl (lit≤ tt, lit≤ tt)))

sign_length : (s : DriverSign) → length (sign_spelling s) ≤ 2
sign_length OpenParen = lit≤ tt
sign_length CloseParen = lit≤ tt
sign_length OpenBracket = lit≤ tt
sign_length CloseBracket = lit≤ tt
sign_length Comma = lit≤ tt
sign_length Colon = lit≤ tt
sign_length Assign = lit≤ tt
sign_length Equal = lit≤ tt
sign_length NotEqual = lit≤ tt
sign_length Less = lit≤ tt
sign_length LessEqual = lit≤ tt
sign_length Greater = lit≤ tt
sign_length GreaterEqual = lit≤ tt
sign_length Plus = lit≤ tt
sign_length Minus = lit≤ tt
sign_length Star = lit≤ tt
sign_length Slash = lit≤ tt
sign_length Receive = lit≤ tt

pub sign_first : (t : List ℕ) (s : DriverSign) → t ≡ sign_spelling s → IsMark (first t)
sign_first t s e = subst IsMark (sym (ap first e)) (mark_first s)

-- a token begins with a word byte or a mark
pub token_first : (t : List ℕ) → IsToken t → IsWordByte (first t) ⊎ IsMark (first t)
token_first t (word h) = inl (word_first t h)
token_first t (number h) = inl (inr (inl (number_first t h)))
token_first t (sign s h) = inr (sign_first t s h)

pub not_empty : IsToken [] → ⊥
not_empty p = let k = token_first [] p in omega arith

-- a token that begins with a word byte is a word or a number
word_byte_token : (b : ℕ) (rest u others : List ℕ) → IsWordByte b → b ∷ rest ≡ u ++ others → IsToken u → IsWordOrNumber u
word_byte_token b rest [] others h e p = absurd (not_empty p)
word_byte_token b rest (c ∷ u) others h e (word k) = inl k
word_byte_token b rest (c ∷ u) others h e (number k) = inr k
word_byte_token b rest (c ∷ u) others h e (sign s k) = let same : b ≡ c = cc in let m = sign_first (c ∷ u) s k in absurd (omega arith)

pub token_of_word : (bytes : List ℕ) (b : ℕ) (others t rest : List ℕ) → bytes ≡ b ∷ others → IsWordByte b → LongestOf IsWordOrNumber bytes t rest → IsToken t
    → LongestOf IsToken bytes t rest
token_of_word bytes b others t rest e h l p = longest_among IsWordOrNumber IsToken bytes t rest l p (λ u v f q. word_byte_token b others u v h (sym e ∙ f) q)

-- a token that begins with a mark is a sign
after_mark : (t : List ℕ) → IsToken t → IsMark (first t) → (s : DriverSign) × (t ≡ sign_spelling s)
after_mark t (word h) e = let k = word_first t h in absurd (omega arith)
after_mark t (number h) e = let k = number_first t h in absurd (omega arith)
after_mark t (sign s h) e = (s, h)

pub longest_two : (bytes : List ℕ) (a b : ℕ) (rest : List ℕ) (s : DriverSign) → bytes ≡ a ∷ b ∷ rest → sign_spelling s ≡ a ∷ b ∷ []
    → LongestOf IsToken bytes (a ∷ b ∷ []) rest
longest_two bytes a b rest s e h = longest_from IsToken bytes (a ∷ b ∷ []) rest e (sign s (sym h)) none
  where
    none : (c : ℕ) (more v : List ℕ) → rest ≡ c ∷ (more ++ v) → IsToken (a ∷ b ∷ c ∷ more) → ⊥
    none c more v f p =
        let w = after_mark (a ∷ b ∷ c ∷ more) p (subst IsMark (ap first h) (mark_first s)) in
        let l : length (a ∷ b ∷ c ∷ more) ≡ length (sign_spelling w.0) = ap length w.1 in
        let k = sign_length w.0 in
        omega arith

-- no sign is spelled by a byte and the byte after it
abbrev pub NoTwo : ℕ → List ℕ → Type 0
NoTwo a rest = (c : ℕ) (more : List ℕ) → rest ≡ c ∷ more → (s : DriverSign) → sign_spelling s ≡ a ∷ c ∷ [] → ⊥

pub longest_one : (bytes : List ℕ) (a : ℕ) (rest : List ℕ) (s : DriverSign) → bytes ≡ a ∷ rest → sign_spelling s ≡ a ∷ [] → NoTwo a rest
    → LongestOf IsToken bytes (a ∷ []) rest
longest_one bytes a rest s e h short = longest_from IsToken bytes (a ∷ []) rest e (sign s (sym h)) none
  where
    two : (c : ℕ) (more v : List ℕ) → rest ≡ c ∷ (more ++ v) → (w : DriverSign) → a ∷ c ∷ more ≡ sign_spelling w → ⊥
    two c [] v f w g = short c v f w (sym g)
    two c (d ∷ more) v f w g =
        let l : length (a ∷ c ∷ d ∷ more) ≡ length (sign_spelling w) = ap length g in
        let k = sign_length w in
        omega arith

    none : (c : ℕ) (more v : List ℕ) → rest ≡ c ∷ (more ++ v) → IsToken (a ∷ c ∷ more) → ⊥
    none c more v f p =
        let w = after_mark (a ∷ c ∷ more) p (subst IsMark (ap first h) (mark_first s)) in
        two c more v f w.0 w.1

-- no token begins with any other byte
pub no_token_at : (a : ℕ) (rest : List ℕ) → (IsWordByte a → ⊥) → ((s : DriverSign) → sign_spelling s ≡ a ∷ [] → ⊥) → NoTwo a rest → NoToken (a ∷ rest)
no_token_at a rest nw one two [] others e p = not_empty p
no_token_at a rest nw one two (x ∷ t) others e p = kinds p
  where
    same : a ≡ x
    same = cc

    signed : (u : List ℕ) (s : DriverSign) → rest ≡ u ++ others → x ∷ u ≡ sign_spelling s → ⊥
    signed [] s f g = one s (sym g ∙ ap (λ y. y ∷ []) (sym same))
    signed (c ∷ []) s f g = two c others f s (sym g ∙ ap (λ y. y ∷ c ∷ []) (sym same))
    signed (c ∷ d ∷ u) s f g =
        let l : length (x ∷ c ∷ d ∷ u) ≡ length (sign_spelling s) = ap length g in
        let k = sign_length s in
        omega arith

    kinds : IsToken (x ∷ t) → ⊥
    kinds (word h) = nw (subst IsWordByte (sym same) (word_first (x ∷ t) h))
    kinds (number h) = nw (subst IsWordByte (sym same) (inr (inl (number_first (x ∷ t) h))))
    kinds (sign s h) = signed t s (cc) h
