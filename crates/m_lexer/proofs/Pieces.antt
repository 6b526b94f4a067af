-- The kind of a piece by its first byte, and the longest pieces.
use Rattle.std.proofs.Common.{◌≡◌, ◌≢◌, ◌⊎◌, ℕ, ◌≤◌, List, [], ◌∷◌, ◌++◌, length, drop, refl, sym, ap, ◌∙◌, subst, arith, lit≤, inl, inr}
use Rattle.std.specs.List.{AllByRecursion}
use Rattle.m_lexer.specs.declared.token.Sign.{Sign}
use Rattle.m_lexer.specs.declared.token.Sign.TheVariants.{Plus, Minus, Star, Slash, Equal, NotEqual, Less, LessEqual, Greater, GreaterEqual, OpenParen}
use Rattle.m_lexer.specs.declared.token.Sign.TheVariants.{CloseParen, OpenBracket, CloseBracket, Comma, Semicolon, Colon, Range}
use Rattle.m_text.specs.Bytes.{IsWordByte, IsBlankByte, quote, hash, line_feed}
use Rattle.m_text.specs.Words.{IsComment, IsWordOrNumber, IsQuoted, LongestBetween}
use Rattle.m_lexer.specs.Spellings.{IsBlank, sign_spelling, IsPiece, blank, comment, word, number, text, sign}
use Rattle.m_lexer.specs.Tokens.{Longest, NoPiece}
use Rattle.std.proofs.lemmas.List.{append_assoc}
use Rattle.m_text.proofs.Fronts.{Stops, one_front, not_next, part, all_right}
use Rattle.m_text.proofs.Longest.{longest_from, longest_among}
use Rattle.m_text.proofs.Spelled.{first, first_append, word_first, number_first}

-- the first bytes of signs
abbrev pub IsMark : ℕ → Type 0
IsMark b = (b ≡ 33) ⊎ (((40 ≤ b) × (b ≤ 47)) ⊎ (((58 ≤ b) × (b ≤ 62)) ⊎ ((b ≡ 91) ⊎ (b ≡ 93))))

pub blank_first : (t : List ℕ) → IsBlank t → IsBlankByte (first t) × (length t ≡ 1)
blank_first t h = subst (λ t. IsBlankByte (first t) × (length t ≡ 1)) (sym h.2) (h.1, refl)

pub comment_first : (t : List ℕ) → IsComment t → first t ≡ hash
comment_first t h = ap first h.2

pub quoted_first : (t inside : List ℕ) → IsQuoted t inside → first t ≡ quote
quoted_first t inside h = ap first h.1

pub mark_first : (s : Sign) → IsMark (first (sign_spelling s))
mark_first Plus = inr (inl (lit≤ tt, lit≤ tt))
mark_first Minus = inr (inl (lit≤ tt, lit≤ tt))
mark_first Star = inr (inl (lit≤ tt, lit≤ tt))
mark_first Slash = inr (inl (lit≤ tt, lit≤ tt))
mark_first Equal = inr (inr (inl (lit≤ tt, lit≤ tt)))
mark_first NotEqual = inl refl
mark_first Less = inr (inr (inl (lit≤ tt, lit≤ tt)))
mark_first LessEqual = inr (inr (inl (lit≤ tt, lit≤ tt)))
mark_first Greater = inr (inr (inl (lit≤ tt, lit≤ tt)))
mark_first GreaterEqual = inr (inr (inl (lit≤ tt, lit≤ tt)))
mark_first OpenParen = inr (inl (lit≤ tt, lit≤ tt))
mark_first CloseParen = inr (inl (lit≤ tt, lit≤ tt))
mark_first OpenBracket = inr (inr (inr (inl refl)))
mark_first CloseBracket = inr (inr (inr (inr refl)))
mark_first Comma = inr (inl (lit≤ tt, lit≤ tt))
mark_first Semicolon = inr (inr (inl (lit≤ tt, lit≤ tt)))
mark_first Colon = inr (inr (inl (lit≤ tt, lit≤ tt)))
mark_first Range = inr (inl (lit≤ tt, lit≤ tt))

pub sign_length : (s : Sign) → length (sign_spelling s) ≤ 2
sign_length Plus = lit≤ tt
sign_length Minus = lit≤ tt
sign_length Star = lit≤ tt
sign_length Slash = lit≤ tt
sign_length Equal = lit≤ tt
sign_length NotEqual = lit≤ tt
sign_length Less = lit≤ tt
sign_length LessEqual = lit≤ tt
sign_length Greater = lit≤ tt
sign_length GreaterEqual = lit≤ tt
sign_length OpenParen = lit≤ tt
sign_length CloseParen = lit≤ tt
sign_length OpenBracket = lit≤ tt
sign_length CloseBracket = lit≤ tt
sign_length Comma = lit≤ tt
sign_length Semicolon = lit≤ tt
sign_length Colon = lit≤ tt
sign_length Range = lit≤ tt

pub sign_first : (t : List ℕ) (s : Sign) → t ≡ sign_spelling s → IsMark (first t)
sign_first t s e = subst IsMark (sym (ap first e)) (mark_first s)

-- a piece that begins with a quote is a text
pub after_quote : (t : List ℕ) → IsPiece t → first t ≡ quote → (inside : List ℕ) × IsQuoted t inside
after_quote t (blank h) e = let k = (blank_first t h).0 in absurd (omega arith)
after_quote t (comment h) e = let k = comment_first t h in absurd (omega arith)
after_quote t (word h) e = let k = word_first t h in absurd (omega arith)
after_quote t (number h) e = let k = number_first t h in absurd (omega arith)
after_quote t (text inside h) e = (inside, h)
after_quote t (sign s h) e = let k = sign_first t s h in absurd (omega arith)

-- a piece that begins with `#` is a comment
pub after_hash : (t : List ℕ) → IsPiece t → first t ≡ hash → IsComment t
after_hash t (blank h) e = let k = (blank_first t h).0 in absurd (omega arith)
after_hash t (comment h) e = h
after_hash t (word h) e = let k = word_first t h in absurd (omega arith)
after_hash t (number h) e = let k = number_first t h in absurd (omega arith)
after_hash t (text inside h) e = let k = quoted_first t inside h in absurd (omega arith)
after_hash t (sign s h) e = let k = sign_first t s h in absurd (omega arith)

-- a piece that begins with a blank byte is that byte
pub after_blank : (t : List ℕ) → IsPiece t → IsBlankByte (first t) → IsBlank t
after_blank t (blank h) e = h
after_blank t (comment h) e = let k = comment_first t h in absurd (omega arith)
after_blank t (word h) e = let k = word_first t h in absurd (omega arith)
after_blank t (number h) e = let k = number_first t h in absurd (omega arith)
after_blank t (text inside h) e = let k = quoted_first t inside h in absurd (omega arith)
after_blank t (sign s h) e = let k = sign_first t s h in absurd (omega arith)

-- a piece that begins with a mark is a sign
pub after_mark : (t : List ℕ) → IsPiece t → IsMark (first t) → (s : Sign) × (t ≡ sign_spelling s)
after_mark t (blank h) e = let k = (blank_first t h).0 in absurd (omega arith)
after_mark t (comment h) e = let k = comment_first t h in absurd (omega arith)
after_mark t (word h) e = let k = word_first t h in absurd (omega arith)
after_mark t (number h) e = let k = number_first t h in absurd (omega arith)
after_mark t (text inside h) e = let k = quoted_first t inside h in absurd (omega arith)
after_mark t (sign s h) e = (s, h)

-- a piece that begins with a letter, a digit or `_` is a word or a number
pub after_word_byte : (t : List ℕ) → IsPiece t → IsWordByte (first t) → IsWordOrNumber t
after_word_byte t (blank h) e = let k = (blank_first t h).0 in absurd (omega arith)
after_word_byte t (comment h) e = let k = comment_first t h in absurd (omega arith)
after_word_byte t (word h) e = inl h
after_word_byte t (number h) e = inr h
after_word_byte t (text inside h) e = let k = quoted_first t inside h in absurd (omega arith)
after_word_byte t (sign s h) e = let k = sign_first t s h in absurd (omega arith)

-- a piece isn't empty
pub not_empty : IsPiece [] → ⊥
not_empty (blank h) = let k = (blank_first [] h).0 in omega arith
not_empty (comment h) = let k = comment_first [] h in omega arith
not_empty (word h) = let k = word_first [] h in omega arith
not_empty (number h) = let k = number_first [] h in omega arith
not_empty (text inside h) = let k = quoted_first [] inside h in omega arith
not_empty (sign s h) = let k = sign_first [] s h in omega arith

pub longest_blank : (bytes : List ℕ) (b : ℕ) (rest : List ℕ) → bytes ≡ b ∷ rest → IsBlankByte b → Longest bytes (b ∷ []) rest
longest_blank bytes b rest e h = longest_from IsPiece bytes (b ∷ []) rest e (blank (b, h, refl)) none
  where
    none : (c : ℕ) (more v : List ℕ) → rest ≡ c ∷ (more ++ v) → IsPiece (b ∷ c ∷ more) → ⊥
    none c more v f p = let k = (blank_first (b ∷ c ∷ more) (after_blank (b ∷ c ∷ more) p h)).1 in omega arith

pub longest_comment : (bytes inside rest : List ℕ) → bytes ≡ hash ∷ (inside ++ rest) → AllByRecursion (λ b. b ≢ line_feed) inside
    → Stops (λ b. b ≢ line_feed) rest → Longest bytes (hash ∷ inside) rest
longest_comment bytes inside rest e h stops = longest_from IsPiece bytes (hash ∷ inside) rest e (comment (inside, h, refl)) none
  where
    none : (c : ℕ) (more v : List ℕ) → rest ≡ c ∷ (more ++ v) → IsPiece (hash ∷ (inside ++ c ∷ more)) → ⊥
    none c more v f p =
        let w = after_hash (hash ∷ (inside ++ c ∷ more)) p refl in
        let g : w.0 ≡ inside ++ c ∷ more = cc in
        let all = subst (AllByRecursion (λ b. b ≢ line_feed)) g w.1 in
        not_next (λ b. b ≢ line_feed) rest c (more ++ v) f stops (all_right (λ b. b ≢ line_feed) inside (c ∷ more) all).0

pub longest_quoted : (bytes inside rest : List ℕ) → bytes ≡ (quote ∷ (inside ++ quote ∷ [])) ++ rest → AllByRecursion (λ b. b ≢ quote) inside
    → Longest bytes (quote ∷ (inside ++ quote ∷ [])) rest
longest_quoted bytes inside rest e h = longest_from IsPiece bytes (quote ∷ (inside ++ quote ∷ [])) rest e (text inside (h, refl)) none
  where
    none : (c : ℕ) (more v : List ℕ) → rest ≡ c ∷ (more ++ v) → IsPiece (quote ∷ ((inside ++ quote ∷ []) ++ c ∷ more)) → ⊥
    none c more v f p =
        let w = after_quote (quote ∷ ((inside ++ quote ∷ []) ++ c ∷ more)) p refl in
        let g : inside ++ (quote ∷ c ∷ more) ≡ w.0 ++ quote ∷ [] = sym (append_assoc inside (quote ∷ []) (c ∷ more)) ∙ cc in
        let q = one_front (λ b. b ≢ quote) inside w.0 (quote ∷ c ∷ more) (quote ∷ []) h w.1.0 (λ n. n refl) (λ n. n refl) g in
        let x = q.1 in
        cc

-- the longest word or number is the longest piece, because every piece with its first byte is a
-- word or a number
pub longest_word_or_number : (bytes : List ℕ) (from end : ℕ) → LongestBetween bytes from end → Longest (drop from bytes) (part bytes from end) (drop end bytes)
longest_word_or_number bytes from end l = longest_among IsWordOrNumber IsPiece (drop from bytes) t (drop end bytes) l.longest (piece t l.longest.piece) same
  where
    t : List ℕ
    t = part bytes from end

    piece : (t : List ℕ) → IsWordOrNumber t → IsPiece t
    piece t (inl h) = word h
    piece t (inr h) = number h

    begins : (t : List ℕ) → IsWordOrNumber t → IsWordByte (first t)
    begins t (inl h) = word_first t h
    begins t (inr h) = inr (inl (number_first t h))

    some : (u : List ℕ) → IsPiece u → u ≢ []
    some u p e = not_empty (subst IsPiece e p)

    same : (u others : List ℕ) → drop from bytes ≡ u ++ others → IsPiece u → IsWordOrNumber u
    same u others e p =
        let at : first t ≡ first u = sym (first_append t (drop end bytes) (some t (piece t l.longest.piece))) ∙ ap first (sym l.longest.parts ∙ e)
        ∙ first_append u others (some u p) in
        after_word_byte u p (subst IsWordByte at (begins t l.longest.piece))

pub longest_two : (bytes : List ℕ) (a b : ℕ) (rest : List ℕ) (s : Sign) → bytes ≡ a ∷ b ∷ rest → sign_spelling s ≡ a ∷ b ∷ [] → Longest bytes (a ∷ b ∷ []) rest
longest_two bytes a b rest s e h = longest_from IsPiece bytes (a ∷ b ∷ []) rest e (sign s (sym h)) none
  where
    none : (c : ℕ) (more v : List ℕ) → rest ≡ c ∷ (more ++ v) → IsPiece (a ∷ b ∷ c ∷ more) → ⊥
    none c more v f p =
        let w = after_mark (a ∷ b ∷ c ∷ more) p (subst IsMark (ap first h) (mark_first s)) in
        let l : length (a ∷ b ∷ c ∷ more) ≡ length (sign_spelling w.0) = ap length w.1 in
        let k = sign_length w.0 in
        omega arith

-- no sign consists of this byte and the one after it
abbrev pub NoTwo : ℕ → List ℕ → Type 0
NoTwo a rest = (c : ℕ) (more : List ℕ) → rest ≡ c ∷ more → (s : Sign) → sign_spelling s ≡ a ∷ c ∷ [] → ⊥

pub longest_one : (bytes : List ℕ) (a : ℕ) (rest : List ℕ) (s : Sign) → bytes ≡ a ∷ rest → sign_spelling s ≡ a ∷ [] → NoTwo a rest → Longest bytes (a ∷ []) rest
longest_one bytes a rest s e h short = longest_from IsPiece bytes (a ∷ []) rest e (sign s (sym h)) none
  where
    two : (c : ℕ) (more v : List ℕ) → rest ≡ c ∷ (more ++ v) → (w : Sign) → a ∷ c ∷ more ≡ sign_spelling w → ⊥
    two c [] v f w g = short c v f w (sym g)
    two c (d ∷ more) v f w g =
        let l : length (a ∷ c ∷ d ∷ more) ≡ length (sign_spelling w) = ap length g in
        let k = sign_length w in
        omega arith

    none : (c : ℕ) (more v : List ℕ) → rest ≡ c ∷ (more ++ v) → IsPiece (a ∷ c ∷ more) → ⊥
    none c more v f p =
        let w = after_mark (a ∷ c ∷ more) p (subst IsMark (ap first h) (mark_first s)) in
        two c more v f w.0 w.1

-- no piece begins with a byte of none of the kinds
pub no_piece : (a : ℕ) (rest : List ℕ) → (IsBlankByte a → ⊥) → a ≢ hash → a ≢ quote → (IsWordByte a → ⊥) → ((s : Sign) → sign_spelling s ≡ a ∷ [] → ⊥)
    → NoTwo a rest → NoPiece (a ∷ rest)
no_piece a rest nb nh nq nw one two [] others e p = not_empty p
no_piece a rest nb nh nq nw one two (x ∷ t) others e p = kinds p
  where
    same : a ≡ x
    same = cc

    signed : (u : List ℕ) (s : Sign) → rest ≡ u ++ others → x ∷ u ≡ sign_spelling s → ⊥
    signed [] s f g = one s (sym g ∙ ap (λ y. y ∷ []) (sym same))
    signed (c ∷ []) s f g = two c others f s (sym g ∙ ap (λ y. y ∷ c ∷ []) (sym same))
    signed (c ∷ d ∷ u) s f g =
        let l : length (x ∷ c ∷ d ∷ u) ≡ length (sign_spelling s) = ap length g in
        let k = sign_length s in
        omega arith

    kinds : IsPiece (x ∷ t) → ⊥
    kinds (blank h) = nb (subst IsBlankByte (sym same) (blank_first (x ∷ t) h).0)
    kinds (comment h) = nh (same ∙ comment_first (x ∷ t) h)
    kinds (word h) = nw (subst IsWordByte (sym same) (word_first (x ∷ t) h))
    kinds (number h) = nw (subst IsWordByte (sym same) (inr (inl (number_first (x ∷ t) h))))
    kinds (text inside h) = nq (same ∙ quoted_first (x ∷ t) inside h)
    kinds (sign s h) = signed t s (cc) h
