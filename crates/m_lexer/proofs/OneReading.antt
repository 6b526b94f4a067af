-- A file has either a unique list of tokens or a unique first error.
use Rattle.std.proofs.Common.{◌≡◌, ◌≢◌, ◌⊎◌, ℕ, List, [], ◌∷◌, ◌++◌, refl, sym, ap, ◌∙◌, subst, arith, inl, inr}
use Rattle.std.specs.List.{AllByRecursion}
use Rattle.std.proofs.lemmas.List.{same_from_push}
use Rattle.m_places.specs.declared.place.Place.{Place}
use Rattle.m_lexer.specs.declared.token.Kind.{Kind}
use Rattle.m_lexer.specs.declared.token.Kind.TheVariants as kinds
use Rattle.m_lexer.specs.declared.token.Token.{Token}
use Rattle.m_lexer.specs.declared.fault.LexFault.{LexFault}
use Rattle.m_text.specs.Bytes.{IsWordByte, IsBlankByte, quote, hash, point}
use Rattle.m_text.specs.Words.{IsWord, IsNumber}
use Rattle.m_lexer.specs.Spellings.{IsPiece}
use Rattle.m_lexer.specs.Tokens.{Longest, IsGap, IsTooGreat, Spells, word, key, number, text, sign, Lexes, end, gap, token, NoPiece, FirstFault, bad_byte}
use Rattle.m_lexer.specs.Tokens.{open_string, too_great, behind}
use Rattle.m_text.proofs.Fronts.{all_left, all_right}
use Rattle.m_text.proofs.Longest.{one_longest}
use Rattle.m_text.proofs.Spelled.{first, word_first, number_first, point_is_none}
use Rattle.m_lexer.proofs.Pieces.{IsMark, blank_first, comment_first, quoted_first, sign_first, after_quote, not_empty}
use Rattle.m_lexer.proofs.Named.{one_sign, one_key}

-- a gap is no token
gap_first : (t : List ℕ) → IsGap t → IsBlankByte (first t) ⊎ (first t ≡ hash)
gap_first t (inl h) = inl (blank_first t h).0
gap_first t (inr h) = inr (comment_first t h)

spelled_first : (t : List ℕ) (k : Kind) → Spells t k → IsWordByte (first t) ⊎ ((first t ≡ quote) ⊎ IsMark (first t))
spelled_first t k (word h none) = inl (word_first t h)
spelled_first t k (key h e) = inl (word_first t h)
spelled_first t k (number h e) = inl (inr (inl (number_first t h)))
spelled_first t k (text {inside = i} h) = inr (inl (quoted_first t i h))
spelled_first t k (sign {s = s} e) = inr (inr (sign_first t s e))

gap_or_token : (t : List ℕ) (k : Kind) → IsGap t → Spells t k → ⊥
gap_or_token t k g h = let a = gap_first t g in let b = spelled_first t k h in omega arith

gap_or_number : (t : List ℕ) → IsGap t → IsNumber t → ⊥
gap_or_number t g h = let a = gap_first t g in let b = number_first t h in omega arith

-- a word is no number
word_or_number : (t : List ℕ) → IsWord t → IsNumber t → ⊥
word_or_number t h (inl k) = h.1 k.1
word_or_number t h (inr k) = point_is_none (all_right IsWordByte k.0 (point ∷ k.1) (subst (AllByRecursion IsWordByte) k.4 h.0)).0

-- a text is the spelling of at most one kind of token
one_kind : (t : List ℕ) (k l : Kind) → Spells t k → Spells t l → k ≡ l
one_kind t k l (word h none) (word h' none') = refl
one_kind t k l (word h none) (key {k = w} h' e) = absurd (none w e)
one_kind t k l (word h none) (number h' e) = absurd (word_or_number t h h')
one_kind t k l (word h none) (text {inside = i} h') = let a = word_first t h in let b = quoted_first t i h' in absurd (omega arith)
one_kind t k l (word h none) (sign {s = s} e) = let a = word_first t h in let b = sign_first t s e in absurd (omega arith)
one_kind t k l (key {k = w} h e) (word h' none) = absurd (none w e)
one_kind t k l (key {k = w} h e) (key {k = w'} h' e') = ap kinds.Key (one_key w w' (sym e ∙ e'))
one_kind t k l (key h e) (number h' e') = absurd (word_or_number t h h')
one_kind t k l (key h e) (text {inside = i} h') = let a = word_first t h in let b = quoted_first t i h' in absurd (omega arith)
one_kind t k l (key h e) (sign {s = s} e') = let a = word_first t h in let b = sign_first t s e' in absurd (omega arith)
one_kind t k l (number h e) (word h' none) = absurd (word_or_number t h' h)
one_kind t k l (number h e) (key h' e') = absurd (word_or_number t h' h)
one_kind t k l (number {z = z} h e) (number {z = z'} h' e') = let q : z ≡ z' = cc in ap (λ y. kinds.Number y t) q
one_kind t k l (number h e) (text {inside = i} h') = let a = number_first t h in let b = quoted_first t i h' in absurd (omega arith)
one_kind t k l (number h e) (sign {s = s} e') = let a = number_first t h in let b = sign_first t s e' in absurd (omega arith)
one_kind t k l (text {inside = i} h) (word h' none) = let a = word_first t h' in let b = quoted_first t i h in absurd (omega arith)
one_kind t k l (text {inside = i} h) (key h' e) = let a = word_first t h' in let b = quoted_first t i h in absurd (omega arith)
one_kind t k l (text {inside = i} h) (number h' e) = let a = number_first t h' in let b = quoted_first t i h in absurd (omega arith)
one_kind t k l (text {inside = i} h) (text {inside = j} h') =
    let e : i ++ quote ∷ [] ≡ j ++ quote ∷ [] = cc in
    ap kinds.Text (same_from_push i j quote quote e).0
one_kind t k l (text {inside = i} h) (sign {s = s} e) = let a = sign_first t s e in let b = quoted_first t i h in absurd (omega arith)
one_kind t k l (sign {s = s} e) (word h none) = let a = word_first t h in let b = sign_first t s e in absurd (omega arith)
one_kind t k l (sign {s = s} e) (key h e') = let a = word_first t h in let b = sign_first t s e in absurd (omega arith)
one_kind t k l (sign {s = s} e) (number h e') = let a = number_first t h in let b = sign_first t s e in absurd (omega arith)
one_kind t k l (sign {s = s} e) (text {inside = i} h) = let a = sign_first t s e in let b = quoted_first t i h in absurd (omega arith)
one_kind t k l (sign {s = s} e) (sign {s = s'} e') = ap kinds.Sign (one_sign s s' (sym e ∙ e'))

-- a number that is too great is no token
great_or_token : (t : List ℕ) (k : Kind) → IsTooGreat t → Spells t k → ⊥
great_or_token t k g (word h none) = word_or_number t h g.0
great_or_token t k g (key h e) = word_or_number t h g.0
great_or_token t k g (number h e) = cc
great_or_token t k g (text {inside = i} h) = let a = number_first t g.0 in let b = quoted_first t i h in omega arith
great_or_token t k g (sign {s = s} e) = let a = number_first t g.0 in let b = sign_first t s e in omega arith

-- at the end of the file, at a byte that begins no piece and at an unclosed text there is no
-- longest piece
no_longest : (bytes t rest : List ℕ) → NoPiece bytes → Longest bytes t rest → ⊥
no_longest bytes t rest none l = none t rest l.parts l.piece

none_at_end : NoPiece []
none_at_end [] others e p = not_empty p
none_at_end (b ∷ t) others e p = cc

none_at_open : (bytes inside : List ℕ) → bytes ≡ quote ∷ inside → AllByRecursion (λ b. b ≢ quote) inside → NoPiece bytes
none_at_open bytes inside e h [] others f p = not_empty p
none_at_open bytes inside e h (b ∷ t) others f p =
    let at_quote : b ≡ quote = cc in
    let w = after_quote (b ∷ t) p at_quote in
    let x = w.1.1 in
    let tail : t ≡ w.0 ++ quote ∷ [] = cc in
    let all : inside ≡ (w.0 ++ quote ∷ []) ++ others = (cc (e, f)) ∙ ap (λ y. y ++ others) tail in
    (all_right (λ b. b ≢ quote) w.0 (quote ∷ []) (all_left (λ b. b ≢ quote) (w.0 ++ quote ∷ []) others (subst (AllByRecursion (λ b. b ≢ quote)) all h))).0 refl

lexes_moved : (p : Place) (t u r v : List ℕ) (tokens : List Token) → t ≡ u → r ≡ v → Lexes (behind t p) r tokens → Lexes (behind u p) v tokens
lexes_moved p t u r v tokens e f d = subst (λ x. Lexes (behind u p) x tokens) f (subst (λ x. Lexes (behind x p) r tokens) e d)

fault_moved : (p : Place) (t u r v : List ℕ) (fault : LexFault) → t ≡ u → r ≡ v → FirstFault (behind t p) r fault → FirstFault (behind u p) v fault
fault_moved p t u r v fault e f d = subst (λ x. FirstFault (behind u p) x fault) f (subst (λ x. FirstFault (behind x p) r fault) e d)

pub one_list : (p : Place) (bytes : List ℕ) (tokens others : List Token) → Lexes p bytes tokens → Lexes p bytes others → tokens ≡ others
one_list p bytes tokens others end end = refl
one_list p bytes tokens others end (gap {t = t} {rest = r} l g d) = absurd (no_longest [] t r none_at_end l)
one_list p bytes tokens others end (token {t = t} {rest = r} l s d) = absurd (no_longest [] t r none_at_end l)
one_list p bytes tokens others (gap {t = t} {rest = r} l g d) end = absurd (no_longest [] t r none_at_end l)
one_list p bytes tokens others (token {t = t} {rest = r} l s d) end = absurd (no_longest [] t r none_at_end l)
one_list p bytes tokens others (gap {t = t} {rest = r} l g d) (gap {t = u} {rest = v} m h d') =
    let q = one_longest IsPiece bytes u v t r m l in
    one_list (behind t p) r tokens others d (lexes_moved p u t v r others q.0 q.1 d')
one_list p bytes tokens others (gap {t = t} {rest = r} l g d) (token {t = u} {rest = v} {kind = k} m s d') =
    let q = one_longest IsPiece bytes u v t r m l in
    absurd (gap_or_token t k g (subst (λ x. Spells x k) q.0 s))
one_list p bytes tokens others (token {t = t} {rest = r} {kind = k} l s d) (gap {t = u} {rest = v} m g d') =
    let q = one_longest IsPiece bytes u v t r m l in
    absurd (gap_or_token t k (subst IsGap q.0 g) s)
one_list p bytes tokens others (token {t = t} {rest = r} {kind = k} {tokens = ts} l s d) (token {t = u} {rest = v} {kind = k'} {tokens = us} m s' d') =
    let q = one_longest IsPiece bytes u v t r m l in
    let same = one_kind t k k' s (subst (λ x. Spells x k') q.0 s') in
    let rest = one_list (behind t p) r ts us d (lexes_moved p u t v r us q.0 q.1 d') in
    λ i. record { kind = same i; place = p } ∷ rest i

pub no_list_and_fault : (p : Place) (bytes : List ℕ) (tokens : List Token) (fault : LexFault) → Lexes p bytes tokens → FirstFault p bytes fault → ⊥
no_list_and_fault p bytes tokens fault end (open_string i e h) = cc
no_list_and_fault p bytes tokens fault end (too_great {t = t} {rest = r} l g) = no_longest [] t r none_at_end l
no_list_and_fault p bytes tokens fault end (gap {t = t} {rest = r} l g d) = no_longest [] t r none_at_end l
no_list_and_fault p bytes tokens fault end (token {t = t} {rest = r} l s d) = no_longest [] t r none_at_end l
no_list_and_fault p bytes tokens fault (gap {t = t} {rest = r} l g d) (bad_byte ne none) = no_longest bytes t r none l
no_list_and_fault p bytes tokens fault (gap {t = t} {rest = r} l g d) (open_string i e h) = no_longest bytes t r (none_at_open bytes i e h) l
no_list_and_fault p bytes tokens fault (gap {t = t} {rest = r} l g d) (too_great {t = u} {rest = v} m h) =
    gap_or_number t g (subst IsNumber (one_longest IsPiece bytes u v t r m l).0 h.0)
no_list_and_fault p bytes tokens fault (gap {t = t} {rest = r} l g d) (gap {t = u} {rest = v} m h d') =
    let q = one_longest IsPiece bytes u v t r m l in
    no_list_and_fault (behind t p) r tokens fault d (fault_moved p u t v r fault q.0 q.1 d')
no_list_and_fault p bytes tokens fault (gap {t = t} {rest = r} l g d) (token {t = u} {rest = v} {kind = k} m s d') =
    gap_or_token t k g (subst (λ x. Spells x k) (one_longest IsPiece bytes u v t r m l).0 s)
no_list_and_fault p bytes tokens fault (token {t = t} {rest = r} l s d) (bad_byte ne none) = no_longest bytes t r none l
no_list_and_fault p bytes tokens fault (token {t = t} {rest = r} l s d) (open_string i e h) = no_longest bytes t r (none_at_open bytes i e h) l
no_list_and_fault p bytes tokens fault (token {t = t} {rest = r} {kind = k} l s d) (too_great {t = u} {rest = v} m h) =
    great_or_token t k (subst IsTooGreat (one_longest IsPiece bytes u v t r m l).0 h) s
no_list_and_fault p bytes tokens fault (token {t = t} {rest = r} {kind = k} l s d) (gap {t = u} {rest = v} m g d') =
    gap_or_token t k (subst IsGap (one_longest IsPiece bytes u v t r m l).0 g) s
no_list_and_fault p bytes tokens fault (token {t = t} {rest = r} {kind = k} {tokens = ts} l s d) (token {t = u} {rest = v} {kind = k'} m s' d') =
    let q = one_longest IsPiece bytes u v t r m l in
    no_list_and_fault (behind t p) r ts fault d (fault_moved p u t v r fault q.0 q.1 d')

pub one_first_fault : (p : Place) (bytes : List ℕ) (fault other : LexFault) → FirstFault p bytes fault → FirstFault p bytes other → fault ≡ other
one_first_fault p bytes f o (bad_byte ne none) (bad_byte ne' none') = refl
one_first_fault p bytes f o (bad_byte ne none) (open_string i e h) = let q = e in absurd (ne (cc))
one_first_fault p bytes f o (bad_byte ne none) (too_great {t = t} {rest = r} l g) = absurd (no_longest _ t r none l)
one_first_fault p bytes f o (bad_byte ne none) (gap {t = t} {rest = r} l g d) = absurd (no_longest _ t r none l)
one_first_fault p bytes f o (bad_byte ne none) (token {t = t} {rest = r} l s d) = absurd (no_longest _ t r none l)
one_first_fault p bytes f o (open_string i e h) (bad_byte ne none) = let q = e in absurd (ne (cc))
one_first_fault p bytes f o (open_string i e h) (open_string i' e' h') = refl
one_first_fault p bytes f o (open_string i e h) (too_great {t = t} {rest = r} l g) = absurd (no_longest bytes t r (none_at_open bytes i e h) l)
one_first_fault p bytes f o (open_string i e h) (gap {t = t} {rest = r} l g d) = absurd (no_longest bytes t r (none_at_open bytes i e h) l)
one_first_fault p bytes f o (open_string i e h) (token {t = t} {rest = r} l s d) = absurd (no_longest bytes t r (none_at_open bytes i e h) l)
one_first_fault p bytes f o (too_great {t = t} {rest = r} l g) (bad_byte ne none) = absurd (no_longest _ t r none l)
one_first_fault p bytes f o (too_great {t = t} {rest = r} l g) (open_string i e h) = absurd (no_longest bytes t r (none_at_open bytes i e h) l)
one_first_fault p bytes f o (too_great l g) (too_great l' g') = refl
one_first_fault p bytes f o (too_great {t = t} {rest = r} l h) (gap {t = u} {rest = v} m g d) = absurd
    (gap_or_number u g (subst IsNumber (one_longest IsPiece bytes t r u v l m).0 h.0))
one_first_fault p bytes f o (too_great {t = t} {rest = r} l h) (token {t = u} {rest = v} {kind = k} m s d) = absurd
    (great_or_token u k (subst IsTooGreat (one_longest IsPiece bytes t r u v l m).0 h) s)
one_first_fault p bytes f o (gap {t = t} {rest = r} l g d) (bad_byte ne none) = absurd (no_longest _ t r none l)
one_first_fault p bytes f o (gap {t = t} {rest = r} l g d) (open_string i e h) = absurd (no_longest bytes t r (none_at_open bytes i e h) l)
one_first_fault p bytes f o (gap {t = u} {rest = v} m g d) (too_great {t = t} {rest = r} l h) = absurd
    (gap_or_number u g (subst IsNumber (one_longest IsPiece bytes t r u v l m).0 h.0))
one_first_fault p bytes f o (gap {t = t} {rest = r} l g d) (gap {t = u} {rest = v} m h d') =
    let q = one_longest IsPiece bytes u v t r m l in
    one_first_fault (behind t p) r f o d (fault_moved p u t v r o q.0 q.1 d')
one_first_fault p bytes f o (gap {t = t} {rest = r} l g d) (token {t = u} {rest = v} {kind = k} m s d') =
    absurd (gap_or_token t k g (subst (λ x. Spells x k) (one_longest IsPiece bytes u v t r m l).0 s))
one_first_fault p bytes f o (token {t = t} {rest = r} l s d) (bad_byte ne none) = absurd (no_longest _ t r none l)
one_first_fault p bytes f o (token {t = t} {rest = r} l s d) (open_string i e h) = absurd (no_longest bytes t r (none_at_open bytes i e h) l)
one_first_fault p bytes f o (token {t = u} {rest = v} {kind = k} m s d) (too_great {t = t} {rest = r} l h) = absurd
    (great_or_token u k (subst IsTooGreat (one_longest IsPiece bytes t r u v l m).0 h) s)
one_first_fault p bytes f o (token {t = t} {rest = r} {kind = k} l s d) (gap {t = u} {rest = v} m g d') =
    absurd (gap_or_token t k (subst IsGap (one_longest IsPiece bytes u v t r m l).0 g) s)
one_first_fault p bytes f o (token {t = t} {rest = r} l s d) (token {t = u} {rest = v} m s' d') =
    let q = one_longest IsPiece bytes u v t r m l in
    one_first_fault (behind t p) r f o d (fault_moved p u t v r o q.0 q.1 d')
