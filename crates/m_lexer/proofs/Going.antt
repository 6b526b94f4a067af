-- From one position of a file to a later one: over a gap, or over a token.
use Rattle.std.proofs.Common.{◌≡◌, ◌≢◌, ◌==◌, ℕ, ◌+◌, ◌<◌, cond, List, [], ◌∷◌, ◌++◌, length, get_or, drop, count_by, refl, sym, ap, ◌∙◌, subst, arith, inl}
use Rattle.std.proofs.Common.{inr}
use Rattle.std.specs.List.{AllByRecursion}
use Rattle.std.proofs.lemmas.Bool.{cases_lt, cases_eq, ne_eqb}
use Rattle.std.proofs.lemmas.List.{append_assoc, append-nil, drop_more, drop_all, length-append}
use Rattle.std.proofs.lemmas.List.Sums.{sum_by-cons, sum_by-append}
use Rattle.m_places.specs.declared.place.Place.{Place}
use Rattle.m_lexer.specs.declared.token.Sign.{Sign}
use Rattle.m_lexer.specs.declared.token.Sign.TheVariants.{Plus, Minus, Star, Slash, Equal, NotEqual, Less, LessEqual, Greater, GreaterEqual, OpenParen}
use Rattle.m_lexer.specs.declared.token.Sign.TheVariants.{CloseParen, OpenBracket, CloseBracket, Comma, Semicolon, Colon, Range}
use Rattle.m_lexer.specs.declared.token.Kind.{Kind}
use Rattle.m_lexer.specs.declared.token.Kind.TheVariants as kinds
use Rattle.m_lexer.specs.declared.token.Token.{Token}
use Rattle.m_lexer.specs.declared.fault.LexFault.TheVariants.{BadByte, OpenString}
use Rattle.m_text.specs.Bytes.{RunsTo, IsDigit, IsWordByte, IsBlankByte, quote, hash, point, line_feed}
use Rattle.m_text.specs.Words.{IsNumber, IsWordOrNumber, LongestBetween}
use Rattle.m_lexer.specs.Spellings.{sign_spelling}
use Rattle.m_lexer.specs.inner.Steps.{left, byte_at, further, GoesOn, BeginsGap, TokenBetween, NoSign}
use Rattle.m_lexer.specs.Tokens.{Longest, IsGap, Spells, text, sign, Lexes, gap, token, NoPiece, FirstFault, bad_byte, open_string, behind}
use Rattle.m_text.proofs.Fronts.{part, parts, length-part, all_part, stops_part, all_weaker, all_both}
use Rattle.m_lexer.proofs.Pieces.{longest_blank, longest_comment, longest_quoted, longest_word_or_number, longest_two, longest_one, no_piece, NoTwo}

-- over nothing, over a gap, over a token, and transitively
pub stays : (bytes : List ℕ) (p : Place) → GoesOn bytes p [] p
stays bytes p = record { lists = λ tokens d. d; faults = λ fault d. d }

pub by_gap : (bytes : List ℕ) (p q : Place) (t : List ℕ) → Longest (left bytes p) t (left bytes q) → IsGap t → q ≡ behind t p → GoesOn bytes p [] q
by_gap bytes p q t l g e = record {
  lists = λ tokens d. gap l g (subst (λ x. Lexes x (left bytes q) tokens) e d);
  faults = λ fault d. gap l g (subst (λ x. FirstFault x (left bytes q) fault) e d);
}

pub by_token : (bytes : List ℕ) (p q : Place) (t : List ℕ) (k : Kind) → Longest (left bytes p) t (left bytes q) → Spells t k → q ≡ behind t p
    → TokenBetween bytes p k q
by_token bytes p q t k l s e = record {
  lists = λ tokens d. token l s (subst (λ x. Lexes x (left bytes q) tokens) e d);
  faults = λ fault d. token l s (subst (λ x. FirstFault x (left bytes q) fault) e d);
}

pub then : (bytes : List ℕ) (p q r : Place) (ts us : List Token) → GoesOn bytes p ts q → GoesOn bytes q us r → GoesOn bytes p (ts ++ us) r
then bytes p q r ts us a b = record {
  lists = λ tokens d. rw append_assoc (a.lists (us ++ tokens) (b.lists tokens d));
  faults = λ fault d. a.faults fault (b.faults fault d);
}

-- a later position is the one after the text between the two
place_behind : (p : Place) (t : List ℕ) (b n : ℕ) → b ≡ p.byte + length t → n ≡ count_by (λ x. x == line_feed) t → further p b n ≡ behind t p
place_behind p t b n e f = λ i. record { file = p.file; byte = e i; line = p.line + f i }

no_line_feeds : (t : List ℕ) → AllByRecursion (λ b. b ≢ line_feed) t → count_by (λ x. x == line_feed) t ≡ 0
no_line_feeds [] h = refl
no_line_feeds (b ∷ t) h =
    let e = sum_by-cons (λ x. cond (x == line_feed) 1 0) b t in
    let f : cond {A = ℕ} (b == line_feed) 1 0 ≡ 0 = ap (λ x. cond {A = ℕ} x 1 0) (ne_eqb b line_feed h.0) in
    let g = no_line_feeds t h.1 in
    omega arith

word_line_feeds : (t : List ℕ) → AllByRecursion IsWordByte t → AllByRecursion (λ b. b ≢ line_feed) t
word_line_feeds = all_weaker IsWordByte (λ b. b ≢ line_feed) (λ b h e. omega arith)

digit_line_feeds : (t : List ℕ) → AllByRecursion IsDigit t → AllByRecursion (λ b. b ≢ line_feed) t
digit_line_feeds = all_weaker IsDigit (λ b. b ≢ line_feed) (λ b h e. omega arith)

number_line_feeds : (t : List ℕ) → IsNumber t → AllByRecursion (λ b. b ≢ line_feed) t
number_line_feeds t (inl h) = digit_line_feeds t h.1
number_line_feeds t (inr h) = subst (AllByRecursion (λ b. b ≢ line_feed)) (sym h.4)
    (all_both (λ b. b ≢ line_feed) h.0 (point ∷ h.1) (digit_line_feeds h.0 h.2.1) ((λ e. omega arith), digit_line_feeds h.1 h.3.1))

word_or_number_line_feeds : (t : List ℕ) → IsWordOrNumber t → AllByRecursion (λ b. b ≢ line_feed) t
word_or_number_line_feeds t (inl h) = word_line_feeds t h.0
word_or_number_line_feeds t (inr h) = number_line_feeds t h

sign_line_feeds : (s : Sign) → count_by (λ x. x == line_feed) (sign_spelling s) ≡ 0
sign_line_feeds Plus = refl
sign_line_feeds Minus = refl
sign_line_feeds Star = refl
sign_line_feeds Slash = refl
sign_line_feeds Equal = refl
sign_line_feeds NotEqual = refl
sign_line_feeds Less = refl
sign_line_feeds LessEqual = refl
sign_line_feeds Greater = refl
sign_line_feeds GreaterEqual = refl
sign_line_feeds OpenParen = refl
sign_line_feeds CloseParen = refl
sign_line_feeds OpenBracket = refl
sign_line_feeds CloseBracket = refl
sign_line_feeds Comma = refl
sign_line_feeds Semicolon = refl
sign_line_feeds Colon = refl
sign_line_feeds Range = refl

-- the rest of the file at a position begins with its byte
left_is : (bytes : List ℕ) (p : Place) (b : ℕ) → p.byte < length bytes → byte_at bytes p ≡ b → left bytes p ≡ b ∷ drop (p.byte + 1) bytes
left_is bytes p b h e = drop_more bytes p.byte 0 h ∙ ap (λ x. x ∷ drop (p.byte + 1) bytes) e

pub blank_goes : (bytes : List ℕ) (p : Place) (b n : ℕ) → p.byte < length bytes → byte_at bytes p ≡ b → IsBlankByte b
    → n ≡ count_by (λ x. x == line_feed) (b ∷ []) → GoesOn bytes p [] (further p (p.byte + 1) n)
blank_goes bytes p b n h e k f =
    by_gap bytes p (further p (p.byte + 1) n) (b ∷ [])
    (longest_blank (left bytes p) b (drop (p.byte + 1) bytes) (left_is bytes p b h e) k)
    (inl (b, k, refl))
    (place_behind p (b ∷ []) (p.byte + 1) n refl f)

pub no_line_feed : (b : ℕ) → b ≢ line_feed → 0 ≡ count_by (λ x. x == line_feed) (b ∷ [])
no_line_feed b h = sym (no_line_feeds (b ∷ []) (h, tt))

pub comment_goes : (bytes : List ℕ) (p : Place) (end : ℕ) → p.byte < length bytes → byte_at bytes p ≡ hash → RunsTo (λ b. b ≢ line_feed) bytes (p.byte + 1) end
    → GoesOn bytes p [] (further p end 0)
comment_goes bytes p end h e r =
    let inside = part bytes (p.byte + 1) end in
    let all = all_part (λ b. b ≢ line_feed) bytes (p.byte + 1) end r in
    let l = length-part bytes (p.byte + 1) end r.onward r.within in
    let onward = r.onward in
    let byte : end ≡ p.byte + length (hash ∷ inside) = omega arith in
    by_gap bytes p (further p end 0) (hash ∷ inside)
    (longest_comment (left bytes p) inside (drop end bytes) (left_is bytes p hash h e ∙ ap (λ x. hash ∷ x) (parts bytes (p.byte + 1) end r.onward)) all
    (stops_part (λ b. b ≢ line_feed) bytes (p.byte + 1) end r))
    (inr (inside, all, refl))
    (place_behind p (hash ∷ inside) end 0 byte (sym (no_line_feeds (hash ∷ inside) ((λ n. omega arith), all))))

pub two_goes : (bytes : List ℕ) (p : Place) (s : Sign) → p.byte + 1 < length bytes → sign_spelling s ≡ byte_at bytes p ∷ get_or bytes (p.byte + 1) 0 ∷ []
    → TokenBetween bytes p (kinds.Sign s) (further p (p.byte + 2) 0)
two_goes bytes p s h e =
    let a = byte_at bytes p in
    let b = get_or bytes (p.byte + 1) 0 in
    let two : p.byte + 1 + 1 ≡ p.byte + 2 = omega arith in
    let rest = drop_more bytes (p.byte + 1) 0 h ∙ ap (λ n. b ∷ drop n bytes) two in
    by_token bytes p (further p (p.byte + 2) 0) (a ∷ b ∷ []) (kinds.Sign s)
    (longest_two (left bytes p) a b (drop (p.byte + 2) bytes) s (left_is bytes p a (omega arith) refl ∙ ap (λ x. a ∷ x) rest) e)
    (sign (sym e))
    (place_behind p (a ∷ b ∷ []) (p.byte + 2) 0 refl (sym (sym (ap (count_by (λ x. x == line_feed)) e) ∙ sign_line_feeds s)))

pub no_two : (bytes : List ℕ) (p : Place) → (p.byte + 1 < length bytes → (s : Sign) → sign_spelling s ≢ byte_at bytes p ∷ get_or bytes (p.byte + 1) 0 ∷ [])
    → NoTwo (byte_at bytes p) (drop (p.byte + 1) bytes)
no_two bytes p none c more e s f = elim (cases_lt (p.byte + 1) (length bytes)) [
  | inl h ↦ let d = drop_more bytes (p.byte + 1) 0 h in let same : c ≡ get_or bytes (p.byte + 1) 0 = cc in none h s (f
      ∙ ap (λ x. byte_at bytes p ∷ x ∷ []) same)
  | inr h ↦ let d = drop_all (p.byte + 1) bytes h in cc
]

pub one_goes : (bytes : List ℕ) (p : Place) (s : Sign) → p.byte < length bytes → sign_spelling s ≡ byte_at bytes p ∷ []
    → (p.byte + 1 < length bytes → (s : Sign) → sign_spelling s ≢ byte_at bytes p ∷ get_or bytes (p.byte + 1) 0 ∷ [])
    → TokenBetween bytes p (kinds.Sign s) (further p (p.byte + 1) 0)
one_goes bytes p s h e none =
    let a = byte_at bytes p in
    by_token bytes p (further p (p.byte + 1) 0) (a ∷ []) (kinds.Sign s)
    (longest_one (left bytes p) a (drop (p.byte + 1) bytes) s (left_is bytes p a h refl) e (no_two bytes p none))
    (sign (sym e))
    (place_behind p (a ∷ []) (p.byte + 1) 0 refl (sym (sym (ap (count_by (λ x. x == line_feed)) e) ∙ sign_line_feeds s)))

pub bad_byte_there : (bytes : List ℕ) (p : Place) → p.byte < length bytes → (BeginsGap (byte_at bytes p) → ⊥) → (IsWordByte (byte_at bytes p) → ⊥)
    → byte_at bytes p ≢ quote → NoSign bytes p → FirstFault p (left bytes p) (BadByte p)
bad_byte_there bytes p h ng nw nq ns =
    let a = byte_at bytes p in
    let rest = drop (p.byte + 1) bytes in
    let none : NoPiece (a ∷ rest) = no_piece a rest (λ b. ng (inl b)) (λ e. ng (inr e)) nq nw ns.one (no_two bytes p ns.two) in
    subst (λ x. FirstFault p x (BadByte p)) (sym (left_is bytes p a h refl)) (bad_byte nq none)

-- over a word or a number
pub word_or_number_goes : (bytes : List ℕ) (p : Place) (end : ℕ) (k : Kind) → LongestBetween bytes p.byte end → Spells (part bytes p.byte end) k
    → TokenBetween bytes p k (further p end 0)
word_or_number_goes bytes p end k l s =
    let t = part bytes p.byte end in
    let onward = l.onward in
    let m = length-part bytes p.byte end (omega arith) l.within in
    let byte : end ≡ p.byte + length t = omega arith in
    by_token bytes p (further p end 0) t k (longest_word_or_number bytes p.byte end l) s
    (place_behind p t end 0 byte (sym (no_line_feeds t (word_or_number_line_feeds t l.longest.piece))))

-- over a quoted text; and an unclosed one
pub text_goes : (bytes : List ℕ) (p : Place) (end : ℕ) → p.byte < length bytes → byte_at bytes p ≡ quote → RunsTo (λ b. b ≢ quote) bytes (p.byte + 1) end
    → end < length bytes → TokenBetween bytes p (kinds.Text (part bytes (p.byte + 1) end))
    (further p (end + 1) (count_by (λ x. x == line_feed) (part bytes (p.byte + 1) end)))
text_goes bytes p end h e r g =
    let inside = part bytes (p.byte + 1) end in
    let t = quote ∷ (inside ++ quote ∷ []) in
    let rest = drop (end + 1) bytes in
    let all = all_part (λ b. b ≢ quote) bytes (p.byte + 1) end r in
    let l = length-part bytes (p.byte + 1) end r.onward r.within in
    let closes : get_or bytes end 0 ≡ quote = elim (cases_eq (get_or bytes end 0) quote) [ inl x ↦ x | inr x ↦ absurd (r.stops g x) ] in
    let behind_it : drop end bytes ≡ quote ∷ rest = drop_more bytes end 0 g ∙ ap (λ x. x ∷ rest) closes in
    let split : left bytes p ≡ t ++ rest = left_is bytes p quote h e
    ∙ ap (λ x. quote ∷ x) (parts bytes (p.byte + 1) end r.onward ∙ ap (λ x. inside ++ x) behind_it ∙ sym (append_assoc inside (quote ∷ []) rest)) in
    let n = length-append inside (quote ∷ []) in
    let onward = r.onward in
    let byte : end + 1 ≡ p.byte + length t = omega arith in
    let first_line = sum_by-cons (λ x. cond (x == line_feed) 1 0) quote (inside ++ quote ∷ []) in
    let last_line = sum_by-append (λ x. cond (x == line_feed) 1 0) inside (quote ∷ []) in
    let lines : count_by (λ x. x == line_feed) inside ≡ count_by (λ x. x == line_feed) t = omega arith in
    by_token bytes p (further p (end + 1) (count_by (λ x. x == line_feed) inside)) t (kinds.Text inside)
    (longest_quoted (left bytes p) inside rest split all)
    (text (all, refl))
    (place_behind p t (end + 1) (count_by (λ x. x == line_feed) inside) byte lines)

pub open_there : (bytes : List ℕ) (p : Place) (end : ℕ) → p.byte < length bytes → byte_at bytes p ≡ quote → RunsTo (λ b. b ≢ quote) bytes (p.byte + 1) end
    → end ≡ length bytes → FirstFault p (left bytes p) (OpenString p)
open_there bytes p end h e r g =
    let inside = part bytes (p.byte + 1) end in
    let none : drop end bytes ≡ [] = drop_all end bytes (omega arith) in
    let split : left bytes p ≡ quote ∷ inside = left_is bytes p quote h e
    ∙ ap (λ x. quote ∷ x) (parts bytes (p.byte + 1) end r.onward ∙ ap (λ x. inside ++ x) none ∙ append-nil inside) in
    open_string inside split (all_part (λ b. b ≢ quote) bytes (p.byte + 1) end r)
