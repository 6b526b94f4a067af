-- Steps from one position of a line to a later one, over spaces or a token.
use Rattle.std.proofs.Common.{◌≡◌, ◌≢◌, ℕ, zero, suc, ◌+◌, ◌-◌, ◌<◌, ◌≤◌, cond, List, [], ◌∷◌, ◌++◌, length, get_or, drop, sym, ap, ◌∙◌, subst, arith, inl, inr}
use Rattle.std.proofs.lemmas.Bool.{cases_lt, ne_eqb}
use Rattle.std.proofs.lemmas.List.{append_assoc, append-nil, drop_more, drop_all}
use Rattle.m_text.specs.Bytes.{IsWordByte, RunsTo, hash, space}
use Rattle.m_text.specs.Words.{LongestOf, LongestBetween}
use Rattle.m_text.proofs.Fronts.{part}
use Rattle.mpp_lexer.specs.declared.piece.DriverSign.{DriverSign}
use Rattle.mpp_lexer.specs.declared.piece.DriverPiece.{DriverPiece}
use Rattle.mpp_lexer.specs.declared.piece.DriverPiece.TheVariants.{Sign}
use Rattle.mpp_lexer.specs.Tokens.{IsToken, number, Spells, sign, IsTooGreat, TokensOf, end, comment, blank, token, HasBadToken, no_token, too_great, NoToken}
use Rattle.mpp_lexer.specs.Tokens.{spaces, sign_spelling}
use Rattle.mpp_lexer.specs.inner.Steps.{GoesOn, NoSign}
use Rattle.mpp_lexer.proofs.Tokens.{token_of_word, longest_one, longest_two, NoTwo, no_token_at}

-- over nothing, over a token, and steps in sequence
pub stays : (line : List ℕ) (from to : ℕ) → from ≡ to → GoesOn line from [] to
stays line from to e = record {
  lists = λ tokens d. subst (λ n. TokensOf (drop n line) tokens) (sym e) d;
  bad = λ d. subst (λ n. HasBadToken (drop n line)) (sym e) d;
}

pub then : (line : List ℕ) (from mid to : ℕ) (ts us : List DriverPiece) → GoesOn line from ts mid → GoesOn line mid us to → GoesOn line from (ts ++ us) to
then line from mid to ts us a b = record {
  lists = λ tokens d. rw append_assoc (a.lists (us ++ tokens) (b.lists tokens d));
  bad = λ d. a.bad (b.bad d);
}

pub by_token : (line : List ℕ) (from to : ℕ) (t : List ℕ) (p : DriverPiece) → LongestOf IsToken (drop from line) t (drop to line) → Spells t p
    → GoesOn line from (p ∷ []) to
by_token line from to t p l s = record { lists = λ tokens d. token l s d; bad = λ d. token l s d }

left_is : (line : List ℕ) (at : ℕ) → at < length line → drop at line ≡ get_or line at 0 ∷ drop (at + 1) line
left_is line at h = drop_more line at 0 h

pub by_space : (line : List ℕ) (at : ℕ) → at < length line → get_or line at 0 ≡ space → GoesOn line at [] (at + 1)
by_space line at h e =
    let f : drop at line ≡ space ∷ drop (at + 1) line = left_is line at h ∙ ap (λ b. b ∷ drop (at + 1) line) e in
    record {
      lists = λ tokens d. blank f d;
      bad = λ d. blank f d;
    }

pub spaces_go : (line : List ℕ) (from to : ℕ) → RunsTo (λ b. b ≡ space) line from to → GoesOn line from [] to
spaces_go line from to r = go (to - from) from (omega (arith, r.onward)) (λ k h l. r.each k h l)
  where
    go : (n from : ℕ) → from + n ≡ to → ((k : ℕ) → from ≤ k → k < to → get_or line k 0 ≡ space) → GoesOn line from [] to
    go zero from e each = stays line from to (omega arith)
    go (suc n) from e each =
        then line from (from + 1) to [] [] (by_space line from (omega (arith, r.within)) (each from (omega arith) (omega arith)))
        (go n (from + 1) (omega arith) (λ k h l. each k (omega arith) l))

pub then_spaces : (line : List ℕ) (from mid to : ℕ) (ts : List DriverPiece) → GoesOn line from ts mid → RunsTo (λ b. b ≡ space) line mid to
    → GoesOn line from ts to
then_spaces line from mid to ts a r = subst (λ us. GoesOn line from us to) (append-nil ts) (then line from mid to ts [] a (spaces_go line mid to r))

-- the end of the spaces at the start of a line
pub spaces_counted : (line : List ℕ) (to : ℕ) → RunsTo (λ b. b ≡ space) line 0 to → to ≡ spaces line
spaces_counted line to r = sym (go to 0 (omega arith) (λ k h l. r.each k h l))
  where
    go : (n from : ℕ) → from + n ≡ to → ((k : ℕ) → from ≤ k → k < to → get_or line k 0 ≡ space) → spaces (drop from line) ≡ n
    go zero from e each = elim (cases_lt from (length line)) [
      | inl h ↦ let other : get_or line from 0 ≢ space = λ same. r.stops (omega arith) (ap (λ n. get_or line n 0) (omega arith) ∙ same) in ap spaces
          (left_is line from h) ∙ ap (λ t. cond t (1 + spaces (drop (from + 1) line)) 0) (ne_eqb (get_or line from 0) space other)
      | inr h ↦ ap spaces (drop_all from line h)
    ]
    go (suc n) from e each =
        let h : from < length line = omega (arith, r.within) in
        let f : drop from line ≡ space ∷ drop (from + 1) line = left_is line from h
        ∙ ap (λ b. b ∷ drop (from + 1) line) (each from (omega arith) (omega arith)) in
        let g = go n (from + 1) (omega arith) (λ k h l. each k (omega arith) l) in
        ap spaces f ∙ ap (λ m. 1 + m) g ∙ omega arith

pub word_goes : (line : List ℕ) (at to : ℕ) (p : DriverPiece) → at < length line → IsWordByte (get_or line at 0) → LongestBetween line at to
    → IsToken (part line at to) → Spells (part line at to) p → GoesOn line at (p ∷ []) to
word_goes line at to p h w l t s = by_token line at to (part line at to) p
    (token_of_word (drop at line) (get_or line at 0) (drop (at + 1) line) (part line at to) (drop to line) (left_is line at h) w l.longest t) s

pub great_there : (line : List ℕ) (at to : ℕ) → at < length line → IsWordByte (get_or line at 0) → LongestBetween line at to → IsTooGreat (part line at to)
    → HasBadToken (drop at line)
great_there line at to h w l g = too_great (token_of_word (drop at line) (get_or line at 0) (drop (at + 1) line) (part line at to) (drop to line)
    (left_is line at h) w l.longest (number g.0)) g

pub two_goes : (line : List ℕ) (at : ℕ) (s : DriverSign) → at + 1 < length line → sign_spelling s ≡ get_or line at 0 ∷ get_or line (at + 1) 0 ∷ []
    → GoesOn line at (Sign s ∷ []) (at + 2)
two_goes line at s h e =
    let a = get_or line at 0 in
    let b = get_or line (at + 1) 0 in
    let two : at + 1 + 1 ≡ at + 2 = omega arith in
    let rest = left_is line (at + 1) h ∙ ap (λ n. b ∷ drop n line) two in
    by_token line at (at + 2) (a ∷ b ∷ []) (Sign s)
    (longest_two (drop at line) a b (drop (at + 2) line) s (left_is line at (omega arith) ∙ ap (λ x. a ∷ x) rest) e)
    (sign (sym e))

no_two : (line : List ℕ) (at : ℕ) → (at + 1 < length line → (s : DriverSign) → sign_spelling s ≢ get_or line at 0 ∷ get_or line (at + 1) 0 ∷ [])
    → NoTwo (get_or line at 0) (drop (at + 1) line)
no_two line at none c more e s f = elim (cases_lt (at + 1) (length line)) [
  | inl h ↦ let d = drop_more line (at + 1) 0 h in let same : c ≡ get_or line (at + 1) 0 = cc in none h s (f ∙ ap (λ x. get_or line at 0 ∷ x ∷ []) same)
  | inr h ↦ let d = drop_all (at + 1) line h in cc
]

pub one_goes : (line : List ℕ) (at : ℕ) (s : DriverSign) → at < length line → sign_spelling s ≡ get_or line at 0 ∷ []
    → (at + 1 < length line → (s : DriverSign) → sign_spelling s ≢ get_or line at 0 ∷ get_or line (at + 1) 0 ∷ []) → GoesOn line at (Sign s ∷ []) (at + 1)
one_goes line at s h e none =
    let a = get_or line at 0 in
    by_token line at (at + 1) (a ∷ []) (Sign s)
    (longest_one (drop at line) a (drop (at + 1) line) s (left_is line at h) e (no_two line at none))
    (sign (sym e))

pub none_there : (line : List ℕ) (at : ℕ) → at < length line → get_or line at 0 ≢ space → get_or line at 0 ≢ hash → (IsWordByte (get_or line at 0) → ⊥)
    → NoSign line at → HasBadToken (drop at line)
none_there line at h ns nh nw none =
    let a = get_or line at 0 in
    no_token (left_is line at h) ns nh (subst NoToken (sym (left_is line at h)) (no_token_at a (drop (at + 1) line) nw none.one (no_two line at none.two)))

-- the end of a line, and a comment
pub ends_there : (line : List ℕ) (at : ℕ) → length line ≤ at → TokensOf (drop at line) []
ends_there line at h = subst (λ x. TokensOf x []) (sym (drop_all at line h)) end

pub comment_there : (line : List ℕ) (at : ℕ) → at < length line → get_or line at 0 ≡ hash → TokensOf (drop at line) []
comment_there line at h e = comment (left_is line at h ∙ ap (λ b. b ∷ drop (at + 1) line) e)

pub whole_line : (line : List ℕ) (at : ℕ) (tokens : List DriverPiece) → GoesOn line 0 tokens at → TokensOf (drop at line) [] → TokensOf line tokens
whole_line line at tokens g d = rw append-nil at (g.lists [] d)
