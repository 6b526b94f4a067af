-- Each token and the first error are at their positions.
use Rattle.std.proofs.Common.{◌≡◌, ◌==◌, ℕ, ◌+◌, cond, List, [], ◌∷◌, ◌++◌, length, count_by, refl, sym, ap, ◌∙◌, subst, arith}
use Rattle.std.specs.List.{AllByRecursion, All}
use Rattle.std.proofs.lemmas.List.{append_assoc, length-append}
use Rattle.std.proofs.lemmas.List.Elements.{All-from_recursion}
use Rattle.std.proofs.lemmas.List.Sums.{sum_by-append}
use Rattle.m_places.specs.declared.place.Place.{Place}
use Rattle.m_lexer.specs.declared.token.Token.{Token}
use Rattle.m_lexer.specs.declared.fault.LexFault.{LexFault}
use Rattle.m_text.specs.Bytes.{line_feed}
use Rattle.m_lexer.specs.Tokens.{Lexes, end, gap, token, FirstFault, bad_byte, open_string, too_great, IsTokenOf, IsFaultAt, behind}

-- the position after two texts
behind_both : (t u : List ℕ) (p : Place) → behind u (behind t p) ≡ behind (t ++ u) p
behind_both t u p =
    let n = length-append t u in
    let m = sum_by-append (λ x. cond (x == line_feed) 1 0) t u in
    let bytes : p.byte + length t + length u ≡ p.byte + length (t ++ u) = omega arith in
    let lines : p.line + count_by (λ b. b == line_feed) t + count_by (λ b. b == line_feed) u ≡ p.line + count_by (λ b. b == line_feed) (t ++ u) = omega arith in
    λ i. record { file = p.file; byte = bytes i; line = lines i }

later : (p : Place) (bytes t rest : List ℕ) (tok : Token) → bytes ≡ t ++ rest → IsTokenOf (behind t p) rest tok → IsTokenOf p bytes tok
later p bytes t rest tok e s = record {
  before = t ++ s.before;
  spelling = s.spelling;
  others = s.others;
  parts = e ∙ ap (λ x. t ++ x) s.parts ∙ sym (append_assoc t s.before (s.spelling ++ s.others));
  spells = s.spells;
  placed = s.placed ∙ behind_both t s.before p;
}

all_later : (p : Place) (bytes t rest : List ℕ) (tokens : List Token) → bytes ≡ t ++ rest → AllByRecursion (IsTokenOf (behind t p) rest) tokens
    → AllByRecursion (IsTokenOf p bytes) tokens
all_later p bytes t rest [] e h = tt
all_later p bytes t rest (x ∷ tokens) e h = (later p bytes t rest x e h.0, all_later p bytes t rest tokens e h.1)

behind_nothing : (p : Place) → p ≡ behind [] p
behind_nothing p =
    let bytes : p.byte ≡ p.byte + 0 = omega arith in
    let lines : p.line ≡ p.line + 0 = omega arith in
    λ i. record { file = p.file; byte = bytes i; line = lines i }

in_place : (p : Place) (bytes : List ℕ) (tokens : List Token) → Lexes p bytes tokens → AllByRecursion (IsTokenOf p bytes) tokens
in_place p bytes tokens end = tt
in_place p bytes tokens (gap {t = t} {rest = r} l g d) = all_later p bytes t r tokens l.parts (in_place (behind t p) r tokens d)
in_place p bytes tokens (token {t = t} {rest = r} {tokens = ts} l s d) = (
  record { before = []; spelling = t; others = r; parts = l.parts; spells = s; placed = behind_nothing p },
  all_later p bytes t r ts l.parts (in_place (behind t p) r ts d),
)

pub tokens_in_place : (p : Place) (bytes : List ℕ) (tokens : List Token) → Lexes p bytes tokens → All (IsTokenOf p bytes) tokens
tokens_in_place p bytes tokens d = All-from_recursion (IsTokenOf p bytes) tokens (in_place p bytes tokens d)

moved : (p q : Place) (f : LexFault) → p ≡ q → IsFaultAt p f → IsFaultAt q f
moved p q f e h = subst (λ x. IsFaultAt x f) e h

pub fault_in_place : (p : Place) (bytes : List ℕ) (fault : LexFault) → FirstFault p bytes fault → (before : List ℕ) × (others : List ℕ)
    × (bytes ≡ before ++ others) × IsFaultAt (behind before p) fault
fault_in_place p bytes fault (bad_byte ne none) = ([], _, refl, behind_nothing p)
fault_in_place p bytes fault (open_string i e h) = ([], bytes, refl, behind_nothing p)
fault_in_place p bytes fault (too_great l g) = ([], bytes, refl, behind_nothing p)
fault_in_place p bytes fault (gap {t = t} {rest = r} l g d) =
    let q = fault_in_place (behind t p) r fault d in
    (t ++ q.0, q.1, l.parts ∙ ap (λ x. t ++ x) q.2 ∙ sym (append_assoc t q.0 q.1), moved _ _ fault (behind_both t q.0 p) q.3)
fault_in_place p bytes fault (token {t = t} {rest = r} l s d) =
    let q = fault_in_place (behind t p) r fault d in
    (t ++ q.0, q.1, l.parts ∙ ap (λ x. t ++ x) q.2 ∙ sym (append_assoc t q.0 q.1), moved _ _ fault (behind_both t q.0 p) q.3)
