-- The indentations updated from line to line give each line's level.
use Rattle.std.proofs.Common.{◌≡◌, ◌≤◌, ◌<◌, ℕ, Bool, true, false, ◌||◌, nat_lt, List, [], ◌∷◌, length, get_or, refl, sym, ap, ◌∙◌, arith, inl, inr}
use Rattle.std.specs.List.{remove}
use Rattle.std.proofs.lemmas.Bool.{cases_lt, lt-ltb, le-ltb}
use Rattle.mpp_lexer.specs.declared.piece.Line.{Line}
use Rattle.m_places.specs.declared.limits.TheConstants.{DRIVER_LEVEL}
use Rattle.mpp_parser.specs.Depths.{outer_indents, opens_too_many, is_too_deep, FirstTooDeep, here, later, Shallow, none, next}
use Rattle.mpp_parser.specs.inner.Outers.{left_outers}

-- the indentations of the last line and of its outer lines
abbrev pub chain_of : List Line → List ℕ
chain_of [] = []
chain_of (l ∷ earlier) = l.indent ∷ outer_indents earlier l.indent

not_less : (x i : ℕ) → i ≤ x → nat_lt x i ≡ false
not_less x i h = le-ltb x i h

outers_left : (earlier : List Line) (i m : ℕ) → i ≤ m → left_outers i (outer_indents earlier m) ≡ outer_indents earlier i
outers_left [] i m h = refl
outers_left (l ∷ earlier) i m h = elim (cases_lt l.indent m) [
  | inl less ↦ elim (cases_lt l.indent i) [
    | inl k ↦ rw (lt-ltb l.indent m less, lt-ltb l.indent i k) refl
    | inr k ↦ rw (lt-ltb l.indent m less, not_less l.indent i k) (outers_left earlier i l.indent k)
  ]
  | inr more ↦ rw (not_less l.indent m more, not_less l.indent i (omega arith)) (outers_left earlier i m h)
]

pub chain_left : (earlier : List Line) (i : ℕ) → left_outers i (chain_of earlier) ≡ outer_indents earlier i
chain_left [] i = refl
chain_left (l ∷ earlier) i = elim (cases_lt l.indent i) [
  | inl k ↦ rw (lt-ltb l.indent i k) refl
  | inr k ↦ rw (not_less l.indent i k) (outers_left earlier i l.indent k)
]

-- one indentation less
pub left_more : (xs : List ℕ) (i d : ℕ) → 0 < length xs → i ≤ get_or xs 0 d → left_outers i (remove xs 0) ≡ left_outers i xs
left_more [] i d h k = absurd (omega arith)
left_more (x ∷ xs) i d h k = sym (rw (not_less x i k) refl)

pub left_all : (xs : List ℕ) (i d : ℕ) → 0 < length xs → get_or xs 0 d < i → left_outers i xs ≡ xs
left_all [] i d h k = absurd (omega arith)
left_all (x ∷ xs) i d h k = rw (lt-ltb x i k) refl

-- A walk over lines: the result for the remaining lines is the result for all.
pub record Walked (all : List Line) (outers : List ℕ) (left : List Line) : Type 0 where
  pub earlier : List Line
  pub chain : outers ≡ chain_of earlier
  pub shallow : Shallow earlier left → Shallow [] all
  pub deep : (n : ℕ) → FirstTooDeep earlier left n → FirstTooDeep [] all n

pub walk_start : (all : List Line) (outers : List ℕ) → outers ≡ [] → Walked all outers all
walk_start all outers e = record { earlier = []; chain = e; shallow = λ s. s; deep = λ n d. d }

level_test : (earlier : List Line) (outers kept : List ℕ) (l : Line) (deep : Bool) → outers ≡ chain_of earlier → kept ≡ left_outers l.indent outers
    → deep ≡ (nat_lt DRIVER_LEVEL (length kept) || opens_too_many 0 l.tokens) → deep ≡ is_too_deep earlier l
level_test earlier outers kept l deep e f g = g ∙ ap (λ xs. nat_lt DRIVER_LEVEL (length xs) || opens_too_many 0 l.tokens) (f ∙ ap (left_outers l.indent) e
    ∙ chain_left earlier l.indent)

pub walk_deep : (all : List Line) (outers kept : List ℕ) (l : Line) (left : List Line) (deep : Bool) → Walked all outers (l ∷ left)
    → kept ≡ left_outers l.indent outers → deep ≡ (nat_lt DRIVER_LEVEL (length kept) || opens_too_many 0 l.tokens) → deep ≡ true → FirstTooDeep [] all l.number
walk_deep all outers kept l left deep w f g t = w.deep l.number (here (sym (level_test w.earlier outers kept l deep w.chain f g) ∙ t))

pub walk_turn : (all : List Line) (outers kept : List ℕ) (l : Line) (left : List Line) (deep : Bool) → Walked all outers (l ∷ left)
    → kept ≡ left_outers l.indent outers → deep ≡ (nat_lt DRIVER_LEVEL (length kept) || opens_too_many 0 l.tokens) → deep ≡ false
    → Walked all (l.indent ∷ kept) left
walk_turn all outers kept l left deep w f g t =
    let fine = sym (level_test w.earlier outers kept l deep w.chain f g) ∙ t in
    record {
      earlier = l ∷ w.earlier;
      chain = ap (λ xs. l.indent ∷ xs) (f ∙ ap (left_outers l.indent) w.chain ∙ chain_left w.earlier l.indent);
      shallow = λ s. w.shallow (next fine s);
      deep = λ n d. w.deep n (later fine d);
    }

pub walk_end : (all : List Line) (outers : List ℕ) → Walked all outers [] → Shallow [] all
walk_end all outers w = w.shallow none
