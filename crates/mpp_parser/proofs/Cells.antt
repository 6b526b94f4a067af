-- Single tokens, cells, numbers and kinds: parsing yields exactly what the tokens spell.
use Rattle.std.proofs.Common.{◌≡◌, ℕ, Bool, true, false, cond, List, [], ◌∷◌, length, Option, Some, None, codes, refl, sym, ap, ◌∙◌, subst, arith}
use Rattle.std.specs.Str.{bytes_eq}
use Rattle.std.proofs.lemmas.Slice.Eq.{bytes_eq-Decides}
use denote.Enum.Bare.{sameb, same_true}
use Rattle.mpp_lexer.specs.declared.piece.DriverPiece.{DriverPiece}
use Rattle.mpp_lexer.specs.declared.piece.DriverPiece.TheVariants.{Word, Number, Sign}
use Rattle.mpp_lexer.specs.declared.piece.DriverSign.TheVariants.{OpenParen, CloseParen, OpenBracket, CloseBracket, Comma, Assign}
use Rattle.mpp_parser.specs.contracts.keyword.Keyword.{the_type}
use Rattle.mpp_parser.specs.declared.keyword.Keyword.{Keyword}
use Rattle.mpp_parser.specs.declared.term.CellName.{CellName}
use Rattle.mpp_parser.specs.declared.term.Kind.TheVariants.{Attribute}
use Rattle.mpp_parser.specs.Keywords.{keyword_of, operator_keyword_of}
use Rattle.mpp_parser.specs.Grammar.{is, key, found, tax_benefit, SpellsCell, plain, indexed, SpellsNumber, a_number, Listed, listed, SpellsKind}
use Rattle.mpp_parser.specs.Grammar.{benefit, attribute}
use Rattle.mpp_parser.specs.inner.Reading.{sign_at, key_at, number_at, index_of, free, word_of, word_at, bracket_at, cell_rest_at, cell_at, numbers_at}
use Rattle.mpp_parser.specs.inner.Reading.{benefit_of, kind_at, enclosed_at}
use Rattle.m_lexer.specs.Chains.{First}
use Rattle.m_lexer.proofs.ChainSound.{Each, absent, here, bind_each, choose_each, each_from, opened, open_each, Sound, chain_sound}
use Rattle.mpp_parser.proofs.Sound.{sign_each}
use Rattle.m_lexer.proofs.ChainComplete.{Complete, Shrinks, chain_shrinks, chain_complete}
use Rattle.mpp_parser.proofs.Tightness.{Below}
use Rattle.mpp_parser.proofs.Levels.{bracket_closed}

-- Single tokens.
abbrev pub IsKey : Keyword → List DriverPiece → Unit {0} × List DriverPiece → Type 0
IsKey k ts o = (w : List ℕ) × (keyword_of w ≡ Some k) × (ts ≡ Word w ∷ o.1)

pub key_each : (k : Keyword) (ts : List DriverPiece) → Each (IsKey k ts) (key_at k ts)
key_each k ts = each_from (open_each (key k) ts) known
  where
    found_key : (w : List ℕ) (o : Option Keyword) (u : Unit {0}) → keyword_of w ≡ o → found k o ≡ Some u → keyword_of w ≡ Some k
    found_key w None u e f = absurd (cc)
    found_key w (Some j) u e f = e ∙ ap Some (same j (sameb the_type j k) refl f)
      where
        same : (j : Keyword) (b : Bool) → sameb the_type j k ≡ b → cond b (Some tt) None ≡ Some u → j ≡ k
        same j true g h = same_true the_type tt j k g
        same j false g h = absurd (cc)

    is_key : (t : DriverPiece) (u : Unit {0}) (us : List DriverPiece) → key k t ≡ Some u → ts ≡ t ∷ us → IsKey k ts (u, us)
    is_key (Word w) u us e f = (w, found_key w (keyword_of w) u refl e, f)
    is_key (Number z v) u us e f = absurd (cc)
    is_key (Sign s) u us e f = absurd (cc)

    known : (o : Unit {0} × List DriverPiece) → First (key k) o.0 ts o.1 → IsKey k ts o
    known o h = let f = opened h in is_key f.0 o.0 o.1 f.1 f.2

abbrev pub IsFree : List DriverPiece → List ℕ × List DriverPiece → Type 0
IsFree ts o = (keyword_of o.0 ≡ None) × (ts ≡ Word o.0 ∷ o.1)

pub word_each : (ts : List DriverPiece) → Each (IsFree ts) (word_at ts)
word_each ts = each_from (open_each word_of ts) known
  where
    free_word : (w v : List ℕ) (o : Option Keyword) → keyword_of w ≡ o → free w o ≡ Some v → (keyword_of v ≡ None) × (w ≡ v)
    free_word w v None e f = let same : w ≡ v = cc in (subst (λ x. keyword_of x ≡ None) same e, same)
    free_word w v (Some k) e f = absurd (cc)

    is_free : (t : DriverPiece) (v : List ℕ) (us : List DriverPiece) → word_of t ≡ Some v → ts ≡ t ∷ us → IsFree ts (v, us)
    is_free (Word w) v us e f = let h = free_word w v (keyword_of w) refl e in (h.0, f ∙ ap (λ x. Word x ∷ us) h.1)
    is_free (Number z u) v us e f = absurd (cc)
    is_free (Sign s) v us e f = absurd (cc)

    known : (o : List ℕ × List DriverPiece) → First word_of o.0 ts o.1 → IsFree ts o
    known o h = let f = opened h in is_free f.0 o.0 o.1 f.1 f.2

pub word_given : (w : List ℕ) (ts : List DriverPiece) → keyword_of w ≡ None → word_at (Word w ∷ ts) ≡ Some (w, ts)
word_given w ts e = rw e refl

pub key_given : (k : Keyword) (w : List ℕ) (ts : List DriverPiece) → keyword_of w ≡ Some k → found k (Some k) ≡ Some tt → key_at k (Word w ∷ ts) ≡ Some (tt, ts)
key_given k w ts e f = rw (e, f) refl

-- Cells.
pub cell_rest_sound : (w : List ℕ) (ts : List DriverPiece) → keyword_of w ≡ None → Each (λ (c : CellName × List DriverPiece). SpellsCell c.0 (Word w ∷ ts) c.1)
    (cell_rest_at w ts)
unfolding cell_rest_at bracket_at
cell_rest_sound w ts e =
    choose_each (sign_each OpenBracket ts) (here (plain e)) (λ o g.
    bind_each (bind_each (open_each index_of o.1) (λ n h. bind_each (sign_each CloseBracket n.1) (λ r i. here (closed o g n h r i)))) (λ n h. here h))
  where
    an_index : (t : DriverPiece) (n : ℕ) (us : List DriverPiece) → index_of t ≡ Some n
        → SpellsCell (record { name = w; index = Some n }) (Word w ∷ Sign OpenBracket ∷ t ∷ Sign CloseBracket ∷ us) us
    an_index (Number z u) n us f = indexed e f
    an_index (Word v) n us f = absurd (cc)
    an_index (Sign s) n us f = absurd (cc)

    closed : (o : Unit {0} × List DriverPiece) → ts ≡ Sign OpenBracket ∷ o.1 → (n : ℕ × List DriverPiece) → First index_of n.0 o.1 n.1
        → (r : Unit {0} × List DriverPiece) → n.1 ≡ Sign CloseBracket ∷ r.1 → SpellsCell (record { name = w; index = Some n.0 }) (Word w ∷ ts) r.1
    closed o g n h r i = let f = opened h in subst (λ us. SpellsCell (record { name = w; index = Some n.0 }) (Word w ∷ us) r.1)
        (sym (g ∙ ap (λ us. Sign OpenBracket ∷ us) (f.2 ∙ ap (λ us. f.0 ∷ us) i))) (an_index f.0 n.0 r.1 f.1)

pub cell_sound : Sound SpellsCell cell_at
unfolding cell_at
cell_sound ts =
    bind_each (word_each ts) (λ w h.
    each_from (cell_rest_sound w.0 w.1 h.0) (λ c d. subst (λ us. SpellsCell c.0 us c.1) (sym h.1) d))

pub cell_shrinks : Shrinks SpellsCell
cell_shrinks _ _ _ (plain e) = omega arith
cell_shrinks _ _ _ (indexed e f) = omega arith

pub cell_complete : Complete (Below 6) SpellsCell cell_at
unfolding cell_at cell_rest_at bracket_at
cell_complete _ _ _ (plain e) h = rw (e, bracket_closed _ h) refl
cell_complete _ _ _ (indexed e f) h = rw (e, f) refl

-- Numbers.
pub number_sound : Sound SpellsNumber number_at
number_sound [] = absent
number_sound (Number z t ∷ ts) = here a_number
number_sound (Word w ∷ ts) = absent
number_sound (Sign s ∷ ts) = absent

pub number_shrinks : Shrinks SpellsNumber
number_shrinks _ _ _ a_number = omega arith

pub number_complete : Complete (λ _. Unit {0}) SpellsNumber number_at
number_complete _ _ _ a_number h = refl

pub numbers_sound : Sound (Listed SpellsNumber) numbers_at
unfolding numbers_at
numbers_sound ts =
    bind_each (number_sound ts) (λ z d.
    each_from (chain_sound (is Comma) (λ _ x. x) SpellsNumber number_at number_sound _ _ _) (λ zs c.
    subst (λ l. Listed SpellsNumber l ts zs.1) (sym c.all) (listed d c.chain)))

pub numbers_complete : Complete (λ ts. sign_at Comma ts ≡ None) (Listed SpellsNumber) numbers_at
unfolding numbers_at
numbers_complete _ _ _ (listed {x = z} {mid = mid} d c) h =
    rw (number_complete _ _ _ d tt) (chain_complete (is Comma) (λ _ x. x) SpellsNumber number_shrinks number_at (λ _. Unit {0}) (λ ts. sign_at Comma ts ≡ None)
    number_complete (λ t b ts e. tt) (λ ts h. tt) (λ ts h. h) (length mid) (z ∷ []) c h (omega arith))

-- Kinds.
pub benefit_each : (w : List ℕ) → Each (λ k. (w ≡ codes "taxbenefit") × (k ≡ tax_benefit)) (benefit_of w)
unfolding benefit_of
benefit_each w = go (bytes_eq w (codes "taxbenefit")) refl
  where
    go : (b : Bool) → bytes_eq w (codes "taxbenefit") ≡ b → Each (λ k. (w ≡ codes "taxbenefit") × (k ≡ tax_benefit)) (cond b (Some tax_benefit) None)
    go true e = here ((bytes_eq-Decides w (codes "taxbenefit")).0 e, refl)
    go false e = absent

pub kind_sound : Sound SpellsKind kind_at
unfolding kind_at
kind_sound ts =
    bind_each (word_each ts) (λ w h.
    choose_each (sign_each Assign w.1)
    (bind_each (benefit_each w.0) (λ k b. here (subst (λ us. SpellsKind k us w.1) (sym (h.1 ∙ ap (λ v. Word v ∷ w.1) b.0))
    (subst (λ j. SpellsKind j (Word (codes "taxbenefit") ∷ w.1) w.1) (sym b.1) benefit))))
    (λ o g. bind_each (numbers_sound o.1) (λ zs d. here (subst (λ us. SpellsKind (Attribute w.0 zs.0) us zs.1) (sym (h.1 ∙ ap (λ us. Word w.0 ∷ us) g))
    (attribute h.0 d)))))

pub kind_shrinks : Shrinks SpellsKind
kind_shrinks _ _ _ benefit = omega arith
kind_shrinks _ _ _ (attribute e (listed d c)) = omega (arith, number_shrinks _ _ _ d, chain_shrinks (is Comma) (λ _ x. x) SpellsNumber number_shrinks c)

-- neither `,` nor `=` continues a kind
abbrev pub EndsKind : List DriverPiece → Type 0
EndsKind ts = (sign_at Comma ts ≡ None) × (sign_at Assign ts ≡ None)

pub free_benefit : keyword_of (codes "taxbenefit") ≡ None
unfolding keyword_of operator_keyword_of
free_benefit = refl

pub kind_complete : Complete EndsKind SpellsKind kind_at
unfolding kind_at benefit_of
kind_complete _ _ _ benefit h = rw (free_benefit, h.1) refl
kind_complete _ _ _ (attribute e d) h = rw (e, numbers_complete _ _ _ d h.0) refl

-- A cell or a kind in brackets.
module _ {A : Type 0} (R : A → List DriverPiece → List DriverPiece → Type 0) (p : List DriverPiece → Option (A × List DriverPiece)) where
  pub enclosed_sound : Sound R p → (ts : List DriverPiece)
      → Each (λ (x : A × List DriverPiece). (us : List DriverPiece) × (ts ≡ Sign OpenParen ∷ us) × R x.0 us (Sign CloseParen ∷ x.1)) (enclosed_at p ts)
  unfolding enclosed_at
  enclosed_sound sound ts =
      bind_each (sign_each OpenParen ts) (λ o g.
      bind_each (sound o.1) (λ x d.
      bind_each (sign_each CloseParen x.1) (λ r h.
      here (o.1, g, subst (λ us. R x.0 o.1 us) h d))))

  pub enclosed_complete : (S : List DriverPiece → Type 0) → Complete S R p → {x : A} {ts rest : List DriverPiece} → R x ts (Sign CloseParen ∷ rest)
      → S (Sign CloseParen ∷ rest) → enclosed_at p (Sign OpenParen ∷ ts) ≡ Some (x, rest)
  unfolding enclosed_at
  enclosed_complete S complete d h = rw (complete _ _ _ d h) refl
