-- Headers: reading is sound and complete for the grammar, if the next token can't continue the
-- header.
use Rattle.std.proofs.Common.{◌≡◌, ◌<◌, ℕ, Bool, true, false, List, [], ◌∷◌, Option, Some, None, refl, sym, subst, lit<, arith}
use Rattle.m_places.specs.declared.place.Place.{Place}
use Rattle.m_lexer.specs.declared.token.Token.{Token}
use Rattle.m_lexer.specs.declared.token.Kind.{Kind}
use Rattle.m_lexer.specs.declared.token.Kind.TheVariants.{Key, Sign}
use Rattle.m_lexer.specs.declared.token.Key.TheVariants as keys
use Rattle.m_lexer.specs.declared.token.Sign.TheVariants as signs
use Rattle.m_ast.specs.declared.header.Header.{Header}
use Rattle.m_ast.specs.declared.header.Index.{Index}
use Rattle.m_ast.specs.declared.header.Span.{Span}
use Rattle.m_terms.specs.declared.cursor.Mark.TheVariants.{OfKey, OfSign}
use Rattle.m_lexer.specs.Chains.{First, first}
use Rattle.m_terms.specs.Tokens.{is_sign, is_key, kind_is_sign, kind_is_key, Joined, joined}
use Rattle.m_terms.specs.Headers.{point, point_of, letter, letter_of, letter_at_place, index, SpellsSpan, alone, range, SpellsValues, SpellsPlaces, bare}
use Rattle.m_terms.specs.Headers.{bracketed, SpellsAssigned, assigned, SpellsWalked, walked, SpellsHeader, by_signs, by_words}
use Rattle.m_lexer.specs.inner.Chains.{open_at, ◌>>=◌}
use Rattle.m_terms.specs.inner.Reading.{mark_at, joined_at, span_at, values_at, places_at, assigned_at, walked_at, indexes_at, header_from, begins, header_at}
use Rattle.m_lexer.proofs.ChainSound.{Each, absent, here, bind_each, choose_each, each_from, open_each, Sound}
use Rattle.m_terms.proofs.Sound.{mark_each, joined_sound}
use Rattle.m_terms.proofs.Passes.{later, over, skip, Passes, first_passes, joined_passes}
use Rattle.m_lexer.proofs.ChainComplete.{Complete, open_complete}
use Rattle.m_terms.proofs.Complete.{joined_complete}

-- binding strength of a token after a list of spans or members
abbrev pub grip_of : Kind → ℕ
grip_of (Sign signs.Range) = 3
grip_of (Sign signs.Comma) = 2
grip_of (Sign signs.Semicolon) = 1
grip_of (Key keys.Et) = 1
grip_of _ = 0

abbrev pub grip : List Token → ℕ
grip [] = 0
grip (t ∷ ts) = grip_of t.kind

-- the next token binds less than k
abbrev pub Loose : ℕ → List Token → Type 0
Loose k ts = grip ts < k

range_no : (k : Kind) → grip_of k < 3 → kind_is_sign signs.Range k ≡ None
range_no (Sign signs.Range) h = absurd (omega arith)
range_no _ h = refl

comma_no : (k : Kind) → grip_of k < 2 → kind_is_sign signs.Comma k ≡ None
comma_no (Sign signs.Comma) h = absurd (omega arith)
comma_no _ h = refl

semicolon_no : (k : Kind) → grip_of k < 1 → kind_is_sign signs.Semicolon k ≡ None
semicolon_no (Sign signs.Semicolon) h = absurd (omega arith)
semicolon_no _ h = refl

et_no : (k : Kind) → grip_of k < 1 → kind_is_key keys.Et k ≡ None
et_no (Key keys.Et) h = absurd (omega arith)
et_no _ h = refl

pub range_closed : (ts : List Token) → Loose 3 ts → mark_at (OfSign signs.Range) ts ≡ None
range_closed [] h = refl
range_closed (t ∷ ts) h = rw (range_no t.kind h) refl

pub comma_closed : (ts : List Token) → Loose 2 ts → open_at (is_sign signs.Comma) ts ≡ None
comma_closed [] h = refl
comma_closed (t ∷ ts) h = rw (comma_no t.kind h) refl

semicolon_closed : (ts : List Token) → Loose 1 ts → open_at (is_sign signs.Semicolon) ts ≡ None
semicolon_closed [] h = refl
semicolon_closed (t ∷ ts) h = rw (semicolon_no t.kind h) refl

et_closed : (ts : List Token) → Loose 1 ts → open_at (is_key keys.Et) ts ≡ None
et_closed [] h = refl
et_closed (t ∷ ts) h = rw (et_no t.kind h) refl

comma_grips : (k : Kind) (b : Unit {0}) → kind_is_sign signs.Comma k ≡ Some b → grip_of k < 3
comma_grips (Sign signs.Comma) b e = lit< tt
comma_grips _ b e = absurd (cc)

semicolon_grips : (k : Kind) (b : Unit {0}) → kind_is_sign signs.Semicolon k ≡ Some b → grip_of k < 2
semicolon_grips (Sign signs.Semicolon) b e = lit< tt
semicolon_grips _ b e = absurd (cc)

et_grips : (k : Kind) (b : Unit {0}) → kind_is_key keys.Et k ≡ Some b → grip_of k < 2
et_grips (Key keys.Et) b e = lit< tt
et_grips _ b e = absurd (cc)

pub comma_binds : (t : Token) (b : Unit {0}) (ts : List Token) → is_sign signs.Comma t ≡ Some b → Loose 3 (t ∷ ts)
comma_binds t b ts e = comma_grips t.kind b e

-- R { "," R }, for spans and for members
pub commas_complete : {A : Type 0} (R : A → List Token → List Token → Type 0) (p : List Token → Option (A × List Token)) → Passes R → Complete (Loose 3) R p
    → Complete (Loose 2) (Joined (is_sign signs.Comma) R) (joined_at (is_sign signs.Comma) p)
commas_complete R p passes complete = joined_complete (is_sign signs.Comma) R p (Loose 3) (Loose 2) passes complete comma_binds (λ ts h. omega arith)
    comma_closed

-- Spans.
span_sound : Sound SpellsSpan span_at
unfolding span_at
span_sound ts =
    bind_each (open_each point ts) (λ a d.
    choose_each (mark_each (OfSign signs.Range) a.1) (here (alone d)) (λ o g.
    bind_each (open_each point o.1) (λ b f.
    here (range (subst (λ m. First point a.0 ts m) g.1 d) f))))

span_passes : Passes SpellsSpan
span_passes _ _ _ (alone d) = first_passes d
span_passes _ _ _ (range d f) = over (skip (first_passes d)) (first_passes f)

span_complete : Complete (Loose 3) SpellsSpan span_at
unfolding span_at
span_complete _ _ _ (alone d) h = rw (open_complete d, range_closed _ h) refl
span_complete _ _ _ (range d f) h = rw (open_complete d, open_complete f) refl

values_sound : Sound SpellsValues values_at
values_sound = joined_sound (is_sign signs.Comma) SpellsSpan span_at span_sound

values_passes : Passes SpellsValues
values_passes = joined_passes (is_sign signs.Comma) SpellsSpan span_passes

values_complete : Complete (Loose 2) SpellsValues values_at
values_complete = commas_complete SpellsSpan span_at span_passes span_complete

-- Places.
places_sound : Sound SpellsPlaces places_at
unfolding places_at
places_sound ts =
    choose_each (mark_each (OfSign signs.OpenParen) ts) (each_from (values_sound ts) (λ vs d. bare d)) (λ o g.
    bind_each (values_sound o.1) (λ vs d.
    bind_each (mark_each (OfSign signs.CloseParen) vs.1) (λ r h.
    here (subst (λ m. SpellsPlaces vs.0 m r.1) (sym g.1) (bracketed (subst (λ m. SpellsValues vs.0 o.1 m) h.1 d))))))

places_passes : Passes SpellsPlaces
places_passes _ _ _ (bare d) = values_passes _ _ _ d
places_passes _ _ _ (bracketed d) = later (skip (values_passes _ _ _ d))

point_no_open : (k : Kind) (w : List ℕ) → point_of k ≡ Some w → kind_is_sign signs.OpenParen k ≡ None
point_no_open (Sign s) w e = absurd (cc)
point_no_open _ w e = refl

values_no_open : {vs : List Span} {ts rest : List Token} → SpellsValues vs ts rest → mark_at (OfSign signs.OpenParen) ts ≡ None
values_no_open (joined (alone (first {t = t} e)) c) = rw (point_no_open t.kind _ e) refl
values_no_open (joined (range (first {t = t} e) f) c) = rw (point_no_open t.kind _ e) refl

places_complete : Complete (Loose 2) SpellsPlaces places_at
unfolding places_at
places_complete _ _ _ (bare d) h = rw (values_no_open d) (values_complete _ _ _ d h)
places_complete _ _ _ (bracketed d) h = rw (values_complete _ _ _ d (lit< tt)) refl

-- Indexes.
assigned_sound : Sound SpellsAssigned assigned_at
unfolding assigned_at
assigned_sound ts =
    bind_each (open_each letter ts) (λ l d.
    bind_each (mark_each (OfSign signs.Equal) l.1) (λ o g.
    bind_each (values_sound o.1) (λ vs f.
    here (assigned (subst (λ m. First letter l.0 ts m) g.1 d) f))))

assigned_passes : Passes SpellsAssigned
assigned_passes _ _ _ (assigned d f) = over (skip (first_passes d)) (values_passes _ _ _ f)

assigned_complete : Complete (Loose 2) SpellsAssigned assigned_at
unfolding assigned_at
assigned_complete _ _ _ (assigned d f) h = rw (open_complete d, values_complete _ _ _ f h) refl

walked_sound : Sound SpellsWalked walked_at
unfolding walked_at
walked_sound ts =
    bind_each (mark_each (OfKey keys.Un) ts) (λ u e.
    bind_each (open_each letter u.1) (λ l d.
    bind_each (mark_each (OfKey keys.Dans) l.1) (λ o g.
    bind_each (places_sound o.1) (λ vs f.
    here (subst (λ m. SpellsWalked (index l.0 vs.0) m vs.1) (sym e.1) (walked (subst (λ m. First letter l.0 u.1 m) g.1 d) f))))))

walked_passes : Passes SpellsWalked
walked_passes _ _ _ (walked d f) = later (over (skip (first_passes d)) (places_passes _ _ _ f))

walked_complete : Complete (Loose 2) SpellsWalked walked_at
unfolding walked_at
walked_complete _ _ _ (walked d f) h = rw (open_complete d, places_complete _ _ _ f h) refl

-- Headers.
signs_found : (is : List Index) {ts rest : List Token} → Joined (is_sign signs.Semicolon) SpellsAssigned is ts rest
    → Each (λ (h : Header × List Token). SpellsHeader h.0 ts h.1) (header_from is >>= λ h. Some (h, rest))
signs_found [] d = absent
signs_found (i ∷ is) d = here (by_signs d)

words_found : (is : List Index) {ts rest : List Token} → Joined (is_key keys.Et) SpellsWalked is ts rest
    → Each (λ (h : Header × List Token). SpellsHeader h.0 ts h.1) (header_from is >>= λ h. Some (h, rest))
words_found [] d = absent
words_found (i ∷ is) d = here (by_words d)

pub header_sound : Sound SpellsHeader header_at
unfolding header_at
header_sound ts = go (begins (OfKey keys.Un) ts)
  where
    go : (b : Bool) → Each (λ (h : Header × List Token). SpellsHeader h.0 ts h.1) (indexes_at b ts >>= λ is. header_from is.0 >>= λ h. Some (h, is.1))
    go true = bind_each (joined_sound (is_key keys.Et) SpellsWalked walked_at walked_sound ts) (λ is d. words_found is.0 d)
    go false = bind_each (joined_sound (is_sign signs.Semicolon) SpellsAssigned assigned_at assigned_sound ts) (λ is d. signs_found is.0 d)

pub header_passes : Passes SpellsHeader
header_passes _ _ _ (by_signs d) = joined_passes (is_sign signs.Semicolon) SpellsAssigned assigned_passes _ _ _ d
header_passes _ _ _ (by_words d) = joined_passes (is_key keys.Et) SpellsWalked walked_passes _ _ _ d

letter_no_un : (k : Kind) (p : Place) (l : ℕ × Place) → letter_at_place (letter_of k) p ≡ Some l → kind_is_key keys.Un k ≡ None
letter_no_un (Key k) p l e = absurd (cc)
letter_no_un _ p l e = refl

signs_no_un : {is : List Index} {ts rest : List Token} → Joined (is_sign signs.Semicolon) SpellsAssigned is ts rest → begins (OfKey keys.Un) ts ≡ false
signs_no_un (joined (assigned (first {t = t} e) f) c) = rw (letter_no_un t.kind t.place _ e) refl

words_un : {is : List Index} {ts rest : List Token} → Joined (is_key keys.Et) SpellsWalked is ts rest → begins (OfKey keys.Un) ts ≡ true
words_un (joined (walked d f) c) = refl

pub header_complete : Complete (Loose 1) SpellsHeader header_at
unfolding header_at
header_complete _ _ _ (by_signs d) h =
    rw (
      signs_no_un d,
      joined_complete (is_sign signs.Semicolon) SpellsAssigned assigned_at (Loose 2) (Loose 1) assigned_passes assigned_complete
          (λ t b ts e. semicolon_grips t.kind b e) (λ ts h. omega arith) semicolon_closed _ _ _ d h,
    ) refl
header_complete _ _ _ (by_words d) h =
    rw (
      words_un d,
      joined_complete (is_key keys.Et) SpellsWalked walked_at (Loose 2) (Loose 1) walked_passes walked_complete (λ t b ts e. et_grips t.kind b e)
          (λ ts h. omega arith) et_closed _ _ _ d h,
    ) refl
