-- The law of lines: parsing as many commands as there are yields the longest prefix that spells
-- commands, and with that rest the lines spell one list of commands.
use Rattle.std.proofs.Common.{◌≡◌, ◌⊎◌, ℕ, zero, suc, ◌<◌, ◌≤◌, List, [], ◌∷◌, ◌++◌, length, Option, Some, None, refl, sym, ap, ◌∙◌, subst, append_assoc, arith}
use Rattle.std.proofs.Common.{inl, inr}
use Rattle.std.proofs.lemmas.Bool.{cases_lt}
use Rattle.std.proofs.lemmas.List.{append-nil}
use Rattle.mpp_lexer.specs.declared.piece.Line.{Line}
use Rattle.mpp_parser.specs.Drivers.{Many, no_more, one_more}
use Rattle.m_lexer.specs.inner.Chains.{choose}
use Rattle.mpp_parser.specs.inner.Blocks.{many_at}
use Rattle.m_lexer.proofs.ChainSound.{Each, absent, here}

-- lines of a kind, up to a rest
pub data Front (P : Line → Type 0) : List Line → List Line → Type 0 where
  stop : {ls : List Line} → Front P ls ls
  go_on : {l : Line} {ls rest : List Line} → P l → Front P ls rest → Front P (l ∷ ls) rest

pub front_then : {P : Line → Type 0} {ls mid rest : List Line} → Front P ls mid → Front P mid rest → Front P ls rest
front_then stop g = g
front_then (go_on p f) g = go_on p (front_then f g)

pub front_weaker : {P Q : Line → Type 0} {ls rest : List Line} → ((l : Line) → P l → Q l) → Front P ls rest → Front Q ls rest
front_weaker w stop = stop
front_weaker w (go_on p f) = go_on (w _ p) (front_weaker w f)

pub front_shrinks : {P : Line → Type 0} {ls rest : List Line} → Front P ls rest → length rest ≤ length ls
front_shrinks stop = omega arith
front_shrinks (go_on p f) = omega (arith, front_shrinks f)

-- a longer rest begins with a line of the kind, and one of the same length is the same
pub record Begins (P : Line → Type 0) (ls : List Line) : Type 0 where
  pub line : Line
  pub others : List Line
  pub parts : ls ≡ line ∷ others
  pub kind : P line

pub front_begins : {P Q : Line → Type 0} {ls m r : List Line} → Front P ls m → Front Q ls r → length m < length r → Begins P r
front_begins {r = r} stop g h = absurd (omega (arith, front_shrinks g))
front_begins (go_on {l = l} {ls = ls} p f) stop h = record { line = l; others = ls; parts = refl; kind = p }
front_begins (go_on p f) (go_on q g) h = front_begins f g h

pub front_same : {P Q : Line → Type 0} {ls m r : List Line} → Front P ls m → Front Q ls r → length m ≡ length r → m ≡ r
front_same stop stop h = refl
front_same stop (go_on q g) h = absurd (omega (arith, front_shrinks g))
front_same (go_on p f) stop h = absurd (omega (arith, front_shrinks f))
front_same (go_on p f) (go_on q g) h = front_same f g h

-- what the parser yields, the lines spell
abbrev pub Sound : {A : Type 0} → (A → List Line → List Line → Type 0) → (List Line → Option (A × List Line)) → Type 0
Sound R p = (ls : List Line) → Each (λ x. R x.0 ls x.1) (p ls)

-- a parser goes at least as far as a spelling, and yields the same if it goes as far
pub record Reaches {A : Type 0} (o : Option (A × List Line)) (y : A) (r : List Line) : Type 0 where
  pub tree : A
  pub rest : List Line
  pub reads : o ≡ Some (tree, rest)
  pub far : length rest ≤ length r
  pub same : length rest ≡ length r → (tree ≡ y) × (rest ≡ r)

abbrev pub Greedy : {A : Type 0} → (A → List Line → List Line → Type 0) → (List Line → Option (A × List Line)) → Type 0
Greedy {A} R p = (y : A) (ls r : List Line) → R y ls r → Reaches (p ls) y r

abbrev pub Shrinks : {A : Type 0} → (A → List Line → List Line → Type 0) → Type 0
Shrinks {A} R = (y : A) (ls r : List Line) → R y ls r → length r < length ls

-- after a shorter spelling of what is parsed nothing of the kind begins
abbrev pub Apart : {A : Type 0} → (A → List Line → List Line → Type 0) → (List Line → Option (A × List Line)) → Type 0
Apart {A} R p = (y x z : A) (ls r m s : List Line) → R y ls r → p ls ≡ Some (x, m) → length m < length r → R z r s → ⊥

found_at : {A : Type 0} (P : A × List Line → Type 0) {o : Option (A × List Line)} {x : A} {m : List Line} → Each P o → o ≡ Some (x, m) → P (x, m)
found_at P absent e = absurd (cc)
found_at P {x = x} {m = m} (here {x = w} d) e = let same : w ≡ (x, m) = cc in subst P same d

-- the result of many_at
pub record ManyRead {A : Type 0} (R : A → List Line → List Line → Type 0) (done : List A) (ls : List Line) (out : List A × List Line) : Type 0 where
  pub others : List A
  pub all : out.0 ≡ done ++ others
  pub many : Many R others ls out.1

-- it goes at least as far as these, and yields these if it goes as far
pub record ManyReaches {A : Type 0} (out : List A × List Line) (done : List A) (ys : List A) (r : List Line) : Type 0 where
  pub far : length out.1 ≤ length r
  pub same : length out.1 ≡ length r → (out.0 ≡ done ++ ys) × (out.1 ≡ r)

module _ {A : Type 0} (R : A → List Line → List Line → Type 0) (p : List Line → Option (A × List Line)) (sound : Sound R p) (shrinks : Shrinks R) where
  pub read_is : {ls m : List Line} {x : A} → p ls ≡ Some (x, m) → R x ls m
  read_is {ls = ls} e = found_at (λ x. R x.0 ls x.1) (sound ls) e

  pub many_sound : (n : ℕ) (done : List A) (ls : List Line) → ManyRead R done ls (many_at p n done ls)
  unfolding many_at
  many_sound zero done ls = record { others = []; all = sym (append-nil done); many = no_more }
  many_sound (suc n) done ls = step (λ x. many_sound n (done ++ x.0 ∷ []) x.1) (p ls) refl
    where
      step : ((x : A × List Line) → ManyRead R (done ++ x.0 ∷ []) x.1 (many_at p n (done ++ x.0 ∷ []) x.1)) → (o : Option (A × List Line)) → p ls ≡ o
          → ManyRead R done ls (choose o (done, ls) (λ x. many_at p n (done ++ x.0 ∷ []) x.1))
      step again None e = record { others = []; all = sym (append-nil done); many = no_more }
      step again (Some x) e =
          let q = again x in
          record { others = x.0 ∷ q.others; all = q.all ∙ append_assoc done (x.0 ∷ []) q.others; many = one_more (read_is e) q.many }

  pub many_shrinks : {ys : List A} {ls r : List Line} → Many R ys ls r → length r ≤ length ls
  many_shrinks no_more = omega arith
  many_shrinks (one_more d e) = omega (arith, shrinks _ _ _ d, many_shrinks e)

  module _ (greedy : Greedy R p) (apart : Apart R p) where
    nothing_more : (n : ℕ) (done : List A) (ls : List Line) → ManyReaches (many_at p (suc n) done ls) done [] ls
    unfolding many_at
    nothing_more n done ls = step (p ls) refl
      where
        step : (o : Option (A × List Line)) → p ls ≡ o → ManyReaches (choose o (done, ls) (λ x. many_at p n (done ++ x.0 ∷ []) x.1)) done [] ls
        step None e = record { far = omega arith; same = λ f. (sym (append-nil done), refl) }
        step (Some x) e =
            let q = many_sound n (done ++ x.0 ∷ []) x.1 in
            let short = many_shrinks q.many in
            let less = shrinks _ _ _ (read_is e) in
            record { far = omega (arith, short, less); same = λ f. absurd (omega (arith, short, less, f)) }

    stops_before : (out : List A × List Line) (done : List A) (y : A) (zs : List A) (ls mid r : List Line) (g : Reaches (p ls) y mid) → R y ls mid
        → length g.rest < length mid → length out.1 ≤ length g.rest → Many R zs mid r → ManyReaches out done (y ∷ zs) r
    stops_before out done y zs ls mid r g d less short no_more = record { far = omega (arith, short, less); same = λ f. absurd (omega (arith, short, less, f)) }
    stops_before out done y zs ls mid r g d less short (one_more c k) = absurd (apart _ _ _ ls mid g.rest _ d g.reads less c)

    further_on : (n : ℕ) (done : List A) (y : A) (ys : List A) (ls mid r : List Line) (g : Reaches (p ls) y mid) → R y ls mid → Many R ys mid r → length mid ≤ n
        → ((m : List Line) → Many R ys m r → length m ≤ n → ManyReaches (many_at p n (done ++ g.tree ∷ []) m) (done ++ g.tree ∷ []) ys r)
        → ManyReaches (many_at p n (done ++ g.tree ∷ []) g.rest) done (y ∷ ys) r
    further_on n done y ys ls mid r g d e h again = step (cases_lt (length g.rest) (length mid))
      where
        short : length (many_at p n (done ++ g.tree ∷ []) g.rest).1 ≤ length g.rest
        short = many_shrinks (many_sound n (done ++ g.tree ∷ []) g.rest).many

        step : (length g.rest < length mid) ⊎ (length mid ≤ length g.rest) → ManyReaches (many_at p n (done ++ g.tree ∷ []) g.rest) done (y ∷ ys) r
        step (inl less) = stops_before (many_at p n (done ++ g.tree ∷ []) g.rest) done y ys ls mid r g d less short e
        step (inr more) =
            let at = g.same (omega (arith, g.far, more)) in
            let q = again g.rest (subst (λ m. Many R ys m r) (sym at.1) e) (omega (arith, g.far, h)) in
            record { far = q.far; same = λ f. ((q.same f).0 ∙ append_assoc done (g.tree ∷ []) ys ∙ ap (λ t. done ++ t ∷ ys) at.0, (q.same f).1) }

    pub many_greedy : (n : ℕ) (done : List A) {ys : List A} {ls r : List Line} → Many R ys ls r → length ls ≤ n → ManyReaches (many_at p n done ls) done ys r
    unfolding many_at
    many_greedy zero done no_more h = record { far = omega arith; same = λ e. (sym (append-nil done), refl) }
    many_greedy zero done (one_more d e) h = absurd (omega (arith, shrinks _ _ _ d))
    many_greedy (suc n) done {ls = ls} no_more h = nothing_more n done ls
    many_greedy (suc n) done {r = r} (one_more {x = y} {xs = ys} {ls = ls} {mid = mid} d e) h =
        let g = greedy y ls mid d in
        rw g.reads (further_on n done y ys ls mid r g d e (omega (arith, shrinks _ _ _ d, h)) (λ m k l. many_greedy n (done ++ g.tree ∷ []) k l))
