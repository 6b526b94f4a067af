-- Values by turns on a base without cycles: each chain of reads ends within as many turns as there
-- are definitions.
use Rattle.std.proofs.Common.{◌≡◌, ℕ, zero, suc, ◌+◌, ◌<◌, ◌≤◌, true, false, cond, nat_eq, List, [], ◌∷◌, length, map, Option, Some, None, refl, ap, sym, ◌∙◌}
use Rattle.std.proofs.Common.{subst, add-one, arith}
use mathlib.Core.Bool.{◌||◌}
use Rattle.std.specs.Option.{option_map_or, IsSomeAnd}
use Rattle.std.proofs.Math.ListN.{length-map}
use Rattle.micro_m.specs.Trees.{Tree}
use Rattle.micro_m.specs.declared.base.Base.{Base}
use Rattle.micro_m.specs.Bases.{Definition, is_among, AreDistinctCells, targets_of, definition_among, definition_of}
use Rattle.micro_m.specs.Values.{Environment, term_value, value_in, value_of, IsSolution}
use Rattle.micro_m.specs.Reads.{TermReads, Reads, LeadsTo, IsCycle, HasNoCycle}
use Rattle.micro_m.proofs.NumberLemmas.{clash, same, itself, cases, or-true, length-le_from_among}
use Rattle.micro_m.proofs.TermLemmas.{term_value-same}

pub option_cases : {X : Type 0} (o : Option X) {P : Type 0} → (o ≡ None → P) → ((x : X) → o ≡ Some x → P) → P
option_cases None n s = n refl
option_cases (Some x) n s = s x refl

-- ---- paths of reads

-- The first of these cells reads x, the second reads the first, and so on.
abbrev pub Path : Base → ℕ → List ℕ → Type 0
Path base x [] = Unit {0}
Path base x (p ∷ ps) = Reads base p x × Path base p ps

-- a cell that reads another has a definition
reads-among : (ds : List Definition) (x : ℕ) (P : Tree → Type 0) → IsSomeAnd (definition_among ds x) P → is_among x (map (λ d. d.0) ds) ≡ true
reads-among [] x P r = absurd r
reads-among (d ∷ ds) x P r = cases (nat_eq x d.0)
    (λ (t : nat_eq x d.0 ≡ true). ap (λ b. b || is_among x (map (λ d. d.0) ds)) t)
    (λ (f : nat_eq x d.0 ≡ false). or-true (nat_eq x d.0) (is_among x (map (λ d. d.0) ds))
    (reads-among ds x P (subst (λ b. IsSomeAnd (cond b (Some d.1) (definition_among ds x)) P) f r)))

path-among : (base : Base) (x : ℕ) (ps : List ℕ) → Path base x ps → (q : ℕ) → is_among q ps ≡ true → is_among q (targets_of base) ≡ true
path-among base x [] path q h = absurd (cc)
path-among base x (p ∷ ps) path q h = cases (nat_eq q p)
    (λ (t : nat_eq q p ≡ true). subst (λ n. is_among n (targets_of base) ≡ true) (sym (same q p t))
    (reads-among base.definitions p (λ t. TermReads t x) path.0))
    (λ (f : nat_eq q p ≡ false). path-among base p ps path.1 q (ap (λ b. b || is_among q ps) (sym f) ∙ h))

-- a path of distinct cells is at most as long as the list of definitions
pub path-length : (base : Base) (x : ℕ) (ps : List ℕ) → Path base x ps → AreDistinctCells ps → length ps ≤ length base.definitions
path-length base x ps path d =
    let low = length-le_from_among ps (targets_of base) d (path-among base x ps path) in
    let all : length (targets_of base) ≡ length base.definitions = length-map base.definitions (λ (d : Definition). d.0) in
    omega arith

-- From y through `back` to x, and a path of further cells that leads to y: if x is one of these, it
-- is on a cycle.
closes : (base : Base) (x y : ℕ) (back ps : List ℕ) → LeadsTo (Reads base) y back x → Path base y ps → AreDistinctCells (y ∷ back) → AreDistinctCells ps
    → ((q : ℕ) → is_among q ps ≡ true → is_among q (y ∷ back) ≡ false) → is_among x (y ∷ ps) ≡ true → (cells : List ℕ) × IsCycle (Reads base) cells
closes base x y back [] leads path distinct ds apart here =
    let is : x ≡ y = same x y (cases (nat_eq x y) (λ (t : nat_eq x y ≡ true). t) (λ (f : nat_eq x y ≡ false). absurd (cc))) in
    (y ∷ back, (distinct, subst (λ n. LeadsTo (Reads base) y back n) is leads))
closes base x y back (p ∷ ps) leads path distinct ds apart here = cases (nat_eq x y)
    (λ (t : nat_eq x y ≡ true). (y ∷ back, (distinct, subst (λ n. LeadsTo (Reads base) y back n) (same x y t) leads)))
    (λ (f : nat_eq x y ≡ false). closes base x p (y ∷ back) ps (path.0, leads) path.1
    (apart p (ap (λ b. b || is_among p ps) (itself p)), distinct) ds.1
    (λ q h. cases (nat_eq q p)
    (λ (t : nat_eq q p ≡ true). absurd (clash (subst (λ n. is_among n ps ≡ true) (same q p t) h) ds.0))
    (λ (g : nat_eq q p ≡ false). ap (λ b. b || is_among q (y ∷ back)) g ∙ apart q (or-true (nat_eq q p) (is_among q ps) h)))
    (ap (λ b. b || is_among x (p ∷ ps)) (sym f) ∙ here))

-- without a cycle, a cell that a path reads isn't on the path
pub off-path : (base : Base) (x : ℕ) (ps : List ℕ) → HasNoCycle base → Path base x ps → AreDistinctCells ps → is_among x ps ≡ false
off-path base x [] free path ds = refl
off-path base x (p ∷ ps) free path ds = cases (is_among x (p ∷ ps))
    (λ (t : is_among x (p ∷ ps) ≡ true).
    let found = closes base x p [] ps path.0 path.1 (refl, tt) ds.1
    (λ q h. cases (nat_eq q p)
    (λ (s : nat_eq q p ≡ true). absurd (clash (subst (λ n. is_among n ps ≡ true) (same q p s) h) ds.0))
    (λ (g : nat_eq q p ≡ false). ap (λ b. b || false) g)) t in
    absurd (free found.0 found.1))
    (λ (f : is_among x (p ∷ ps) ≡ false). f)

-- ---- values

-- each turn computes the definitions from the values of the turn before
abbrev pub Follows : Base → Environment → (ℕ → Environment) → Type 0
Follows base given e = (n c : ℕ) → e (suc n) c ≡ option_map_or (term_value (e n)) (definition_of base c) (given c)

-- two such maps agree at a cell if, one turn before, they agree at all cells that it reads
agree-step : (base : Base) (given : Environment) (e f : ℕ → Environment) → Follows base given e → Follows base given f → (m n x : ℕ)
    → ((y : ℕ) → Reads base x y → e m y ≡ f n y) → e (suc m) x ≡ f (suc n) x
agree-step base given e f by_e by_f m n x before =
    option_cases (definition_of base x)
    (λ (none : definition_of base x ≡ None).
    by_e m x ∙ ap (λ o. option_map_or (term_value (e m)) o (given x)) none
    ∙ sym (by_f n x ∙ ap (λ o. option_map_or (term_value (f n)) o (given x)) none))
    (λ t (some : definition_of base x ≡ Some t).
    by_e m x ∙ ap (λ o. option_map_or (term_value (e m)) o (given x)) some
    ∙ term_value-same t (e m) (f n) (λ y r. before y (subst (λ o. IsSomeAnd o (λ u. TermReads u y)) (sym some) r))
    ∙ sym (by_f n x ∙ ap (λ o. option_map_or (term_value (f n)) o (given x)) some))

one_less : (k n : ℕ) → suc k ≤ n → (j : ℕ) × (n ≡ suc j) × (k ≤ j)
one_less k zero h = absurd (omega arith)
one_less k (suc j) h = (j, refl, omega arith)

-- Two such maps agree at a cell after as many turns as there are definitions that aren't on a path
-- that leads to it.
pub agree : (base : Base) (given : Environment) (e f : ℕ → Environment) → HasNoCycle base → Follows base given e → Follows base given f
    → (fuel x : ℕ) (ps : List ℕ) → Path base x ps → AreDistinctCells ps → length base.definitions ≤ length ps + fuel → (m n : ℕ) → fuel ≤ m → fuel ≤ n
    → e (suc m) x ≡ f (suc n) x
agree base given e f free by_e by_f zero x ps path ds enough m n hm hn =
    agree-step base given e f by_e by_f m n x (λ y r.
    let long : length (x ∷ ps) ≤ length base.definitions = path-length base y (x ∷ ps) (r, path) (off-path base x ps free path ds, ds) in
    absurd (omega arith))
agree base given e f free by_e by_f (suc fuel) x ps path ds enough m n hm hn =
    let i = one_less fuel m hm in
    let j = one_less fuel n hn in
    agree-step base given e f by_e by_f m n x (λ y r.
    ap (λ k. e k y) i.1
    ∙ agree base given e f free by_e by_f fuel y (x ∷ ps) (r, path) (off-path base x ps free path ds, ds) (omega arith) i.0 j.0 i.2 j.2
    ∙ sym (ap (λ k. f k y) j.1))

value_in-follows : (base : Base) (given : Environment) → Follows base given (value_in base given)
value_in-follows base given n c = refl

-- ---- the laws

pub further_turns : (base : Base) (given : Environment) → HasNoCycle base → (turns c : ℕ) → length base.definitions < turns
    → value_in base given turns c ≡ value_of base given c
further_turns base given free turns c h =
    let i = one_less (length base.definitions) turns h in
    ap (λ k. value_in base given k c) i.1
    ∙ agree base given (value_in base given) (value_in base given) free (value_in-follows base given) (value_in-follows base given)
    (length base.definitions) c [] tt tt (omega arith) i.0 (length base.definitions) i.2 (omega arith)
    ∙ ap (λ k. value_in base given k c) (sym (add-one (length base.definitions)))

pub values-solve : (base : Base) (given : Environment) → HasNoCycle base → IsSolution base given (value_of base given)
values-solve base given free c =
    let more : value_in base given (suc (suc (length base.definitions))) c ≡ value_of base given c = further_turns base given free
    (suc (suc (length base.definitions))) c (omega arith) in
    let now : value_in base given (suc (length base.definitions)) ≡ value_of base given = ap (λ k. value_in base given k)
    (sym (add-one (length base.definitions))) in
    sym more ∙ ap (λ e. option_map_or (term_value e) (definition_of base c) (given c)) now

pub one-solution : (base : Base) (given values : Environment) → HasNoCycle base → IsSolution base given values → (c : ℕ) → values c ≡ value_of base given c
one-solution base given values free solves c =
    agree base given (λ n. values) (value_in base given) free (λ n x. solves x) (value_in-follows base given)
    (length base.definitions) c [] tt tt (omega arith) (length base.definitions) (length base.definitions) (omega arith) (omega arith)
    ∙ ap (λ k. value_in base given k c) (sym (add-one (length base.definitions)))
