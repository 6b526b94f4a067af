-- Lists by cells, and maps of them.
use Rattle.std.proofs.Common.{◌≡◌, ℕ, zero, suc, ◌+◌, ◌<◌, ◌≤◌, Bool, true, false, eqb, List, [], ◌∷◌, ◌++◌, map, length, get_or, set, take, drop, refl, sym}
use Rattle.std.proofs.Common.{ap, ◌∙◌, subst, ⊎_elim, arith}
use mathlib.Core.Bool.{◌||◌}
use Rattle.std.specs.List.{AllByRecursion}
use Rattle.std.proofs.Math.ListN.{get_or-map}
use Rattle.std.proofs.Math.Seq.{take-append_seam}
use Rattle.std.proofs.lemmas.Bool.{cases_lt, eqb-true, eqb-false, false≢true}
use Rattle.std.proofs.lemmas.List.{map-set, get_or-set_same, get_or-set_other, get_or_past, length-set, drop_more}
use Rattle.m_fixed.specs.declared.amount.Value.TheVariants.{Undef}
use Rattle.micro_m.specs.Bases.{is_among}
use Rattle.micro_m.specs.Values.{Environment, environment}
use Rattle.driver_core.specs.Meaning.{Env, with_values, without}
use Rattle.mpp_inline.specs.inner.Cells.{picked, written, received, blanked}
use Rattle.mpp_inline.specs.inner.Growth.{SameBut, SameButSome, cells_of}

-- what holds of each element
pub all-get : {A : Type 0} (P : A → Type 0) (xs : List A) (i : ℕ) (d : A) → P d → AllByRecursion P xs → P (get_or xs i d)
all-get P [] i d z a = z
all-get P (x ∷ xs) zero d z a = a.0
all-get P (x ∷ xs) (suc i) d z a = all-get P xs i d z a.1

pub all-set : {A : Type 0} (P : A → Type 0) (xs : List A) (i : ℕ) (v : A) → P v → AllByRecursion P xs → AllByRecursion P (set xs i v)
all-set P [] i v z a = tt
all-set P (x ∷ xs) zero v z a = (z, a.1)
all-set P (x ∷ xs) (suc i) v z a = (a.0, all-set P xs i v z a.1)

pub all-more : {A : Type 0} (P Q : A → Type 0) → ((x : A) → P x → Q x) → (xs : List A) → AllByRecursion P xs → AllByRecursion Q xs
all-more P Q f [] a = tt
all-more P Q f (x ∷ xs) a = (f x a.0, all-more P Q f xs a.1)

pub all-append : {A : Type 0} (P : A → Type 0) (xs ys : List A) → AllByRecursion P xs → AllByRecursion P ys → AllByRecursion P (xs ++ ys)
all-append P [] ys a b = b
all-append P (x ∷ xs) ys a b = (a.0, all-append P xs ys a.1 b)

pub all-picked : (P : ℕ → Type 0) (d : ℕ) (xs from : List ℕ) → P d → AllByRecursion P from → AllByRecursion (λ p. P p.1) (picked d xs from)
all-picked P d [] from z a = tt
all-picked P d (x ∷ xs) from z a = (all-get P from x d z a, all-picked P d xs from z a)

pub all-written : (P : ℕ → Type 0) (ps : List (ℕ × ℕ)) (into : List ℕ) → AllByRecursion (λ p. P p.1) ps → AllByRecursion P into
    → AllByRecursion P (written ps into)
all-written P [] into a b = b
all-written P (p ∷ ps) into a b = all-written P ps (set into p.0 p.1) a.1 (all-set P into p.0 p.1 a.0 b)

pub all-blanked : (P : ℕ → Type 0) (d : ℕ) (xs into : List ℕ) → P d → AllByRecursion P into → AllByRecursion P (blanked d xs into)
all-blanked P d [] into z b = b
all-blanked P d (x ∷ xs) into z b = all-blanked P d xs (set into x d) z (all-set P into x d z b)

-- maps
pub map-same : {A B : Type 0} (P : A → Type 0) (f g : A → B) → ((x : A) → P x → f x ≡ g x) → (xs : List A) → AllByRecursion P xs → map f xs ≡ map g xs
map-same P f g e [] a = refl
map-same P f g e (x ∷ xs) a = λ i. e x a.0 i ∷ map-same P f g e xs a.1 i

-- the same cells with other entries
abbrev pub along : {A B : Type 0} → (A → B) → List (ℕ × A) → List (ℕ × B)
along f ps = map (λ p. (p.0, f p.1)) ps

pub picked-map : {A B : Type 0} (f : A → B) (d : A) (xs : List ℕ) (from : List A) → along f (picked d xs from) ≡ picked (f d) xs (map f from)
picked-map f d [] from = refl
picked-map f d (x ∷ xs) from = λ i. (x, sym (get_or-map f from x d) i) ∷ picked-map f d xs from i

pub written-map : {A B : Type 0} (f : A → B) (ps : List (ℕ × A)) (into : List A) → map f (written ps into) ≡ written (along f ps) (map f into)
written-map f [] into = refl
written-map f (p ∷ ps) into = written-map f ps (set into p.0 p.1) ∙ ap (written (along f ps)) (map-set f into p.0 p.1)

pub length-picked : (d : ℕ) (xs from : List ℕ) → length (picked d xs from) ≡ length xs
length-picked d [] from = refl
length-picked d (x ∷ xs) from = ap suc (length-picked d xs from)

pub cells-picked : (d : ℕ) (xs from : List ℕ) → cells_of (picked d xs from) ≡ xs
cells-picked d [] from = refl
cells-picked d (x ∷ xs) from = ap (λ ys. x ∷ ys) (cells-picked d xs from)

pub blanked-map : {A B : Type 0} (f : A → B) (d : A) (xs : List ℕ) (into : List A) → map f (blanked d xs into) ≡ blanked (f d) xs (map f into)
blanked-map f d [] into = refl
blanked-map f d (x ∷ xs) into = blanked-map f d xs (set into x d) ∙ ap (blanked (f d) xs) (map-set f into x d)

pub received-map : {A B : Type 0} (f : A → B) (d : A) (xs : List ℕ) (from into : List A)
    → map f (received d xs from into) ≡ received (f d) xs (map f from) (map f into)
received-map f d xs from into = written-map f (picked d xs from) into ∙ ap (λ ps. written ps (map f into)) (picked-map f d xs from)

-- cells that receive values, and cells that become undefined
pub with-received : (xs : List ℕ) (from into : Env) → with_values xs (environment from) into ≡ received Undef xs from into
with-received [] from into = refl
with-received (x ∷ xs) from into = with-received xs from (set into x (get_or from x Undef))

pub without-blanked : (xs : List ℕ) (into : Env) → without xs into ≡ blanked Undef xs into
without-blanked [] into = refl
without-blanked (x ∷ xs) into = without-blanked xs (set into x Undef)

pub with-same : (xs : List ℕ) (e f : Environment) (into : Env) → ((x : ℕ) → e x ≡ f x) → with_values xs e into ≡ with_values xs f into
with-same [] e f into h = refl
with-same (x ∷ xs) e f into h = ap (λ v. with_values xs e (set into x v)) (h x) ∙ with-same xs e f (set into x (f x)) h

pub length-with : (xs : List ℕ) (e : Environment) (into : Env) → length (with_values xs e into) ≡ length into
length-with [] e into = refl
length-with (x ∷ xs) e into = length-with xs e (set into x (e x)) ∙ length-set into x (e x)

-- environments that differ at most at some cells
pub or-false : (a b : Bool) → (a || b) ≡ false → (a ≡ false) × (b ≡ false)
or-false true b e = absurd (false≢true (sym e))
or-false false b e = (refl, e)

pub among-append : (x : ℕ) (xs ys : List ℕ) → is_among x (xs ++ ys) ≡ (is_among x xs || is_among x ys)
among-append x [] ys = refl
among-append x (y ∷ xs) ys = elim (eqb x y) as (λ b. (b || is_among x (xs ++ ys)) ≡ ((b || is_among x xs) || is_among x ys))
    [ true ↦ refl | false ↦ among-append x xs ys ]

pub same-none : (xs env : List ℕ) → SameBut xs env env
same-none xs env = record { size = refl; same = λ x h. refl }

pub same-back : (xs e f : List ℕ) → SameBut xs e f → SameBut xs f e
same-back xs e f s = record { size = sym s.size; same = λ x h. sym (s.same x h) }

pub same-put : (x k : ℕ) (env : List ℕ) → SameBut (x ∷ []) env (set env x k)
same-put x k env = record {
  size = length-set env x k;
  same = λ y h. get_or-set_other env x y k 0 (eqb-false y x (or-false (eqb y x) false h).0);
}

pub same-then : (xs ys : List ℕ) (e f g : List ℕ) → SameBut xs e f → SameBut ys f g → SameBut (xs ++ ys) e g
same-then xs ys e f g a b = record {
  size = b.size ∙ a.size;
  same = λ x h. let s = or-false (is_among x xs) (is_among x ys) (sym (among-append x xs ys) ∙ h) in b.same x s.1 ∙ a.same x s.0;
}

pub same-written : (ps : List (ℕ × ℕ)) (env : List ℕ) → SameBut (cells_of ps) env (written ps env)
same-written [] env = same-none [] env
same-written (p ∷ ps) env = same-then (p.0 ∷ []) (cells_of ps) env (set env p.0 p.1) _ (same-put p.0 p.1 env) (same-written ps (set env p.0 p.1))

pub same-blanked : (xs env : List ℕ) → SameBut xs env (blanked 0 xs env)
same-blanked [] env = same-none [] env
same-blanked (x ∷ xs) env = same-then (x ∷ []) xs env (set env x 0) _ (same-put x 0 env) (same-blanked xs (set env x 0))

alike : (xs ys : List ℕ) → length xs ≡ length ys → ((x : ℕ) → get_or xs x 0 ≡ get_or ys x 0) → xs ≡ ys
alike [] [] n e = refl
alike [] (y ∷ ys) n e = absurd (omega arith)
alike (x ∷ xs) [] n e = absurd (omega arith)
alike (x ∷ xs) (y ∷ ys) n e = λ i. e 0 i ∷ alike xs ys (omega arith) (λ k. e (suc k)) i

-- one of the cells is restored
back : (x : ℕ) (xs e f : List ℕ) → SameBut (x ∷ xs) e f → SameBut xs e (set f x (get_or e x 0))
back x xs e f s = record {
  size = length-set f x (get_or e x 0) ∙ s.size;
  same = λ y h. elim (eqb y x) as (λ b. eqb y x ≡ b → get_or (set f x (get_or e x 0)) y 0 ≡ get_or e y 0) [
    | true ↦ λ t. let is : x ≡ y = sym (eqb-true y x t) in
        subst (λ z. get_or (set f x (get_or e x 0)) z 0 ≡ get_or e z 0) is (⊎_elim
        (λ (lt : x < length f). get_or-set_same f x (get_or e x 0) 0 lt)
        (λ (le : length f ≤ x).
        get_or_past (set f x (get_or e x 0)) x 0 (omega (arith, length-set f x (get_or e x 0)))
        ∙ sym (get_or_past e x 0 (omega (arith, s.size))))
        (cases_lt x (length f)))
    | false ↦ λ f'. get_or-set_other f x y (get_or e x 0) 0 (eqb-false y x f') ∙ s.same y (ap (λ b. b || is_among y xs) f' ∙ h)
  ] refl;
}

-- all of them are restored
pub restored : (xs e f : List ℕ) → SameBut xs e f → received 0 xs e f ≡ e
restored [] e f s = alike f e s.size (λ x. s.same x refl)
restored (x ∷ xs) e f s = restored xs e (set f x (get_or e x 0)) (back x xs e f s)

-- a loop over cells
pub some-first : (xs env : List ℕ) → SameButSome xs xs env env
some-first xs env = record { size = refl; among = λ x h. h; same = λ x h. refl }

pub some-next : (xs ys whole e f g : List ℕ) → SameButSome (xs ++ ys) whole e f → SameBut xs f g → SameButSome ys whole e g
some-next xs ys whole e f g s t =
    let parts : (x : ℕ) → is_among x whole ≡ false → (is_among x xs ≡ false) × (is_among x ys ≡ false) = λ x h. or-false (is_among x xs) (is_among x ys)
    (sym (among-append x xs ys) ∙ s.among x h) in
    record {
      size = t.size ∙ s.size;
      among = λ x h. (parts x h).1;
      same = λ x h. t.same x (parts x h).0 ∙ s.same x h;
    }

pub some-last : (rest whole e f : List ℕ) → SameButSome rest whole e f → SameBut whole e f
some-last rest whole e f s = record { size = s.size; same = s.same }

-- a loop over a list
pub drop_next : {A : Type 0} (xs : List A) (i : ℕ) (x : A) → i < length xs → x ≡ get_or xs i x → drop i xs ≡ x ∷ drop (i + 1) xs
drop_next xs i x h e = drop_more xs i x h ∙ ap (λ y. y ∷ drop (i + 1) xs) (sym e)

pub front-all : (xs ys : List ℕ) (n : ℕ) → length xs ≡ n → take n (xs ++ ys) ≡ xs
front-all xs ys n e = ap (λ k. take k (xs ++ ys)) (sym e) ∙ take-append_seam xs ys

pub snoc-append : {A : Type 0} (xs : List A) (x : A) (ys : List A) → (xs ++ x ∷ []) ++ ys ≡ xs ++ x ∷ ys
snoc-append [] x ys = refl
snoc-append (z ∷ xs) x ys = ap (λ l. z ∷ l) (snoc-append xs x ys)
