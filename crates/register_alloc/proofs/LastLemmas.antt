-- The last read of each node.
use Rattle.std.proofs.Common.{◌≡◌, ℕ, zero, suc, ◌+◌, ◌<◌, ◌≤◌, Bool, true, false, eqb, ltb, ◌⊎◌, List, [], ◌∷◌, ◌++◌, length, get_or, take, drop, refl, ap}
use Rattle.std.proofs.Common.{sym, ◌∙◌, subst, inl, inr, arith}
use mathlib.Core.Bool.{◌&&◌, ◌||◌}
use Rattle.std.specs.Prelude.{if◌then◌else◌}
use Rattle.std.specs.List.{list_any}
use Rattle.std.proofs.Math.Seq.{take-suc}
use Rattle.std.proofs.lemmas.Bool.{cases_lt, eq-eqb, lt-ltb, le-ltb, ltb-false, or_left, or_right}
use Rattle.std.proofs.lemmas.List.{length-take-le, drop-append-le, drop_all, length_push}
use Rattle.m_fixed.specs.declared.operator.Op.{Op}
use Rattle.flat_code.specs.declared.program.Node.TheVariants.{Do as Work}
use Rattle.flat_code.specs.declared.program.Check.{Check}
use Rattle.flat_code.specs.declared.program.Flat.{Flat}
use Rattle.register_alloc.specs.Width.{reads, check_reads}
use Rattle.register_alloc.specs.inner.Tables.{is_live}
use Rattle.register_alloc.specs.inner.Last.{IsLast, AreLast}

pub reads-first : (op : Op) (a b c : ℕ) → reads a (Work op a b c) ≡ true
reads-first op a b c = or_left (eqb a a) (eqb b a || eqb c a) (eq-eqb a a refl)

pub reads-second : (op : Op) (a b c : ℕ) → reads b (Work op a b c) ≡ true
reads-second op a b c = or_right (eqb a b) (eqb b b || eqb c b) (or_left (eqb b b) (eqb c b) (eq-eqb b b refl))

pub reads-third : (op : Op) (a b c : ℕ) → reads c (Work op a b c) ≡ true
reads-third op a b c = or_right (eqb a c) (eqb b c || eqb c c) (or_right (eqb b c) (eqb c c) (eq-eqb c c refl))

pub reads-guard : (check : Check) → check_reads check.guard check ≡ true
reads-guard check = or_left (eqb check.guard check.guard) (eqb check.condition check.guard) (eq-eqb check.guard check.guard refl)

pub reads-condition : (check : Check) → check_reads check.condition check ≡ true
reads-condition check = or_right (eqb check.guard check.condition) (eqb check.condition check.condition) (eq-eqb check.condition check.condition refl)

any-append : {X : Type 0} (f : X → Bool) (xs : List X) (y : X) → list_any f (xs ++ y ∷ []) ≡ (list_any f xs || f y)
any-append f [] y = or-false (f y)
  where
    or-false : (b : Bool) → (b || false) ≡ b
    or-false true = refl
    or-false false = refl
any-append f (x ∷ xs) y = ap (λ b. f x || b) (any-append f xs y) ∙ or-assoc (f x) (list_any f xs) (f y)
  where
    or-assoc : (a b c : Bool) → (a || (b || c)) ≡ ((a || b) || c)
    or-assoc true b c = refl
    or-assoc false b c = refl

-- one more item is recorded
last-push : {X : Type 0} (read : ℕ → X → Bool) (items : List X) (item : X) (n : ℕ) (last last' : List ℕ) (place : ℕ) → place ≡ suc (length items)
    → IsLast read items n last → length last' ≡ length last → ((x : ℕ) → x < length last → get_or last' x 0 ≡ (if read x item then place else get_or last x 0))
    → IsLast read (items ++ item ∷ []) n last'
last-push read items item n last last' place e h same noted =
    let size : length last ≡ n = h.size in
    record {
      size = same ∙ size;
      is = λ x k lt.
          let lt' : x < length last = omega arith in
          let whole : ltb (length items) (get_or last x 0) ≡ false = sym (h.is x (length items) lt)
          ∙ ap (list_any (read x)) (drop_all (length items) items (omega arith)) in
          let within = ltb-false (length items) (get_or last x 0) whole in
          at x k lt' (cases_lt (length items) k) within (read x item) refl ∙ ap (ltb k) (sym (noted x lt'));
    }
  where
    at : (x k : ℕ) → x < length last → (length items < k) ⊎ (k ≤ length items) → get_or last x 0 ≤ length items → (b : Bool) → read x item ≡ b
        → list_any (read x) (drop k (items ++ item ∷ [])) ≡ ltb k (if read x item then place else get_or last x 0)
    at x k lt (inl past) within b is =
        let more : suc (length items) ≤ k = omega arith in
        ap (list_any (read x)) (drop_all k (items ++ item ∷ []) (omega (arith, length_push items item)))
        ∙ sym (le-ltb k (if read x item then place else get_or last x 0) (below b is))
      where
        below : (b : Bool) → read x item ≡ b → (if read x item then place else get_or last x 0) ≤ k
        below true is = subst (λ b. (if b then place else get_or last x 0) ≤ k) (sym is) (omega arith)
        below false is = subst (λ b. (if b then place else get_or last x 0) ≤ k) (sym is) (omega arith)
    at x k lt (inr le) within b is =
        ap (list_any (read x)) (drop-append-le k items (item ∷ []) le) ∙ any-append (read x) (drop k items) item
        ∙ ap (λ c. c || read x item) (h.is x k (let z : x < n = omega (arith, h.size) in z))
        ∙ both b is
      where
        or-true : (a : Bool) → (a || true) ≡ true
        or-true true = refl
        or-true false = refl

        or-false : (a : Bool) → (a || false) ≡ a
        or-false true = refl
        or-false false = refl

        both : (b : Bool) → read x item ≡ b → (ltb k (get_or last x 0) || read x item) ≡ ltb k (if read x item then place else get_or last x 0)
        both true is = subst (λ b. (ltb k (get_or last x 0) || b) ≡ ltb k (if b then place else get_or last x 0)) (sym is) (or-true (ltb k (get_or last x 0))
            ∙ sym (lt-ltb k place (omega arith)))
        both false is = subst (λ b. (ltb k (get_or last x 0) || b) ≡ ltb k (if b then place else get_or last x 0)) (sym is) (or-false (ltb k (get_or last x 0)))

-- the items up to one more place
pub last-more : {X : Type 0} (read : ℕ → X → Bool) (items : List X) (i : ℕ) (item : X) (n : ℕ) (last last' : List ℕ) → i < length items
    → item ≡ get_or items i item → IsLast read (take i items) n last → length last' ≡ length last
    → ((x : ℕ) → x < length last → get_or last' x 0 ≡ (if read x item then i + 1 else get_or last x 0)) → IsLast read (take (i + 1) items) n last'
last-more read items i item n last last' lt is h same noted =
    let e : i + 1 ≡ suc i = omega arith in
    let at : i + 1 ≡ suc (length (take i items)) = omega (arith, length-take-le i items (let z : i ≤ length items = omega arith in z)) in
    let whole : take i items ++ item ∷ [] ≡ take (i + 1) items = ap (λ x. take i items ++ x ∷ []) is ∙ sym (take-suc items i item lt)
    ∙ ap (λ m. take m items) (sym e) in
    subst (λ xs. IsLast read xs n last') whole (last-push read (take i items) item n last last' (i + 1) at h same noted)

-- the same, for another default
pub last-more-at : {X : Type 0} (read : ℕ → X → Bool) (items : List X) (i : ℕ) (d item : X) (n : ℕ) (last last' : List ℕ) → i < length items
    → item ≡ get_or items i d → IsLast read (take i items) n last → length last' ≡ length last
    → ((x : ℕ) → x < length last → get_or last' x 0 ≡ (if read x item then i + 1 else get_or last x 0)) → IsLast read (take (i + 1) items) n last'
last-more-at read items i d item n last last' lt is h same noted =
    last-more read items i item n last last' lt (is ∙ sym (get-default items i item d lt)) h same noted
  where
    get-default : {X : Type 0} (xs : List X) (k : ℕ) (c d : X) → k < length xs → get_or xs k c ≡ get_or xs k d
    get-default [] k c d lt = absurd (omega arith)
    get-default (x ∷ xs) zero c d lt = refl
    get-default (x ∷ xs) (suc k) c d lt = get-default xs k c d (omega arith)

-- whether a node is live, by its last reads
pub live-last : (flat : Flat) (by_node by_check : List ℕ) (made read checked x : ℕ) → AreLast flat by_node by_check → x < made → made ≤ length flat.nodes
    → is_live flat made read checked x ≡ (ltb read (get_or by_node x 0) || ltb checked (get_or by_check x 0))
live-last flat by_node by_check made read checked x h lt le =
    ap (λ b. b && (list_any (reads x) (drop read flat.nodes) || list_any (check_reads x) (drop checked flat.checks))) (lt-ltb x made lt)
    ∙ ap (λ b. b || list_any (check_reads x) (drop checked flat.checks)) (h.nodes.is x read (omega arith))
    ∙ ap (λ b. ltb read (get_or by_node x 0) || b) (h.checks.is x checked (omega arith))
