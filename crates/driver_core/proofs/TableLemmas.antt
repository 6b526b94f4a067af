-- A table of weights while it is filled.
use Rattle.std.proofs.Common.{◌≡◌, ℕ, zero, suc, ◌+◌, ◌<◌, ◌≤◌, Bool, true, false, List, length, get_or, set, slice_get, replicate, refl, sym, ap, ◌∙◌, subst}
use Rattle.std.proofs.Common.{arith, ◌⊎◌, inl, inr, eqb}
use Rattle.std.proofs.lemmas.List.{length-set, get_or-set_same, get_or-set_other}
use Rattle.std.proofs.lemmas.Option.{slice_get-get_or}
use Rattle.std.proofs.lemmas.Bool.Decides.{eqb_tells}
use Rattle.micro_m.specs.declared.base.Base.{Base}
use Rattle.driver_core.specs.declared.program.Core.{Core}
use Rattle.driver_core.specs.Actions.{Action, assign, clear, branch, partition, call, solve, Block, no_actions, an_action}
use Rattle.driver_core.specs.ActionView.{block_of}
use Rattle.driver_core.specs.Valid.{block_or_none, body_of}
use Rattle.driver_core.specs.Weights.{action_weight, block_weight, tree_weight, names_changed_in, base_weight}
use Rattle.driver_core.specs.inner.Capped.{capped}
use Rattle.driver_core.specs.inner.WeightTable.{ActionCallsOnly, CallsOnly, IsDone, IsTable, weight_in}
use Rattle.driver_core.proofs.SumLemmas.{capped-sum}

-- weights of the called functions that agree, as saturated sums, give the same weight
module _ (r r' cells : ℕ) (t u : ℕ → ℕ) (P : ℕ → Type 0) (same_rules : capped r ≡ capped r') (same : (g : ℕ) → P g → capped (t g) ≡ capped (u g)) where
  mutual
    capped-one : (a : Action) → ActionCallsOnly P a → capped (action_weight r cells t a) ≡ capped (action_weight r' cells u a)
    capped-one (assign line c f) h = refl
    capped-one (clear line c) h = refl
    capped-one (branch line f a b) h =
        capped-sum _ (names_changed_in b) _ (names_changed_in b)
        (capped-sum _ (names_changed_in a) _ (names_changed_in a)
        (capped-sum _ (block_weight r cells t b) _ (block_weight r' cells u b)
        (capped-sum (tree_weight f) (block_weight r cells t a) (tree_weight f) (block_weight r' cells u a) refl (capped-all a h.0)) (capped-all b h.1))
        refl) refl
    capped-one (partition line xs a) h = capped-sum (block_weight r cells t a) cells (block_weight r' cells u a) cells (capped-all a h) refl
    capped-one (call line names xs f) h = capped-sum (t f) cells (u f) cells (same f h) refl
    capped-one (solve line names xs) h = same_rules

    pub capped-all : (b : Block) → CallsOnly P b → capped (block_weight r cells t b) ≡ capped (block_weight r' cells u b)
    capped-all no_actions h = refl
    capped-all (an_action a rest) h = capped-sum (action_weight r cells t a) (block_weight r cells t rest) (action_weight r' cells u a)
        (block_weight r' cells u rest) (capped-one a h.0) (capped-all rest h.1)

-- no weight is known
none-done : (n f : ℕ) → IsDone (replicate n false) f → ⊥
none-done zero f h = absurd (cc)
none-done (suc n) zero h = absurd (cc)
none-done (suc n) (suc f) h = none-done n f h

replicate-long : {A : Type 0} (n : ℕ) (x : A) → length (replicate n x) ≡ n
replicate-long zero x = refl
replicate-long (suc n) x = ap suc (replicate-long n x)

pub table-first : (core : Core) (base : Base) (n : ℕ) (weights : List ℕ) (done : List Bool) → weights ≡ replicate n 0 → done ≡ replicate n false
    → IsTable core base weights done 0
table-first core base n weights done ew ed = record {
  size = ap length ew ∙ replicate-long n 0 ∙ sym (ap length ed ∙ replicate-long n false);
  weighed = λ f h turns l. absurd (none-done n f (subst (λ ds. IsDone ds f) ed h));
}

-- one more function
pub table-next : (core : Core) (base : Base) (weights : List ℕ) (done : List Bool) (count f rules w : ℕ) → f < length weights
    → rules ≡ capped (base_weight base) → CallsOnly (IsDone done) (body_of core f)
    → w ≡ capped (block_weight rules base.cells (λ g. get_or weights g 0) (body_of core f)) → IsTable core base weights done count
    → IsTable core base (set weights f w) (set done f true) (count + 1)
table-next core base weights done count f rules w low er calls ew t = record {
  size = length-set weights f w ∙ t.size ∙ sym (length-set done f true);
  weighed = λ g h turns l. by g h turns l (eqb_tells g f);
}
  where
    here : (turns : ℕ) → count + 1 ≤ turns → w ≡ capped (weight_in core base turns f)
    here zero l = absurd (omega arith)
    here (suc turns) l =
        ew ∙ capped-all rules (base_weight base) base.cells (λ g. get_or weights g 0) (weight_in core base turns) (IsDone done) (omega (arith, er))
        (λ g h. let e = t.weighed g h turns (omega (arith, l)) in omega (arith, e)) (body_of core f) calls

    by : (g : ℕ) → IsDone (set done f true) g → (turns : ℕ) → count + 1 ≤ turns → ((eqb g f ≡ true) × (g ≡ f)) ⊎ ((eqb g f ≡ false) × (g ≡ f → ⊥))
        → get_or (set weights f w) g 0 ≡ capped (weight_in core base turns g)
    by g h turns l (inl e) =
        subst (λ x. get_or (set weights f w) x 0 ≡ capped (weight_in core base turns x)) (sym e.1) (get_or-set_same weights f w 0 low ∙ here turns l)
    by g h turns l (inr e) =
        get_or-set_other weights f g w 0 e.1 ∙ t.weighed g (sym (get_or-set_other done f g true false e.1) ∙ h) turns (omega (arith, l))

-- the function with this number
pub found-body : (core : Core) (bodies : List (List Action)) (f : ℕ) (d body : List Action) → bodies ≡ core.bodies → f < length bodies
    → body ≡ get_or bodies f d → block_of body ≡ body_of core f
found-body core bodies f d body e h is =
    ap block_of is
    ∙ sym (ap block_or_none (slice_get-get_or bodies f d h))
    ∙ ap (λ l. block_or_none (slice_get l f)) e
