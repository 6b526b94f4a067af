-- The weights of all functions, level by level.
use Rattle.std.proofs.Common.{◌≡◌, ℕ, zero, suc, List, [], ◌∷◌, map, get_or, replicate, refl, sym, ap, ◌∙◌, arith}
use Rattle.micro_m.specs.declared.base.Base.{Base}
use Rattle.driver_core.specs.declared.program.Core.{Core}
use Rattle.driver_core.specs.Actions.{Action, assign, clear, branch, partition, call, solve, Block, no_actions, an_action}
use Rattle.driver_core.specs.ActionView.{block_of}
use Rattle.driver_core.specs.Valid.{body_among, body_of}
use Rattle.driver_core.specs.Weights.{block_weight, base_weight}
use Rattle.driver_core.specs.inner.Capped.{capped}
use Rattle.driver_core.specs.inner.WeightTable.{ActionCallsOnly, CallsOnly, weight_in}
use Rattle.driver_core.proofs.TableLemmas.{capped-all}

mutual
  any-one : (a : Action) → ActionCallsOnly (λ f. Unit {0}) a
  any-one (assign line c t) = tt
  any-one (clear line c) = tt
  any-one (branch line t a b) = (any-all a, any-all b)
  any-one (partition line xs a) = any-all a
  any-one (call line names xs f) = tt
  any-one (solve line names xs) = tt

  any-all : (b : Block) → CallsOnly (λ f. Unit {0}) b
  any-all no_actions = tt
  any-all (an_action a rest) = (any-one a, any-all rest)

body-at : (w : Block → ℕ) (bodies : List (List Action)) (f : ℕ) → w no_actions ≡ 0 → get_or (map (λ l. w (block_of l)) bodies) f 0 ≡ w (body_among bodies f)
body-at w [] zero e = sym e
body-at w [] (suc f) e = sym e
body-at w (b ∷ bs) zero e = refl
body-at w (b ∷ bs) (suc f) e = body-at w bs f e

-- before the first level all weights are 0
pub level-first : (core : Core) (base : Base) (n : ℕ) (weights : List ℕ) → weights ≡ replicate n 0 → (f : ℕ)
    → get_or weights f 0 ≡ capped (weight_in core base 0 f)
level-first core base n weights e f = ap (λ l. get_or l f 0) e ∙ none n f
  where
    none : (n f : ℕ) → get_or (replicate {A = ℕ} n 0) f 0 ≡ 0
    none zero zero = refl
    none zero (suc f) = refl
    none (suc n) zero = refl
    none (suc n) (suc f) = none n f

-- one more level
pub level-next : (core : Core) (base : Base) (n rules cells : ℕ) (weights next : List ℕ) → rules ≡ capped (base_weight base) → cells ≡ base.cells
    → ((f : ℕ) → get_or weights f 0 ≡ capped (weight_in core base n f))
    → next ≡ map (λ commands. capped (block_weight rules cells (λ f. get_or weights f 0) (block_of commands))) core.bodies
    → (f : ℕ) → get_or next f 0 ≡ capped (weight_in core base (suc n) f)
level-next core base n rules cells weights next er ec before e f =
    let t : ℕ → ℕ = λ g. get_or weights g 0 in
    let u : ℕ → ℕ = weight_in core base n in
    ap (λ l. get_or l f 0) e
    ∙ body-at (λ b. capped (block_weight rules cells t b)) core.bodies f refl
    ∙ ap (λ k. capped (block_weight rules k t (body_of core f))) ec
    ∙ capped-all rules (base_weight base) base.cells t u (λ g. Unit {0}) (omega (arith, er)) (λ g h. let b = before g in omega (arith, b)) (body_of core f)
    (any-all (body_of core f))
