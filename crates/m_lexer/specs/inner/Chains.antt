-- Grammars as functions, over any kind of token: the value at the start of the tokens and the
-- tokens after it, or none.
use Rattle.std.specs.Prelude.{ℕ, zero, suc, List, [], ◌∷◌, ◌++◌, Option, Some, None}

infixl 10 ◌>>=◌
abbrev pub ◌>>=◌ : {A B : Type 0} → Option A → (A → Option B) → Option B
(Some x) >>= f = f x
None >>= f = None

-- f of the value, or y if there is none
abbrev pub choose : {A B : Type 0} → Option A → B → (A → B) → B
choose (Some x) y f = f x
choose None y f = y

-- the first token, if the table assigns it a meaning
abbrev pub open_at : {T B : Type 0} → (T → Option B) → List T → Option (B × List T)
open_at opens [] = None
open_at opens (t ∷ ts) = choose (opens t) None (λ b. Some (b, ts))

-- Repetition: at most n further ones, after those in `done`.
unfoldable pub chain_at : {T A B X : Type 0} → (T → Option B) → (B → A → X) → (List T → Option (A × List T)) → ℕ → List X → List T → Option (List X × List T)
chain_at opens made p zero done ts = Some (done, ts)
chain_at opens made p (suc n) done ts = choose (open_at opens ts) (Some (done, ts)) (λ o. p o.1 >>= λ x. chain_at opens made p n (done ++ made o.0 x.0 ∷ [])
    x.1)
