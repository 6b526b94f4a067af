-- Tables, one entry after another.
use Rattle.std.proofs.Common.{◌≡◌, ◌≢◌, ℕ, cond, ◌⊎◌, Option, None, Some, refl, ap, sym, ◌∙◌, subst, inl, inr, ⊎_elim}
use Rattle.std.proofs.lemmas.Bool.{cases_eq, eq-eqb, ne_eqb}
use Rattle.reg_machine.specs.Flow.{put}

pub put-same : {A : Type 0} (f : ℕ → A) (k : ℕ) (v : A) → put f k v k ≡ v
put-same f k v = ap (λ b. cond b v (f k)) (eq-eqb k k refl)

pub put-other : {A : Type 0} (f : ℕ → A) (k : ℕ) (v : A) (j : ℕ) → j ≢ k → put f k v j ≡ f j
put-other f k v j ne = ap (λ b. cond b v (f j)) (ne_eqb j k ne)

-- an entry after a write is the one that was written, or one of another place
pub put-cases : (f : ℕ → Option ℕ) (k x j y : ℕ) → put f k (Some x) j ≡ Some y → ((j ≡ k) × (x ≡ y)) ⊎ ((j ≢ k) × (f j ≡ Some y))
put-cases f k x j y e =
    ⊎_elim
    (λ (is : j ≡ k). let there : Some x ≡ Some y = sym (put-same f k (Some x)) ∙ subst (λ i. put f k (Some x) i ≡ Some y) is e in inl (is, (cc)))
    (λ (ne : j ≢ k). inr (ne, sym (put-other f k (Some x) j ne) ∙ e))
    (cases_eq j k)

pub none≢some : {A : Type 0} (x : A) → None ≡ Some x → ⊥
none≢some x e = cc

pub some-is : {A : Type 0} (x y : A) → Some x ≡ Some y → x ≡ y
some-is x y e = cc
