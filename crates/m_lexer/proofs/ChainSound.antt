-- Soundness of parsers: tools, for any kind of token. What the parser returns, the grammar derives.
use Rattle.std.proofs.Common.{◌≡◌, ℕ, zero, suc, List, [], ◌∷◌, ◌++◌, Option, Some, None, refl, sym, ◌∙◌, append_assoc}
use Rattle.std.proofs.lemmas.List.{append-nil}
use Rattle.m_lexer.specs.Chains.{First, first, Chain, ended, further}
use Rattle.m_lexer.specs.inner.Chains.{open_at, chain_at, choose, ◌>>=◌}

-- P of the value, if there is one
pub data Each {A : Type 0} (P : A → Type 0) : Option A → Type 0 where
  absent : Each P None
  here : {x : A} → P x → Each P (Some x)

module _ {A B : Type 0} {P : A → Type 0} {Q : B → Type 0} {f : A → Option B} where
  pub bind_each : {o : Option A} → Each P o → ((x : A) → P x → Each Q (f x)) → Each Q (o >>= f)
  bind_each absent k = absent
  bind_each (here p) k = k _ p

  pub choose_each : {o : Option A} {y : Option B} → Each P o → Each Q y → ((x : A) → P x → Each Q (f x)) → Each Q (choose o y f)
  choose_each absent q k = q
  choose_each (here p) q k = k _ p

pub each_from : {A : Type 0} {P Q : A → Type 0} {o : Option A} → Each P o → ((x : A) → P x → Q x) → Each Q o
each_from absent k = absent
each_from (here p) k = here (k _ p)

pub open_each : {T B : Type 0} (table : T → Option B) (ts : List T) → Each (λ (o : B × List T). First table o.0 ts o.1) (open_at table ts)
open_each table [] = absent
open_each {T} {B} table (t ∷ ts) = go (table t) refl
  where
    go : (b : Option B) → table t ≡ b → Each (λ (o : B × List T). First table o.0 (t ∷ ts) o.1) (choose b None (λ b. Some (b, ts)))
    go None e = absent
    go (Some b) e = here (first e)

-- the first token
pub opened : {T B : Type 0} {table : T → Option B} {b : B} {ts rest : List T} → First table b ts rest → (t : T) × (table t ≡ Some b) × (ts ≡ t ∷ rest)
opened (first {t = t} e) = (t, e, refl)

abbrev pub Sound : {T A : Type 0} → (A → List T → List T → Type 0) → (List T → Option (A × List T)) → Type 0
Sound {T} R p = (ts : List T) → Each (λ x. R x.0 ts x.1) (p ts)

module _ {T A B X : Type 0} (opens : T → Option B) (made : B → A → X) (R : A → List T → List T → Type 0) (p : List T → Option (A × List T)) (sound : Sound R p)
  where
    pub record Done (done : List X) (ts : List T) (r : List X × List T) : Type 0 where
      pub others : List X
      pub all : r.0 ≡ done ++ others
      pub chain : Chain opens made R others ts r.1

    none_more : (done : List X) (ts : List T) → Done done ts (done, ts)
    none_more done ts = record { others = []; all = sym (append-nil done); chain = ended }

    one_more : {b : B} {ts us : List T} (done : List X) → First opens b ts us → (x : A × List T) → R x.0 us x.1 → (r : List X × List T)
        → Done (done ++ made b x.0 ∷ []) x.1 r → Done done ts r
    one_more {b = b} done (first e) x d r q = record {
      others = made b x.0 ∷ q.others;
      all = q.all ∙ append_assoc done (made b x.0 ∷ []) q.others;
      chain = further e d q.chain;
    }

    pub chain_sound : (n : ℕ) (done : List X) (ts : List T) → Each (Done done ts) (chain_at opens made p n done ts)
    unfolding chain_at
    chain_sound zero done ts = here (none_more done ts)
    chain_sound (suc n) done ts =
        choose_each (open_each opens ts) (here (none_more done ts)) (λ o h.
        bind_each (sound o.1) (λ x d.
        each_from (chain_sound n (done ++ made o.0 x.0 ∷ []) x.1) (λ r q. one_more done h x d r q)))
