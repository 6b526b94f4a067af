-- Grammars over any kind of token, shared by rules and drivers.
use Rattle.std.specs.Prelude.{◌≡◌, List, [], ◌∷◌, Option, Some}

-- the first token, to which the table assigns a meaning
pub data First {T B : Type 0} (table : T → Option B) : B → List T → List T → Type 0 where
  first : {b : B} {t : T} {ts : List T} → table t ≡ Some b → First table b (t ∷ ts) ts

-- { opening R }: repetition. `opens` gives the tokens that open another R, and their meanings.
pub data Chain {T A B X : Type 0} (opens : T → Option B) (made : B → A → X) (R : A → List T → List T → Type 0) : List X → List T → List T → Type 0 where
  ended : {ts : List T} → Chain opens made R [] ts ts
  further : {t : T} {b : B} {x : A} {xs : List X} {ts mid rest : List T}
      → opens t ≡ Some b → R x ts mid → Chain opens made R xs mid rest →
      Chain opens made R (made b x ∷ xs) (t ∷ ts) rest
