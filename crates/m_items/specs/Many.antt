-- Repetition without a separator.
use Rattle.std.specs.Prelude.{List, [], ◌∷◌}
use Rattle.m_lexer.specs.declared.token.Token.{Token}

-- { R }
pub data Many {A : Type 0} (R : A → List Token → List Token → Type 0) : List A → List Token → List Token → Type 0 where
  no_more : {ts : List Token} → Many R [] ts ts
  one_more : {x : A} {xs : List A} {ts mid rest : List Token}
      → R x ts mid → Many R xs mid rest →
      Many R (x ∷ xs) ts rest

-- R { R }
pub data OneOrMore {A : Type 0} (R : A → List Token → List Token → Type 0) : List A → List Token → List Token → Type 0 where
  one : {x : A} {xs : List A} {ts mid rest : List Token}
      → R x ts mid → Many R xs mid rest →
      OneOrMore R (x ∷ xs) ts rest
