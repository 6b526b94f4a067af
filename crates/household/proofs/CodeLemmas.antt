-- The codes of inputs, one after another.
use Rattle.std.proofs.Common.{◌≡◌, ℕ, ◌+◌, ◌<◌, Bool, not, cond, List, [], ◌∷◌, ◌++◌, length, take, get_or, sym, ◌∙◌, ap, arith}
use Rattle.std.proofs.Math.ListN.{get_or-map}
use Rattle.std.proofs.lemmas.List.{length-map}
use Rattle.m_names.specs.Names.{AreDistinct, has}
use Rattle.m_names.proofs.Distinct.{take-added}
use Rattle.observables.specs.declared.inputs.Coded.{Coded}
use Rattle.observables.specs.Inputs.{codes_of}

-- one more code
pub codes_next : (inputs : List Coded) (i : ℕ) (input d : Coded) (known new : List (List ℕ)) (code : List ℕ) (fresh : Bool) → AreDistinct (codes_of inputs)
    → i < length inputs
    → input ≡ get_or inputs i d → code ≡ input.code → known ≡ take i (codes_of inputs) → fresh ≡ not (has code known)
    → new ≡ cond fresh (known ++ code ∷ []) known → new ≡ take (i + 1) (codes_of inputs)
codes_next inputs i input d known new code fresh distinct within is_input is_code front is_fresh added =
    take-added (codes_of inputs) i d.code distinct (let e = length-map inputs (λ (c : Coded). c.code) in omega (arith, e, within)) front
    (is_code ∙ ap (λ (c : Coded). c.code) is_input ∙ sym (get_or-map (λ (c : Coded). c.code) inputs i d)) is_fresh added
