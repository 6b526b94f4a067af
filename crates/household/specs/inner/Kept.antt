-- Inputs as separate lists of codes and types.
use Rattle.std.specs.Prelude.{ℕ, List, [], ◌∷◌}
use Rattle.observables.specs.declared.inputs.Coded.{Coded}
use Rattle.observables.specs.declared.inputs.InputType.{InputType}

-- the inputs with these codes and types
abbrev pub inputs_kept : List (List ℕ) → List InputType → List Coded
inputs_kept (code ∷ codes) (kind ∷ kinds) = record { code = code; kind = kind } ∷ inputs_kept codes kinds
inputs_kept _ _ = []
