-- The declared inputs, with their types.
use Rattle.std.specs.Prelude.{ℕ, List, Option, Some, None, option_map}
use Rattle.std.specs.List.{filter_map}
use Rattle.m_symbols.specs.declared.variable.Variable.{Variable}
use Rattle.m_symbols.specs.Declarations.{Declared, code_of}
use Rattle.observables.specs.declared.inputs.Coded.{Coded}
use Rattle.observables.specs.declared.inputs.InputType.{InputType}
use Rattle.observables.specs.declared.inputs.InputType.TheVariants.{Any}
use Rattle.observables.specs.Inputs.{type_of}

-- the type that a declaration's type word names, if it has one
abbrev pub type_declared : Option (List ℕ) → InputType
type_declared None = Any
type_declared (Some word) = type_of word

-- the code and the type of a variable that is an input
abbrev pub input_declared : Variable → Option Coded
input_declared v = option_map (λ code. record { code = code; kind = type_declared v.item.value_word }) (code_of v)

-- The declared inputs, in order. `V : saisie alias 0AX : "" type BOOLEEN ;` is the input `0AX` of
-- the type `Truth`.
abbrev pub inputs_declared : Declared → List Coded
inputs_declared declared = filter_map input_declared declared.variables
