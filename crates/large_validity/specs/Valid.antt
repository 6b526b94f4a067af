-- The generated source and household have no fault.
use Rattle.std.specs.Prelude.{◌≡◌, ℕ, ℤ, List, None, Ok}
use Rattle.household.specs.Household.{household_of}
use Rattle.m_symbols.specs.Declarations.{Declared}
use Rattle.micro_m.specs.declared.base.Base.{Base}
use Rattle.driver_core.specs.Inputs.{inputs_declared}
use Rattle.m_compile.specs.Sources.{IsValid}
use Rattle.m_large.specs.Large.{household_text}
use Rattle.large_validity.specs.Sources.{large_source}

-- The source of `large N` has these declarations, its rules are this base, these are the requested cells, and no step
-- has a fault; and its household parses to these pairs.
pub record IsLargeValid (n : ℕ) : Type 0 where
  pub declared : Declared
  pub base : Base
  pub requests : List ℕ
  pub valid : IsValid (large_source n) declared base None requests
  pub pairs : List (ℕ × ℤ)
  pub given : household_of (inputs_declared declared) (household_text n) ≡ Ok pairs
