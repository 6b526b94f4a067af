-- The answer of `large N`.
use Rattle.std.specs.Prelude.{◌≡◌, ℕ, ℤ, List, ◌++◌, Ok}
use Rattle.household.specs.Household.{household_of}
use Rattle.m_large.specs.Large.{household_text}
use Rattle.large_validity.specs.Sources.{large_source}
use Rattle.tax_print.specs.Lines.{observation_lines}
use Rattle.command_plans.specs.declared.status.Status.{Status}
use Rattle.code_answers.specs.Households.{observation_status}
use Rattle.code_answers.specs.Larges.{large_line}
use Rattle.code_answers.specs.Schemes.{Scheme, observation_for}
use Rattle.command_answers.specs.Sources.{IsScheme}

-- The answer of `large N`: its line, and then what is observed of the generated source for the generated household.
-- Neither has a fault (`large_is_valid` of large_validity), so nothing is rejected.
pub data LargeReplies (n : ℕ) : List ℕ → Status → Type 0 where
  is_reported : (scheme : Scheme) (pairs : List (ℕ × ℤ)) → IsScheme (large_source n) scheme → household_of scheme.inputs (household_text n) ≡ Ok pairs
      → LargeReplies n (large_line n ++ observation_lines scheme.names (observation_for scheme pairs)) (observation_status (observation_for scheme pairs))
