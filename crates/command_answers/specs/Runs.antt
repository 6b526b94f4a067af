-- The answer of `run`.
use Rattle.std.specs.Prelude.{ℕ, List, []}
use Rattle.m_places.specs.declared.source.Source.{Source}
use Rattle.household.specs.Household.{household_of}
use Rattle.command_plans.specs.declared.status.Status.{Status}
use Rattle.code_answers.specs.Replies.{HasGiven}
use Rattle.code_answers.specs.Schemes.{Scheme}
use Rattle.code_answers.specs.Shown.{HouseholdReplies}
use Rattle.command_answers.specs.Sources.{IsScheme, SourceReplies}

-- The answer of a run of a source on the household of these bytes: an error line, or the lines of what is observed for
-- the household.
abbrev pub RunReplies : Source → (rows : List ℕ) → List ℕ → Status → Type 0
RunReplies source rows = SourceReplies source (λ scheme. HouseholdReplies [] scheme rows)

-- a valid source, and a household without a fault
abbrev pub RunHasAnswer : Source → (rows : List ℕ) → Type 0
RunHasAnswer source rows = HasGiven (IsScheme source) (λ (scheme : Scheme). household_of scheme.inputs rows)
