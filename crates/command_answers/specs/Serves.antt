-- The answer of `serve` to an input, and how much of the input it read.
use Rattle.std.specs.Prelude.{◌≡◌, ℕ, ℤ, ◌<◌, List, ◌++◌, length, Ok}
use Rattle.tax_print.specs.FaultLines.{input_too_long_line, unreadable_input_line}
use Rattle.m_places.specs.declared.limits.TheConstants.{INPUT_BYTES}
use Rattle.m_places.specs.declared.source.Source.{Source}
use Rattle.household.specs.Household.{household_of}
use Rattle.command_plans.specs.Printing.{Prints}
use Rattle.command_plans.specs.Views.{InputView, OutputView}
use Rattle.command_plans.specs.declared.status.Status.{Status}
use Rattle.command_plans.specs.declared.status.Status.TheVariants.{Done, Memory, Refused}
use Rattle.why_session.specs.Explains.{Explaining}
use Rattle.command_answers.specs.Explained.{IsExplained}
use Rattle.code_answers.specs.Schemes.{Scheme}
use Rattle.command_answers.specs.Runs.{RunReplies}
use Rattle.command_answers.specs.Sources.{IsScheme}
use Rattle.command_answers.specs.Sessions.{ended_replies, session_replies}
use Rattle.command_answers.specs.Serving.{Served}

-- The source is valid, the household has no fault, and the session starts with these pairs and explains names in this
-- way.
pub record IsSession (source : Source) (rows : List ℕ) (scheme : Scheme) (explains : Explaining) (pairs : List (ℕ × ℤ)) : Type 0 where
  pub valid : IsScheme source scheme
  pub explained : IsExplained source explains
  pub given : household_of scheme.inputs rows ≡ Ok pairs

-- The answer to an input: an error line of a run; or the replies to all its lines; or, where the input has `INPUT_BYTES` bytes
-- or more, the replies to the lines that have their line feed among the first `INPUT_BYTES`, and then the line that
-- the input is too long.
pub data ServeReplies (source : Source) (rows typed : List ℕ) : List ℕ → Status → Type 0 where
  is_refused : {line : List ℕ} → RunReplies source rows line Refused → ServeReplies source rows typed line Refused
  is_served : (scheme : Scheme) (explains : Explaining) (pairs : List (ℕ × ℤ)) → IsSession source rows scheme explains pairs → length typed < INPUT_BYTES
      → ServeReplies source rows typed (session_replies scheme explains pairs typed) Done
  is_too_long : (scheme : Scheme) (explains : Explaining) (pairs : List (ℕ × ℤ)) (taken rest : List ℕ) → IsSession source rows scheme explains pairs
      → typed ≡ taken ++ rest → length taken ≡ INPUT_BYTES
      → ServeReplies source rows typed (ended_replies scheme explains pairs taken ++ input_too_long_line) Refused

-- The output if a read failed after these bytes of the input, which are below the limit: the replies to the lines that
-- have their line feed among them, and then the line that the input can't be read.
pub data ServeCutOff (source : Source) (rows taken : List ℕ) : List ℕ → Type 0 where
  is_cut_off : (scheme : Scheme) (explains : Explaining) (pairs : List (ℕ × ℤ)) → IsSession source rows scheme explains pairs → length taken < INPUT_BYTES
      → ServeCutOff source rows taken (ended_replies scheme explains pairs taken ++ unreadable_input_line)

-- How `serve` ended: with an error or out of memory before anything was read from the input, or the session started
-- and ran over the input.
pub data IsServed (source : Source) (rows : List ℕ) (heard reported : InputView) (old new : OutputView) (status : Status) : Type 0 where
  refused : (line : List ℕ) → RunReplies source rows line Refused → reported ≡ heard → Prints line Refused old new status
      → IsServed source rows heard reported old new status
  no_memory : reported ≡ heard → new ≡ old → status ≡ Memory → IsServed source rows heard reported old new status
  served : (scheme : Scheme) (explains : Explaining) (pairs : List (ℕ × ℤ)) → IsSession source rows scheme explains pairs
      → Served (session_replies scheme explains pairs) (ended_replies scheme explains pairs) heard reported old new status
      → IsServed source rows heard reported old new status
