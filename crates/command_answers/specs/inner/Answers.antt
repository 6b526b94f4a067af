-- The code file of code, the session that a tidy program starts, and their answers.
use Rattle.std.specs.Prelude.{◌≡◌, ℕ, ℤ, List, Some, Ok, Err}
use Rattle.code_file.specs.Loading.{text_with}
use Rattle.code_file.specs.Printable.{IsPrintable}
use Rattle.code_file.specs.Reading.{IsFormOf}
use Rattle.code_file.specs.declared.loaded.Loaded.{Loaded}
use Rattle.m_places.specs.declared.source.Source.{Source}
use Rattle.flat_code.specs.Runs.{flat_run}
use Rattle.household.specs.Household.{household_of}
use Rattle.household.specs.declared.fault.HouseholdFault.{HouseholdFault}
use Rattle.household_session.specs.Sessions.{Sitting, begun}
use Rattle.command_plans.specs.Printing.{Prints}
use Rattle.command_plans.specs.Views.{InputView, OutputView}
use Rattle.command_plans.specs.declared.status.Status.{Status}
use Rattle.command_plans.specs.declared.status.Status.TheVariants.{Done, Memory, Refused}
use Rattle.m_symbols.specs.Declarations.{Declared}
use Rattle.rule_order.specs.declared.ordered.Ordered.{Ordered}
use Rattle.why_session.specs.Explains.{Explaining}
use Rattle.why_session.specs.Joined.{Joined}
use Rattle.code_answers.specs.Households.{household_fault_line}
use Rattle.code_answers.specs.Schemes.{Scheme}
use Rattle.code_answers.specs.Shown.{Shows}
use Rattle.command_answers.specs.Serving.{Served}
use Rattle.command_answers.specs.Sessions.{ended_replies, session_replies}
use Rattle.command_answers.specs.Sources.{IsScheme}
use Rattle.m_compile.specs.declared.compiling.Program.{Program}

-- the text is the code file of the code, and a form of it where its face is printable, and the command has done its
-- work
pub data IsFileOf (loaded : Loaded) : List ℕ → Status → Type 0 where
  is_file : (IsPrintable loaded.face → IsFormOf (text_with loaded.code loaded.face) loaded) → IsFileOf loaded (text_with loaded.code loaded.face) Done

-- The source is valid, and the tidy program shows its scheme.
pub record IsPrepared (source : Source) (program : Program) : Type 0 where
  pub scheme : Scheme
  pub valid : IsScheme source scheme
  pub shows : Shows scheme program.face (flat_run program.tidy)

-- the household of these bytes has no fault, and the session starts with it
pub record IsBegun (program : Program) (rows : List ℕ) (session : Sitting) : Type 0 where
  pub pairs : List (ℕ × ℤ)
  pub given : household_of program.face.inputs rows ≡ Ok pairs
  pub begins : session ≡ begun program.tidy program.face pairs

-- the session starts with the household of these bytes, and its reasons are those of this ordered base
pub record IsExplainerOf (program : Program) (declared : Declared) (ordered : Ordered) (rows : List ℕ) (joined : Joined) : Type 0 where
  pub session : IsBegun program rows joined.seated.sitting
  pub declares : joined.declared ≡ declared
  pub orders : joined.reporting.ordered ≡ ordered

-- How a session over an input ended, which explains names in this way: with a household error or out of memory before
-- anything was read from the input, or it started and ran over the input.
pub data IsServedBy (scheme : Scheme) (explains : Explaining) (rows : List ℕ) (heard reported : InputView) (old new : OutputView) (status : Status) : Type 0
  where
    refused : (line : List ℕ) (fault : HouseholdFault) → household_of scheme.inputs rows ≡ Err fault → household_fault_line fault ≡ Some line → reported ≡ heard
        → Prints line Refused old new status → IsServedBy scheme explains rows heard reported old new status
    no_memory : reported ≡ heard → new ≡ old → status ≡ Memory → IsServedBy scheme explains rows heard reported old new status
    served : (pairs : List (ℕ × ℤ)) → household_of scheme.inputs rows ≡ Ok pairs
        → Served (session_replies scheme explains pairs) (ended_replies scheme explains pairs) heard reported old new status
        → IsServedBy scheme explains rows heard reported old new status
