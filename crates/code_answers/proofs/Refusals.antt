-- Errors that were reported.
use Rattle.std.proofs.Common.{◌≡◌, ◌⊎◌, ℕ, List, Option, None, Some, refl, ap, inl, inr}
use Rattle.std.specs.Prelude.{◌≢◌}
use Rattle.household.specs.declared.fault.HouseholdFault.{HouseholdFault}
use Rattle.household.specs.declared.fault.HouseholdFault.TheVariants as household
use Rattle.code_file.specs.Reading.{IsCodeFault}
use Rattle.code_file.specs.declared.fault.CodeFault.{CodeFault}
use Rattle.code_file.specs.declared.fault.CodeFault.TheVariants as code
use Rattle.m_cases.specs.declared.fault.CasesFault.{CasesFault}
use Rattle.m_cases.specs.declared.fault.CasesFault.TheVariants as cases
use Rattle.command_plans.specs.Printing.{Prints}
use Rattle.command_plans.specs.Views.{OutputView}
use Rattle.command_plans.specs.declared.status.Status.{Status}
use Rattle.command_plans.specs.declared.status.Status.TheVariants.{Memory, Refused}
use Rattle.code_answers.specs.Cases.{cases_fault_line}
use Rattle.code_answers.specs.Execs.{code_fault_line}
use Rattle.code_answers.specs.Households.{household_fault_line}
use Rattle.code_answers.specs.inner.Refusals.{ReportsLine}

-- A line of this kind was printed, or there was no memory.
abbrev pub ReportsRefusal : (List ℕ → Type 0) → OutputView → OutputView → Status → Type 0
ReportsRefusal IsLine old new status = ((line : List ℕ) × IsLine line × Prints line Refused old new status) ⊎ ((new ≡ old) × (status ≡ Memory))

-- a rejection by a fault, which has a line unless it is out of memory
pub reported_either : {IsFault IsMemory : Type 0} (whole found : Option (List ℕ)) (old new : OutputView) (status : Status) → whole ≡ found
    → ((IsMemory → ⊥) → IsFault) → (IsMemory → whole ≡ None)
    → ReportsLine found old new status → ReportsRefusal (λ line. IsFault × (whole ≡ Some line)) old new status
reported_either whole None old new status is h none reported = inr reported
reported_either whole (Some line) old new status is h none reported = inl (line, (h (λ m. let gone : whole ≡ None = none m in cc (gone, is)), is), reported)

-- a table of cases was rejected by a fault
pub cases_reported : {IsFault : Type 0} (fault : CasesFault) (old new : OutputView) (status : Status) → (fault ≢ cases.Memory → IsFault)
    → ReportsLine (cases_fault_line fault) old new status → ReportsRefusal (λ line. IsFault × (cases_fault_line fault ≡ Some line)) old new status
cases_reported fault old new status h reported = reported_either (cases_fault_line fault) (cases_fault_line fault) old new status refl h
    (λ m. ap cases_fault_line m) reported

-- a code file was rejected by a fault
pub code_reported : (bytes : List ℕ) (fault : CodeFault) (old new : OutputView) (status : Status) → (fault ≢ code.Memory → IsCodeFault bytes fault)
    → ReportsLine (code_fault_line fault) old new status → ReportsRefusal (λ line. IsCodeFault bytes fault × (code_fault_line fault ≡ Some line)) old new status
code_reported bytes fault old new status h reported = reported_either (code_fault_line fault) (code_fault_line fault) old new status refl h
    (λ m. ap code_fault_line m) reported

-- a household or a table was rejected, for these codes
pub household_refused : (fault : HouseholdFault) {IsFault : Type 0} (old new : OutputView) (status : Status) → (fault ≢ household.Memory → IsFault)
    → ReportsLine (household_fault_line fault) old new status
    → ReportsRefusal (λ line. IsFault × (household_fault_line fault ≡ Some line)) old new status
household_refused household.BadHeader old new status h reported = inl (_, (h (λ m. cc m), refl), reported)
household_refused household.TooManyRows old new status h reported = inl (_, (h (λ m. cc m), refl), reported)
household_refused (household.BadRow line) old new status h reported = inl (_, (h (λ m. cc m), refl), reported)
household_refused (household.UnknownCode line) old new status h reported = inl (_, (h (λ m. cc m), refl), reported)
household_refused (household.BadAmount line) old new status h reported = inl (_, (h (λ m. cc m), refl), reported)
household_refused (household.CodeTwice line) old new status h reported = inl (_, (h (λ m. cc m), refl), reported)
household_refused (household.NotOfType line) old new status h reported = inl (_, (h (λ m. cc m), refl), reported)
household_refused household.Memory old new status h reported = inr reported
