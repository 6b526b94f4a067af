-- A household without a fault has an answer.
use Rattle.std.proofs.Common.{◌≡◌, ◌≢◌, refl}
use Rattle.household.specs.declared.fault.HouseholdFault.{HouseholdFault}
use Rattle.household.specs.declared.fault.HouseholdFault.TheVariants as household

-- a household without a fault other than out of memory
pub without_answer_only : (fault : HouseholdFault) → (fault ≢ household.Memory → ⊥) → fault ≡ household.Memory
without_answer_only household.BadHeader h = absurd (h (λ e. cc))
without_answer_only household.TooManyRows h = absurd (h (λ e. cc))
without_answer_only (household.BadRow line) h = absurd (h (λ e. cc))
without_answer_only (household.UnknownCode line) h = absurd (h (λ e. cc))
without_answer_only (household.BadAmount line) h = absurd (h (λ e. cc))
without_answer_only (household.NotOfType line) h = absurd (h (λ e. cc))
without_answer_only (household.CodeTwice line) h = absurd (h (λ e. cc))
without_answer_only household.Memory h = refl
