-- The output of an answer that is printed in parts.
use Rattle.std.specs.Prelude.{◌≡◌, ℕ, List}
use Rattle.m_ports.specs.Sink.{AppendsPrefix}
use Rattle.command_plans.specs.Printing.{Prints}
use Rattle.command_plans.specs.Status.{IsOfEnd}
use Rattle.command_plans.specs.Views.{OutputView}
use Rattle.command_plans.specs.declared.status.Status.{Status}
use Rattle.command_plans.specs.declared.status.Status.TheVariants.{Memory}

-- An answer was printed in parts. If memory ran out on the way, a prefix of the answer was written.
pub data IsWrittenInParts (Replies : List ℕ → Status → Type 0) (old new : OutputView) (status : Status) : Type 0 where
  printed : (text : List ℕ) (own : Status) → Replies text own → IsOfEnd own → Prints text own old new status → IsWrittenInParts Replies old new status
  no_memory : new ≡ old → status ≡ Memory → IsWrittenInParts Replies old new status
  broke_off : (text : List ℕ) (own : Status) → Replies text own → AppendsPrefix old.written new.written text → new.faults ≡ old.faults → status ≡ Memory
      → IsWrittenInParts Replies old new status
