-- The text of rows with their answers, and the effect of a call that prints them.
use Rattle.std.specs.Prelude.{◌≡◌, ℕ, ◌+◌, ◌-◌, ◌^◌, min, List, [], ◌∷◌, ◌++◌, Option, Result, Ok, Err, OnOk, OnErr}
use Rattle.std.specs.Io.KnownBytes.{append_known}
use Rattle.m_ports.specs.Counts.{Rose}
use Rattle.m_ports.specs.Sink.{AppendsPrefix}
use Rattle.observables.specs.declared.answer.Answer.{Answer}
use Rattle.household.specs.declared.table.Row.{Row}
use Rattle.m_batch.specs.declared.fault.PrintFault.{PrintFault}
use Rattle.m_batch.specs.declared.fault.PrintFault.TheVariants.{Memory, Failed}

-- The texts of rows with these answers, in order, where the first row has this position. `text` is
-- that of one row.
abbrev pub printed_text : (ℕ → Row → Answer → List ℕ) → ℕ → List Row → List Answer → List ℕ
printed_text text at (row ∷ rows) (answer ∷ answers) = text at row answer ++ printed_text text (at + 1) rows answers
printed_text text at _ _ = []

-- the sum of their counts
abbrev pub printed_count : (ℕ → Row → Answer → ℕ) → ℕ → List Row → List Answer → ℕ
printed_count count at (row ∷ rows) (answer ∷ answers) = count at row answer + printed_count count (at + 1) rows answers
printed_count count at _ _ = 0

-- a number saturated at the greatest `u64`
abbrev pub counted_to_end : ℕ → ℕ
counted_to_end n = min n (2 ^ 64 - 1)

-- each row may be printed with its answer
abbrev pub MayPrintEach : (ℕ → Row → Answer → Type 0) → ℕ → List Row → List Answer → Type 0
MayPrintEach may at (row ∷ rows) (answer ∷ answers) = may at row answer × MayPrintEach may (at + 1) rows answers
MayPrintEach may at _ _ = Unit {0}

-- the output's fault count rose if a write failed, and is unchanged otherwise
abbrev pub Counted : {T : Type 0} → Result T PrintFault → ℕ → ℕ → Type 0
Counted (Ok value) old new = new ≡ old
Counted (Err Memory) old new = new ≡ old
Counted (Err Failed) old new = Rose old new

-- A text was written; or memory ran out or a write failed, and a prefix of it was written.
pub record WritesRows {S T : Type 0} (written : S → Option (List ℕ)) (faults : S → ℕ) (old new : S) (result : Result T PrintFault) (text : List ℕ) : Type 0
  where
    pub all : OnOk result (written new ≡ append_known (written old) text)
    pub prefix : OnErr result (AppendsPrefix (written old) (written new) text)
    pub counted : Counted result (faults old) (faults new)
