-- The printed text of a worker.
use Rattle.std.specs.Prelude.{◌≡◌, ℕ, List, Option, IfSome}
use Rattle.household.specs.declared.table.Row.{Row}
use Rattle.observables.specs.declared.answer.Answer.{Answer}
use Rattle.reg_machine.specs.Flow.{Listing}
use Rattle.m_batch.specs.Batch.{answers_of}
use Rattle.m_batch.specs.Printing.{counted_to_end, printed_count, printed_text}
use Rattle.m_batch.specs.declared.texts.PartText.{PartText}

-- the text of rows with these answers, and their count
pub record IsTextOf (text : ℕ → Row → Answer → List ℕ) (count : ℕ → Row → Answer → ℕ) (at : ℕ) (rows : List Row) (answers : List Answer)
    (made : PartText) : Type 0 where
  pub text_is : made.text.bytes ≡ printed_text text at rows answers
  pub count_is : made.count ≡ counted_to_end (printed_count count at rows answers)

-- the same for the answers of code, if there is such a text
abbrev pub MayBeTextOf : (ℕ → Row → Answer → List ℕ) → (ℕ → Row → Answer → ℕ) → Listing → ℕ → List Row → Option PartText → Type 0
MayBeTextOf text count code at rows made = IfSome made (IsTextOf text count at rows (answers_of code rows))
