-- Rows, in order.
use Rattle.std.proofs.Common.{◌≡◌, ℕ, ◌+◌, ◌<◌, length, get_or, take, List, [], ◌∷◌, ◌++◌, sym, ◌∙◌, ap, append_assoc}
use Rattle.std.specs.List.{AllByRecursion}
use Rattle.std.proofs.lemmas.List.{take_more, map-append}
use Rattle.observables.specs.declared.answer.Answer.{Answer}
use Rattle.reg_machine.specs.Flow.{Listing}
use Rattle.household.specs.declared.table.Row.{Row}
use Rattle.household.specs.Household.{AreInputs}
use Rattle.m_batch.specs.Batch.{HasInputsBelow, row_answer, answers_of}

-- one more row
pub answers_added : (code : Listing) (rows : List Row) (i : ℕ) (first answers new : List Answer) (answer : Answer) → i < length rows
    → ((d : Row) → answer ≡ row_answer code (get_or rows i d)) → answers ≡ first ++ answers_of code (take i rows) → new ≡ answers ++ answer ∷ []
    → new ≡ first ++ answers_of code (take (i + 1) rows)
answers_added code rows i first answers new answer h is before more =
    let d : Row = record { label = []; household = record { pairs = [] } } in
    more ∙ ap (λ given. given ++ answer ∷ []) before
    ∙ append_assoc first (answers_of code (take i rows)) (answer ∷ [])
    ∙ ap (λ a. first ++ (answers_of code (take i rows) ++ a ∷ [])) (is d)
    ∙ ap (λ given. first ++ given) (sym (map-append (row_answer code) (take i rows) (get_or rows i d ∷ [])) ∙ ap (answers_of code) (sym (take_more rows i d h)))

-- the rows of a table have only inputs of the table's codes
pub rows_below : (inputs : ℕ) (rows : List Row) → AllByRecursion (λ row. AreInputs inputs row.household.pairs) rows
    → AllByRecursion (HasInputsBelow inputs) rows
rows_below inputs [] all = tt
rows_below inputs (row ∷ rows) all = (all.0.known, rows_below inputs rows all.1)
