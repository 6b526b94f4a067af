-- The answers of what has a scheme, a source or a code file, and to the file that it is asked about.
use Rattle.std.specs.Prelude.{◌≡◌, ℕ, List, Option, Some, Result, Ok, Err}
use Rattle.command_plans.specs.declared.status.Status.{Status}
use Rattle.command_plans.specs.declared.status.Status.TheVariants.{Refused}
use Rattle.code_answers.specs.Schemes.{Scheme}

-- The answer to a file: the line of its fault, or the text and the status for what it states.
pub data FileReplies {Given Fault : Type 0} (stated : Result Given Fault) (line_of : Fault → Option (List ℕ)) (text_of : Given → List ℕ)
    (status_of : Given → Status) : List ℕ → Status → Type 0 where
  file_is_refused : {line : List ℕ} (fault : Fault) → stated ≡ Err fault → line_of fault ≡ Some line → FileReplies stated line_of text_of status_of line Refused
  file_is_answered : (given : Given) → stated ≡ Ok given → FileReplies stated line_of text_of status_of (text_of given) (status_of given)

-- The answer of a source or a code file: the line of its fault, or the answer by a scheme that it has.
pub data RepliesBy (IsRefusal : List ℕ → Type 0) (Has : Scheme → Type 0) (Replies : Scheme → List ℕ → Status → Type 0) : List ℕ → Status → Type 0 where
  is_refused : {line : List ℕ} → IsRefusal line → RepliesBy IsRefusal Has Replies line Refused
  is_answered : {text : List ℕ} {status : Status} (scheme : Scheme) → Has scheme → Replies scheme text status → RepliesBy IsRefusal Has Replies text status

-- There is a scheme, or code, for which a file states something.
pub record HasGiven {X Given Fault : Type 0} (Has : X → Type 0) (stated : X → Result Given Fault) : Type 0 where
  pub own : X
  pub has : Has own
  pub given : Given
  pub is_given : stated own ≡ Ok given
