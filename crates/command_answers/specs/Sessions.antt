-- The replies of a session, by a source's scheme alone, whatever program computes them.
use Rattle.std.specs.Prelude.{ℕ, ℤ, List, length}
use Rattle.household.specs.Household.{values_of}
use Rattle.household_session.specs.Replies.{ended_lines, input_lines}
use Rattle.household_session.specs.Sessions.{Showing}
use Rattle.tax_print.specs.Lines.{observation_lines}
use Rattle.why_session.specs.Explains.{Explaining, explained_replies}
use Rattle.code_answers.specs.Schemes.{Scheme}

-- what a session shows: the inputs, and the lines of what is observed for values
abbrev pub scheme_showing : Scheme → Showing
scheme_showing scheme = record { inputs = scheme.inputs; text = λ values. observation_lines scheme.names (scheme.observe values) }

-- The replies to lines, where a session starts with these pairs and explains names in this way. For the pair of `1AJ`
-- and 5, the lines `set 1AJ x` and `clear 1AJ` have the replies `refused bad amount` and `ok`.
abbrev pub replies_by : Scheme → Explaining → List (ℕ × ℤ) → List (List ℕ) → List ℕ
replies_by scheme explains pairs lines = explained_replies (scheme_showing scheme) explains (values_of pairs (length scheme.inputs)) lines

-- The replies to a whole input.
abbrev pub session_replies : Scheme → Explaining → List (ℕ × ℤ) → List ℕ → List ℕ
session_replies scheme explains pairs typed = replies_by scheme explains pairs (input_lines typed)

-- The replies to those lines of an input that have their line feed.
abbrev pub ended_replies : Scheme → Explaining → List (ℕ × ℤ) → List ℕ → List ℕ
ended_replies scheme explains pairs taken = replies_by scheme explains pairs (ended_lines taken)
