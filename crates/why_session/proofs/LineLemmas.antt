-- The replies to a line and to further lines.
use Rattle.std.proofs.Common.{◌≡◌, ℕ, ◌+◌, List, [], ◌∷◌, ◌++◌, length, Bool, true, false, cond, Option, None, Some, refl, sym, ap, ◌∙◌, subst, append_assoc}
use Rattle.std.specs.Prelude.{codes, nat_le}
use Rattle.std.specs.List.{AllByRecursion}
use Rattle.std.specs.Option.{option_map_or}
use Rattle.std.specs.Str.{bytes_eq}
use Rattle.std.proofs.lemmas.Slice.Eq.{bytes_eq-Decides}
use Rattle.m_places.specs.declared.limits.TheConstants.{SESSION_LINE_BYTES}
use Rattle.m_text.specs.Lines.{without_return}
use Rattle.m_fixed.specs.declared.amount.Value.{Value}
use Rattle.household_session.specs.Commands.{bad, clears, line_words, session_command, too_long, words_command}
use Rattle.household_session.specs.Replies.{command_reply, command_values, lines_replies}
use Rattle.household_session.specs.Seats.{Seated, command_cost, lines_cost, since_command}
use Rattle.household_session.specs.Sessions.{Showing, showing_of}
use Rattle.why_session.specs.Explains.{Explaining, explained_replies, explained_reply, explained_values, why_name, why_words}

-- the replies, where the first line is this request
abbrev pub requested_replies : Showing → Explaining → List Value → List ℕ → List (List ℕ) → Option (List ℕ) → List ℕ
requested_replies showing explains values first lines wanted =
    option_map_or (explains values) wanted (command_reply showing values (session_command first))
    ++ explained_replies showing explains (option_map_or (λ name. values) wanted (command_values showing values (session_command first))) lines

-- a line other than `why` has the session's reply
pub line_then : (showing : Showing) (explains : Explaining) (values : List Value) (first : List ℕ) (lines : List (List ℕ)) → why_name first ≡ None
    → explained_replies showing explains values (first ∷ lines)
    ≡ command_reply showing values (session_command first) ++ explained_replies showing explains (command_values showing values (session_command first)) lines
line_then showing explains values first lines is = ap (requested_replies showing explains values first lines) is

-- `why NAME` is answered by the explanation, and the values stay
pub why_then : (showing : Showing) (explains : Explaining) (values : List Value) (first name : List ℕ) (lines : List (List ℕ)) → why_name first ≡ Some name
    → explained_replies showing explains values (first ∷ lines) ≡ explains values name ++ explained_replies showing explains values lines
why_then showing explains values first name lines is = ap (requested_replies showing explains values first lines) is

-- without any `why` line
pub without_why : (showing : Showing) (explains : Explaining) (values : List Value) (lines : List (List ℕ))
    → AllByRecursion (λ line. why_name line ≡ None) lines
    → explained_replies showing explains values lines ≡ lines_replies showing values lines
without_why showing explains values [] none = refl
without_why showing explains values (first ∷ lines) none =
    line_then showing explains values first lines none.0
    ∙ ap (λ rest. command_reply showing values (session_command first) ++ rest)
    (without_why showing explains (command_values showing values (session_command first)) lines none.1)

-- the replies to lines begin with the reply to the first
pub replies-begin : (showing : Showing) (explains : Explaining) (values : List Value) (front lines : List (List ℕ))
    → (text : List ℕ) × (explained_replies showing explains values (front ++ lines) ≡ explained_replies showing explains values front ++ text)
replies-begin showing explains values [] lines = (explained_replies showing explains values lines, refl)
replies-begin showing explains values (first ∷ front) lines =
    let more = replies-begin showing explains (explained_values showing values first) front lines in (
      more.0,
      ap (λ text. explained_reply showing explains values first ++ text) more.1
          ∙ sym (append_assoc (explained_reply showing explains values first) (explained_replies showing explains (explained_values showing values first) front)
          more.0),
    )

-- ---- the cost of `why`

-- words that ask why are no command of a session without reports
words_bad : (words : List (List ℕ)) (name : List ℕ) → why_words words ≡ Some name → words_command words ≡ bad
words_bad [] name is = absurd (cc is)
words_bad (word ∷ []) name is = absurd (cc is)
words_bad (word ∷ other ∷ []) name is = by (bytes_eq word (codes "why")) refl is
  where
    by : (b : Bool) → bytes_eq word (codes "why") ≡ b → cond b (Some other) None ≡ Some name → cond (bytes_eq word (codes "clear")) (clears other) bad ≡ bad
    by true same found =
        subst (λ (w : List ℕ). cond (bytes_eq w (codes "clear")) (clears other) bad ≡ bad) (sym ((bytes_eq-Decides word (codes "why")).0 same)) refl
    by false same found = absurd (cc found)
words_bad (word ∷ other ∷ third ∷ words) name is = absurd (cc is)

why_is_bad : (bytes name : List ℕ) → why_name bytes ≡ Some name → session_command bytes ≡ bad
why_is_bad bytes name = by (nat_le (length bytes) SESSION_LINE_BYTES)
  where
    by : (b : Bool) → cond b (why_words (line_words (without_return bytes))) None ≡ Some name
        → cond b (words_command (line_words (without_return bytes))) too_long ≡ bad
    by true is = words_bad (line_words (without_return bytes)) name is
    by false is = absurd (cc is)

-- a `why` line costs nothing, and leaves the costs of further lines as they are
pub why_costs : (seated : Seated) (bytes name : List ℕ) (lines : List (List ℕ)) → why_name bytes ≡ Some name
    → lines_cost seated (bytes ∷ lines) ≡ 0 + lines_cost seated lines
why_costs seated bytes name lines is =
    ap (λ command. command_cost seated command + lines_cost (record {
      sitting = record seated.sitting { values = command_values (showing_of seated.sitting) seated.sitting.values command };
      since = since_command seated command;
    }) lines)
    (why_is_bad bytes name is)
