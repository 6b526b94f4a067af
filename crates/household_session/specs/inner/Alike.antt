-- The reply of a session to a line that is too long, and its cost, don't depend on its bytes.
use Rattle.std.proofs.Common.{◌≡◌, ℕ, ◌<◌, List, ◌∷◌, length, refl, sym, ap, ◌∙◌}
use Rattle.std.proofs.lemmas.Bool.{lt-leb}
use Rattle.m_places.specs.declared.limits.TheConstants.{SESSION_LINE_BYTES}
use Rattle.household_session.specs.Commands.{too_long, session_command}
use Rattle.household_session.specs.Repliers.{replied_then}
use Rattle.household_session.specs.Replies.{command_reply, command_values}
use Rattle.household_session.specs.Seats.{Seated, command_cost, seated_replies, since_command}
use Rattle.household_session.specs.Sessions.{showing_of}

-- a line that is too long is an error
pub too_long_is : (bytes : List ℕ) → SESSION_LINE_BYTES < length bytes → session_command bytes ≡ too_long
too_long_is bytes long = rw (lt-leb (length bytes) SESSION_LINE_BYTES long) refl

pub long_alike : (seated : Seated) (one other : List ℕ) (lines : List (List ℕ)) → SESSION_LINE_BYTES < length one → SESSION_LINE_BYTES < length other
    → seated_replies seated (one ∷ lines) ≡ seated_replies seated (other ∷ lines)
long_alike seated one other lines long longer =
    ap (λ c. replied_then (record { text = command_reply (showing_of seated.sitting) seated.sitting.values c; cost = command_cost seated c })
    (seated_replies (record {
      sitting = record seated.sitting { values = command_values (showing_of seated.sitting) seated.sitting.values c };
      since = since_command seated c;
    }) lines))
    (too_long_is one long ∙ sym (too_long_is other longer))
