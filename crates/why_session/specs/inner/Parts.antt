-- The invariant of a session joined to a reporter, and its replies to lines over the length limit.
use Rattle.std.proofs.Common.{◌≡◌, ℕ, ◌<◌, List, ◌∷◌, ◌++◌, length, Option, None, refl, sym, ap, ◌∙◌}
use Rattle.std.specs.Option.{option_map_or}
use Rattle.std.proofs.lemmas.Bool.{lt-leb}
use Rattle.m_places.specs.declared.limits.TheConstants.{SESSION_LINE_BYTES}
use Rattle.m_fixed.specs.declared.amount.Value.{Value}
use Rattle.observables.specs.Inputs.{AreValuesOf}
use Rattle.household_session.specs.Commands.{SessionCommand, session_command}
use Rattle.household_session.specs.Replies.{command_reply, command_values}
use Rattle.household_session.specs.Repliers.{Replied}
use Rattle.household_session.specs.Seats.{Seated}
use Rattle.household_session.specs.Sessions.{Showing, showing_of}
use Rattle.household_session.specs.inner.Alike as alike
use Rattle.household_session.specs.inner.Alike.{too_long_is}
use Rattle.m_symbols.specs.Declarations.{Declared, owners_from}
use Rattle.why_report.specs.Starts.{IsStart, Reporting}
use Rattle.why_session.specs.Explains.{Explaining, explained_replies, why_name}
use Rattle.why_session.specs.Joined.{Joined, explains_by, joined_replies}

-- The parts fit: the reporter is over the declarations, and has the values of the session's inputs, each within its
-- type.
pub record AreJoined (seated : Seated) (reporting : Reporting) (declared : Declared) : Type 0 where
  pub start : IsStart declared reporting
  pub same : reporting.inputs ≡ seated.sitting.values
  pub values : AreValuesOf seated.sitting.face.inputs seated.sitting.values
  pub cells : reporting.ordered.base.cells ≡ length (owners_from 0 declared.variables)

-- a line over the length limit is no `why`
too_long_names_none : (bytes : List ℕ) → SESSION_LINE_BYTES < length bytes → why_name bytes ≡ None
too_long_names_none bytes long = rw (lt-leb (length bytes) SESSION_LINE_BYTES long) refl

-- the replies to a line with this request, and to further lines
abbrev replies_to_why : Showing → Explaining → List Value → List (List ℕ) → Option (List ℕ) → SessionCommand → List ℕ
replies_to_why showing explains values lines wanted command =
    option_map_or (explains values) wanted (command_reply showing values command)
    ++ explained_replies showing explains (option_map_or (λ name. values) wanted (command_values showing values command)) lines

replies_long : (showing : Showing) (explains : Explaining) (values : List Value) (one other : List ℕ) (lines : List (List ℕ)) → SESSION_LINE_BYTES < length one
    → SESSION_LINE_BYTES < length other
    → explained_replies showing explains values (one ∷ lines) ≡ explained_replies showing explains values (other ∷ lines)
replies_long showing explains values one other lines long longer =
    ap (λ wanted. replies_to_why showing explains values lines wanted (session_command one)) (too_long_names_none one long
    ∙ sym (too_long_names_none other longer))
    ∙ ap (λ command. replies_to_why showing explains values lines (why_name other) command) (too_long_is one long ∙ sym (too_long_is other longer))

pub long_alike : (joined : Joined) (one other : List ℕ) (lines : List (List ℕ)) → SESSION_LINE_BYTES < length one → SESSION_LINE_BYTES < length other
    → joined_replies joined (one ∷ lines) ≡ joined_replies joined (other ∷ lines)
long_alike joined one other lines long longer =
    let texts = replies_long (showing_of joined.seated.sitting) (explains_by joined.declared joined.reporting.ordered) joined.seated.sitting.values one other
    lines long longer in
    let costs = ap (λ (replies : Replied). replies.cost) (alike.long_alike joined.seated one other lines long longer) in
    λ i. record { text = texts i; cost = costs i }
