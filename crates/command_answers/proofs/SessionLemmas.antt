-- A session of a program replies as its scheme specifies.
use Rattle.std.proofs.Common.{◌≡◌, ℕ, ℤ, length, List, [], ◌∷◌, ◌++◌, Option, Some, None, refl, ◌∙◌, ap}
use Rattle.std.specs.Prelude.{codes}
use Rattle.m_fixed.specs.declared.amount.Value.{Value}
use Rattle.observables.specs.declared.inputs.Coded.{Coded}
use Rattle.observables.specs.Inputs.{AreValuesOf}
use Rattle.household_session.specs.Commands.{SessionCommand, no_words, sets, clears, shows, too_long, bad, session_command}
use Rattle.household.specs.Household.{values_of}
use Rattle.household_session.specs.Replies.{command_reply, command_values, ended_lines}
use Rattle.household_session.specs.Sessions.{Showing, line}
use Rattle.household_session.proofs.ReplyLemmas.{ended_lines-begin, input_lines-begin}
use Rattle.household_session.proofs.TypeLemmas.{command_keeps}
use Rattle.why_session.specs.Explains.{Explaining, explained_replies, why_name}
use Rattle.why_session.proofs.LineLemmas.{requested_replies, replies-begin}
use Rattle.code_answers.specs.Schemes.{Scheme}
use Rattle.command_answers.specs.Sessions.{ended_replies, replies_by, scheme_showing, session_replies}

-- ---- two sessions with the same inputs, whose texts are the same for such values

abbrev with_text : List Coded → (List Value → List ℕ) → Showing
with_text inputs text = record { inputs = inputs; text = text }

same_reply : (inputs : List Coded) (one other : List Value → List ℕ) (values : List Value) (command : SessionCommand) → one values ≡ other values
    → command_reply (with_text inputs one) values command ≡ command_reply (with_text inputs other) values command
same_reply inputs one other values no_words same = refl
same_reply inputs one other values (sets code amount) same = refl
same_reply inputs one other values (clears code) same = refl
same_reply inputs one other values shows same = ap (λ text. text ++ line (codes ".")) same
same_reply inputs one other values too_long same = refl
same_reply inputs one other values bad same = refl

same_values : (inputs : List Coded) (one other : List Value → List ℕ) (values : List Value) (command : SessionCommand)
    → command_values (with_text inputs one) values command ≡ command_values (with_text inputs other) values command
same_values inputs one other values no_words = refl
same_values inputs one other values (sets code amount) = refl
same_values inputs one other values (clears code) = refl
same_values inputs one other values shows = refl
same_values inputs one other values too_long = refl
same_values inputs one other values bad = refl

-- one more line, where the replies to further lines are the same
same_turn : (inputs : List Coded) (one other : List Value → List ℕ) (explains : Explaining) (first : List ℕ) (lines : List (List ℕ))
    → ((values : List Value) → AreValuesOf inputs values → one values ≡ other values)
    → ((values : List Value) → AreValuesOf inputs values → explained_replies (with_text inputs one) explains values lines ≡ explained_replies
    (with_text inputs other) explains values lines)
    → (values : List Value) → AreValuesOf inputs values → (wanted : Option (List ℕ))
    → requested_replies (with_text inputs one) explains values first lines wanted ≡ requested_replies (with_text inputs other) explains values first lines
    wanted
same_turn inputs one other explains first lines same rest values all (Some name) = ap (λ text. explains values name ++ text) (rest values all)
same_turn inputs one other explains first lines same rest values all None =
    ap (λ reply. reply ++ explained_replies (with_text inputs one) explains (command_values (with_text inputs one) values (session_command first)) lines)
    (same_reply inputs one other values (session_command first) (same values all))
    ∙ ap (λ text. command_reply (with_text inputs other) values (session_command first) ++ text)
    (rest (command_values (with_text inputs one) values (session_command first)) (command_keeps (with_text inputs one) values (session_command first) all)
    ∙ ap (λ vs. explained_replies (with_text inputs other) explains vs lines) (same_values inputs one other values (session_command first)))

same_lines : (inputs : List Coded) (one other : List Value → List ℕ) (explains : Explaining)
    → ((values : List Value) → AreValuesOf inputs values → one values ≡ other values)
    → (lines : List (List ℕ)) (values : List Value) → AreValuesOf inputs values
    → explained_replies (with_text inputs one) explains values lines ≡ explained_replies (with_text inputs other) explains values lines
same_lines inputs one other explains same [] values all = refl
same_lines inputs one other explains same (first ∷ lines) values all =
    same_turn inputs one other explains first lines same (λ vs h. same_lines inputs one other explains same lines vs h) values all (why_name first)

-- the replies to lines
pub replies_are : (one other : Showing) (explains : Explaining) → one.inputs ≡ other.inputs
    → ((values : List Value) → AreValuesOf other.inputs values → one.text values ≡ other.text values)
    → (lines : List (List ℕ)) (values : List Value) → AreValuesOf other.inputs values
    → explained_replies one explains values lines ≡ explained_replies other explains values lines
replies_are one other explains known same lines values all =
    ap (λ inputs. explained_replies (with_text inputs one.text) explains values lines) known
    ∙ same_lines other.inputs one.text other.text explains same lines values all

-- ---- the replies to a prefix of an input

-- the replies to all lines of an input begin with those to the lines of a prefix of it that have their line feed
pub whole_begins : (scheme : Scheme) (explains : Explaining) (pairs : List (ℕ × ℤ)) (front rest : List ℕ)
    → (text : List ℕ) × (session_replies scheme explains pairs (front ++ rest) ≡ ended_replies scheme explains pairs front ++ text)
whole_begins scheme explains pairs front rest =
    let lines = input_lines-begin front rest in
    let more = replies-begin (scheme_showing scheme) explains (values_of pairs (length scheme.inputs)) (ended_lines front) lines.0 in
    (more.0, ap (replies_by scheme explains pairs) lines.1 ∙ more.1)

-- so do the replies to those of its lines that have their line feed
pub ended_begins : (scheme : Scheme) (explains : Explaining) (pairs : List (ℕ × ℤ)) (front rest : List ℕ)
    → (text : List ℕ) × (ended_replies scheme explains pairs (front ++ rest) ≡ ended_replies scheme explains pairs front ++ text)
ended_begins scheme explains pairs front rest =
    let lines = ended_lines-begin front rest in
    let more = replies-begin (scheme_showing scheme) explains (values_of pairs (length scheme.inputs)) (ended_lines front) lines.0 in
    (more.0, ap (replies_by scheme explains pairs) lines.1 ∙ more.1)
