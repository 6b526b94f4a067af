-- What a session joined to a reporter replies, and what it keeps.
use Rattle.std.proofs.Common.{◌≡◌, ℕ, set, List, ◌∷◌, None, Some, sym, ap, ◌∙◌, subst}
use Rattle.std.specs.Option.{option_map_or}
use Rattle.std.specs.Prelude.{codes}
use Rattle.m_fixed.specs.declared.amount.Value.{Value}
use Rattle.observables.specs.Inputs.{AreValuesOf}
use Rattle.flat_code.specs.Runs.{value_at}
use Rattle.m_symbols.specs.Declarations.{Declared}
use Rattle.m_symbols.specs.Cells.{request_cell}
use Rattle.micro_m.specs.Values.{environment}
use Rattle.household_session.specs.Commands.{session_command}
use Rattle.household_session.specs.Repliers.{Replying, replied_then}
use Rattle.household_session.specs.Replies.{after_line, input_named}
use Rattle.household_session.specs.Seats.{Seated, lines_cost, seated_after, seated_reply}
use Rattle.household_session.specs.Sessions.{Sitting, line, showing_of}
use Rattle.household_session.proofs.TypeLemmas.{command_keeps}
use Rattle.why_report.specs.Reasons.{why_lines}
use Rattle.why_report.specs.Starts.{IsStart, Reporting, start_env, with_input, with_lines}
use Rattle.why_report.specs.declared.line.ReportLine.{ReportLine}
use Rattle.why_session.specs.Explains.{explained_replies, why_name, report_lines_of}
use Rattle.why_session.specs.Joined.{Joined, explains_by, explains_in, joined_replies}
use Rattle.why_session.specs.inner.Parts.{AreJoined}
use Rattle.why_session.proofs.LineLemmas.{line_then, why_costs, why_then}
use Rattle.why_session.proofs.EditLemmas.{named_edit}

-- ---- the reply to why

-- the lines that the reporter finds are the explanation of the name
pub reported_why : (joined : Joined) (name : List ℕ) (c : ℕ) (lines : List ReportLine) → AreJoined joined.seated joined.reporting joined.declared
    → request_cell joined.declared name ≡ Some c
    → lines ≡ why_lines joined.reporting.ordered (environment joined.reporting.env) c → explains_in joined name ≡ report_lines_of joined.declared lines
reported_why joined name c lines parts is found =
    ap (λ o. option_map_or (λ d. report_lines_of joined.declared
    (why_lines joined.reporting.ordered (environment (start_env joined.declared joined.seated.sitting.values)) d)) o
    (line (codes "refused unknown variable"))) is
    ∙ ap (λ (env : List Value). report_lines_of joined.declared (why_lines joined.reporting.ordered (environment env) c))
    (sym (parts.start.env ∙ ap (start_env joined.declared) parts.same))
    ∙ ap (report_lines_of joined.declared) (sym found)

-- a name that no cell has
pub reported_unknown : (joined : Joined) (name : List ℕ) → request_cell joined.declared name ≡ None
    → explains_in joined name ≡ line (codes "refused unknown variable")
reported_unknown joined name is =
    ap (λ o. option_map_or (λ d. report_lines_of joined.declared
    (why_lines joined.reporting.ordered (environment (start_env joined.declared joined.seated.sitting.values)) d)) o
    (line (codes "refused unknown variable"))) is

-- finding lines changes nothing else
pub found_stays : (seated : Seated) (reporting new : Reporting) (declared : Declared) (lines : List ReportLine) → AreJoined seated reporting declared
    → new ≡ with_lines reporting lines
    → IsStart declared new → AreJoined seated new declared
found_stays seated reporting new declared lines parts is start = record {
  start = start;
  same = ap (λ (r : Reporting). r.inputs) is ∙ parts.same;
  values = parts.values;
  cells = ap (λ (r : Reporting). r.ordered.base.cells) is ∙ parts.cells;
}

pub replies_stay : (seated : Seated) (reporting new : Reporting) (declared : Declared) (lines : List ReportLine) → new ≡ with_lines reporting lines
    → joined_replies (record { seated = seated; reporting = new; declared = declared }) ≡ joined_replies
    (record { seated = seated; reporting = reporting; declared = declared })
replies_stay seated reporting new declared lines is =
    ap (λ (r : Reporting). joined_replies (record { seated = seated; reporting = r; declared = declared })) is

-- ---- a line

-- an edit is applied to the reporter
pub line_put : (seated later : Seated) (reporting new : Reporting) (declared : Declared) (bytes : List ℕ) (input : ℕ) → AreJoined seated reporting declared
    → later.sitting ≡ after_line seated.sitting bytes → input_named seated.sitting.face.inputs (session_command bytes) ≡ Some input
    → new ≡ with_input reporting input (value_at later.sitting.values input) → IsStart declared new → AreJoined later new declared
line_put seated later reporting new declared bytes input parts after named put start = record {
  start = start;
  same = ap (λ (r : Reporting). r.inputs) put ∙ ap (λ (vs : List Value). set vs input (value_at later.sitting.values input)) parts.same
      ∙ ap (λ (s : Sitting). set seated.sitting.values input (value_at s.values input)) after
      ∙ named_edit (showing_of seated.sitting) seated.sitting.values (session_command bytes) input named
      ∙ sym (ap (λ (s : Sitting). s.values) after);
  values = subst (λ (s : Sitting). AreValuesOf s.face.inputs s.values) (sym after)
      (command_keeps (showing_of seated.sitting) seated.sitting.values (session_command bytes) parts.values);
  cells = ap (λ (r : Reporting). r.ordered.base.cells) put ∙ parts.cells;
}

-- the replies after a line are those of the session that it leaves
pub line_goes_on : (joined later : Joined) (bytes : List ℕ) → why_name bytes ≡ None → later.seated ≡ seated_after joined.seated bytes
    → later.declared ≡ joined.declared → later.reporting.ordered ≡ joined.reporting.ordered → (lines : List (List ℕ))
    → joined_replies joined (bytes ∷ lines) ≡ replied_then (seated_reply joined.seated bytes) (joined_replies later lines)
line_goes_on joined later bytes none after declared ordered lines =
    let text = line_then (showing_of joined.seated.sitting) (explains_by joined.declared joined.reporting.ordered) joined.seated.sitting.values bytes lines none
    in
    (λ i. record { text = text i; cost = lines_cost joined.seated (bytes ∷ lines) })
    ∙ sym (λ i. replied_then (seated_reply joined.seated bytes) (record {
      text = explained_replies (showing_of (after i).sitting) (explains_by (declared i) (ordered i)) (after i).sitting.values lines;
      cost = lines_cost (after i) lines;
    }))

pub why_goes_on : (joined later : Joined) (bytes name : List ℕ) → why_name bytes ≡ Some name → joined_replies later ≡ joined_replies joined
    → (lines : List (List ℕ))
    → joined_replies joined (bytes ∷ lines) ≡ replied_then (record { text = explains_in joined name; cost = 0 }) (joined_replies later lines)
why_goes_on joined later bytes name is same lines =
    let texts = why_then (showing_of joined.seated.sitting) (explains_by joined.declared joined.reporting.ordered) joined.seated.sitting.values bytes name
    lines is in
    let costs = why_costs joined.seated bytes name lines is in
    (λ i. record { text = texts i; cost = costs i })
    ∙ sym (ap (λ (current : Replying). replied_then (record { text = explains_in joined name; cost = 0 }) (current lines)) same)
