-- A code file is the form of one code, and code shows one scheme. A file and a code file have one answer.
use Rattle.std.proofs.Common.{◌≡◌, ℕ, List, Option, Result, Ok, refl, sym, ap, ◌∙◌, subst}
use Rattle.m_fixed.specs.declared.amount.Value.{Value}
use Rattle.observables.specs.Answers.{observation}
use Rattle.observables.specs.Outputs.{names_of, notes_of}
use Rattle.observables.specs.declared.answer.Answer.{Answer}
use Rattle.observables.specs.declared.face.Face.{Face}
use Rattle.observables.specs.declared.inputs.Coded.{Coded}
use Rattle.reg_machine.specs.Machine.{machine_run}
use Rattle.code_file.specs.Reading.{IsFormOf}
use Rattle.code_file.specs.declared.loaded.Loaded.{Loaded}
use Rattle.code_file.proofs.EntryLaws.{one-fault}
use Rattle.code_file.proofs.FormLaws.{no-fault-of-form, one-form}
use Rattle.command_plans.specs.Status.{IsComplete}
use Rattle.command_plans.specs.declared.status.Status.{Status}
use Rattle.command_plans.specs.declared.status.Status.TheVariants.{Refused}
use Rattle.command_plans.proofs.PrintedLemmas.{one_line}
use Rattle.code_answers.specs.Execs.{CodeReplies, code_fault_line}
use Rattle.code_answers.specs.Replies.{FileReplies, HasGiven, file_is_answered, file_is_refused, is_answered, is_refused}
use Rattle.code_answers.specs.Schemes.{Scheme}
use Rattle.code_answers.specs.Shown.{Shows}

-- loaded code with the same parts is equal (proofs are irrelevant)
pub record IsSameCode (one other : Loaded) : Type 0 where
  pub code : one.code ≡ other.code
  pub inputs : one.face.inputs ≡ other.face.inputs
  pub labels : one.face.labels ≡ other.face.labels
  pub outputs : one.face.outputs ≡ other.face.outputs

-- a code file is the form of one loaded code
pub one_loaded : (code : List ℕ) (one other : Loaded) → IsFormOf code one → IsFormOf code other → IsSameCode one other
one_loaded code one other a b = let same = one-form code one other a b in record { code = same.0; inputs = same.1; labels = same.2; outputs = same.3 }

-- two schemes of one program have the same inputs
pub one_inputs : (face : Face) (runs : List Value → Answer) (one other : Scheme) → Shows one face runs → Shows other face runs → one.inputs ≡ other.inputs
one_inputs face runs one other a b = sym a.inputs ∙ b.inputs

-- equal code shows the same scheme
pub shown_other : (scheme : Scheme) (one other : Loaded) → IsSameCode one other → Shows scheme one.face (machine_run one.code)
    → Shows scheme other.face (machine_run other.code)
shown_other scheme one other same s = record {
  inputs = sym same.inputs ∙ s.inputs;
  names = ap names_of (sym same.outputs) ∙ s.names;
  answers = λ values given. (λ i. observation (sym same.labels i) (notes_of (sym same.outputs i)) (machine_run (sym same.code i) values))
      ∙ s.answers values given;
}

-- ---- one answer

-- a file has one answer, where what it states has one
pub one_file : {Given Fault : Type 0} (stated other : Result Given Fault) (line_of : Fault → Option (List ℕ)) (text_of also : Given → List ℕ)
    (status_of ending : Given → Status) (t u : List ℕ) (s r : Status) → stated ≡ other
    → ((given : Given) → stated ≡ Ok given → (text_of given ≡ also given) × (status_of given ≡ ending given))
    → FileReplies stated line_of text_of status_of t s → FileReplies other line_of also ending u r → (t ≡ u) × (s ≡ r)
one_file stated other line_of text_of also status_of ending t u s r same one (file_is_refused fault g k) (file_is_refused found h l) =
    (one_line line_of fault found t u (cc (same, g, h)) k l, refl)
one_file stated other line_of text_of also status_of ending t u s r same one (file_is_refused fault g k) (file_is_answered given h) = absurd (cc (same, g, h))
one_file stated other line_of text_of also status_of ending t u s r same one (file_is_answered given g) (file_is_refused fault h l) = absurd (cc (same, g, h))
one_file stated other line_of text_of also status_of ending t u s r same one (file_is_answered given g) (file_is_answered found h) =
    let e : given ≡ found = cc (same, g, h) in
    let o = one given g in
    (o.0 ∙ ap also e, o.1 ∙ ap ending e)

-- a code file has one answer, where a program has one by any two schemes that it shows
pub one_code : (One : List ℕ → Status → List ℕ → Status → Type 0) (code : List ℕ) (Replies : Scheme → List ℕ → Status → Type 0) (t u : List ℕ)
    (s r : Status) → ((x y : List ℕ) → x ≡ y → One x Refused y Refused)
    → ((face : Face) (runs : List Value → Answer) (one other : Scheme) → Shows one face runs → Shows other face runs → Replies one t s → Replies other u r
    → One t s u r)
    → CodeReplies code Replies t s → CodeReplies code Replies u r → One t s u r
one_code One code Replies t u s r same one (is_refused a) (is_refused b) =
    same t u (one_line code_fault_line a.0 b.0 t u (one-fault code a.0 b.0 a.1 b.1) a.2 b.2)
one_code One code Replies t u s r same one (is_refused a) (is_answered scheme shown b) = absurd (no-fault-of-form code shown.0 a.0 shown.1 a.1)
one_code One code Replies t u s r same one (is_answered scheme shown a) (is_refused b) = absurd (no-fault-of-form code shown.0 b.0 shown.1 b.1)
one_code One code Replies t u s r same one (is_answered scheme shown a) (is_answered other seen b) =
    one seen.0.face (machine_run seen.0.code) scheme other
    (shown_other scheme shown.0 seen.0 (one_loaded code shown.0 seen.0 shown.1 seen.1) shown.2) seen.2 a b

-- ---- what has an answer isn't rejected

-- a file without a fault
pub file_complete : {Given Fault : Type 0} (stated : Result Given Fault) (line_of : Fault → Option (List ℕ)) (text_of : Given → List ℕ)
    (status_of : Given → Status) (given : Given) (text : List ℕ) (status : Status) → stated ≡ Ok given → ((each : Given) → IsComplete (status_of each))
    → FileReplies stated line_of text_of status_of text status → IsComplete status
file_complete stated line_of text_of status_of given text status is ends (file_is_refused fault f k) = absurd (cc (is, f))
file_complete stated line_of text_of status_of given text status is ends (file_is_answered other f) = ends other

-- a code file without a fault, and a file without one for its inputs
pub code_complete : {Given Fault : Type 0} (code : List ℕ) (stated : List Coded → Result Given Fault) (line_of : Fault → Option (List ℕ))
    (text_of : Scheme → Given → List ℕ) (status_of : Scheme → Given → Status) (text : List ℕ) (status : Status)
    → ((scheme : Scheme) (given : Given) → IsComplete (status_of scheme given))
    → HasGiven (IsFormOf code) (λ (loaded : Loaded). stated loaded.face.inputs)
    → CodeReplies code (λ (scheme : Scheme). FileReplies (stated scheme.inputs) line_of (text_of scheme) (status_of scheme)) text status → IsComplete status
code_complete code stated line_of text_of status_of text status ends h (is_refused a) = absurd (no-fault-of-form code h.own a.0 h.has a.1)
code_complete code stated line_of text_of status_of text status ends h (is_answered scheme shown a) =
    file_complete (stated scheme.inputs) line_of (text_of scheme) (status_of scheme) h.given text status
    (subst (λ inputs. stated inputs ≡ Ok h.given) ((one_loaded code h.own shown.0 h.has shown.1).inputs ∙ shown.2.inputs) h.is_given) (ends scheme)
    a
