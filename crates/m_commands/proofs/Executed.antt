-- `exec` on the code file that `compile` wrote answers as `run` does on the source.
use Rattle.std.proofs.Common.{◌≡◌, ℕ, List, [], Ok, Err, refl, sym, ap, ◌∙◌, subst}
use Rattle.m_fixed.specs.declared.amount.Value.{Value}
use Rattle.m_places.specs.declared.source.Source.{Source}
use Rattle.code_file.specs.declared.loaded.Loaded.{Loaded}
use Rattle.household.specs.Household.{household_of}
use Rattle.observables.specs.declared.answer.Answer.{Answer}
use Rattle.observables.specs.declared.face.Face.{Face}
use Rattle.reg_machine.specs.Machine.{machine_run}
use Rattle.command_plans.specs.declared.status.Status.{Status}
use Rattle.command_plans.specs.declared.status.Status.TheVariants.{Done}
use Rattle.tax_print.specs.Lines.{observation_lines}
use Rattle.code_file.specs.Reading.{IsFormOf}
use Rattle.code_answers.specs.Execs.{ExecReplies, ExecHasAnswer}
use Rattle.code_answers.specs.Households.{observation_status}
use Rattle.code_answers.specs.Shown.{HouseholdReplies, Shows}
use Rattle.code_answers.specs.Replies.{file_is_answered, file_is_refused, is_answered, is_refused}
use Rattle.code_answers.specs.Schemes.{Scheme, observation_for}
use Rattle.command_answers.specs.Compiles.{CompileReplies}
use Rattle.command_answers.specs.Prepared.{IsPreparedCode}
use Rattle.command_answers.specs.Runs.{RunReplies, RunHasAnswer}
use Rattle.command_answers.specs.Sources.{IsScheme}
use Rattle.code_file.proofs.FormLaws.{no-fault-of-form}
use Rattle.code_answers.proofs.OneLaws.{one_inputs, one_loaded, shown_other}
use Rattle.command_answers.proofs.SchemeLaws.{no_scheme_and_fault, one_scheme}
use Rattle.m_commands.proofs.Codes.{one_reported}
use Rattle.m_commands.proofs.Compiling.{written}

-- the answer to a household by one scheme is that by the other
same_replies : (face : Face) (runs : List Value → Answer) (one other : Scheme) (rows text : List ℕ) (status : Status) → Shows one face runs
    → Shows other face runs
    → HouseholdReplies [] one rows text status → HouseholdReplies [] other rows text status
same_replies face runs one other rows text status a b (file_is_refused fault g k) =
    file_is_refused fault (subst (λ inputs. household_of inputs rows ≡ Err fault) (one_inputs face runs one other a b) g) k
same_replies face runs one other rows text status a b (file_is_answered pairs g) =
    let f : household_of other.inputs rows ≡ Ok pairs = subst (λ inputs. household_of inputs rows ≡ Ok pairs) (one_inputs face runs one other a b) g in
    let e : observation_for other pairs ≡ observation_for one pairs = sym (one_reported face runs one other rows pairs a b g f) in
    let n : other.names ≡ one.names = sym b.names ∙ a.names in
    let t : observation_lines other.names (observation_for other pairs) ≡ observation_lines one.names (observation_for one pairs) = λ i. observation_lines (n i)
    (e i) in
    let r : HouseholdReplies [] other rows (observation_lines other.names (observation_for other pairs))
    (observation_status (observation_for other pairs)) = file_is_answered pairs f in
    subst (λ (s : Status). HouseholdReplies [] other rows (observation_lines one.names (observation_for one pairs)) s) (ap observation_status e)
    (subst (λ (x : List ℕ). HouseholdReplies [] other rows x (observation_status (observation_for other pairs))) t r)

-- the answer of `exec` by a code file compiled from a source is an answer of `run` on the source
executed : (source : Source) (loaded : Loaded) (code rows text : List ℕ) (status : Status) → IsPreparedCode source loaded → IsFormOf code loaded
    → ExecReplies code rows text status
    → RunReplies source rows text status
executed source loaded code rows text status p form (is_refused a) = absurd (no-fault-of-form code loaded a.0 form a.1)
executed source loaded code rows text status p form (is_answered scheme shown replies) =
    let e = one_loaded code shown.0 loaded shown.1 form in
    let a = shown_other scheme shown.0 loaded e shown.2 in
    is_answered p.scheme p.valid (same_replies loaded.face (machine_run loaded.code) scheme p.scheme rows text status a p.shows replies)

-- the code shows each scheme of the source
shown_by : (source : Source) (loaded : Loaded) (scheme : Scheme) → IsPreparedCode source loaded → IsScheme source scheme
    → Shows scheme loaded.face (machine_run loaded.code)
shown_by source loaded scheme p v = subst (λ (s : Scheme). Shows s loaded.face (machine_run loaded.code)) (one_scheme source p.scheme scheme p.valid v) p.shows

-- the answer of `run` on the source is an answer of `exec` by the code file
ran : (source : Source) (loaded : Loaded) (code rows text : List ℕ) (status : Status) → IsPreparedCode source loaded → IsFormOf code loaded
    → RunReplies source rows text status
    → ExecReplies code rows text status
ran source loaded code rows text status p form (is_refused a) = absurd (no_scheme_and_fault source p.scheme a.0 p.valid a.1)
ran source loaded code rows text status p form (is_answered scheme v replies) =
    is_answered scheme (loaded, form, shown_by source loaded scheme p v) replies

-- ---- the text that `compile` has written

-- on it `exec` gives the answers of `run` on the source, and no others
pub executed_as : (source : Source) (code rows text : List ℕ) (status : Status) → CompileReplies source code Done
    → (ExecReplies code rows text status → RunReplies source rows text status) × (RunReplies source rows text status → ExecReplies code rows text status)
executed_as source code rows text status compiled =
    let w = written source code Done refl compiled in
    (executed source w.0 code rows text status w.1 w.2, ran source w.0 code rows text status w.1 w.2)

-- it has an answer if the source has one
pub answered_as : (source : Source) (code rows : List ℕ) → CompileReplies source code Done → RunHasAnswer source rows → ExecHasAnswer code rows
answered_as source code rows compiled h =
    let w = written source code Done refl compiled in
    record {
      own = w.0;
      has = w.2;
      given = h.given;
      is_given = ap (λ inputs. household_of inputs rows) (shown_by source w.0 h.own w.1 h.has).inputs
          ∙ h.is_given;
    }
