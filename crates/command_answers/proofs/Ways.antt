-- From what was found and written to a command's ending.
use Rattle.std.proofs.Common.{◌≡◌, ℕ, length, List, [], ◌++◌, Result, Ok, Err, refl, sym, ◌∙◌, ap, subst, inl, inr}
use Rattle.std.specs.Prelude.{IfOk, Some}
use Rattle.m_fixed.specs.declared.amount.Value.{Value}
use Rattle.m_places.specs.declared.source.Source.{Source}
use Rattle.tax_print.specs.FaultLines.{input_too_long_line, unreadable_input_line}
use Rattle.observables.specs.Answers.{observation}
use Rattle.observables.specs.Inputs.{AreValuesOf}
use Rattle.observables.specs.Outputs.{notes_of}
use Rattle.observables.specs.declared.answer.Answer.{Answer}
use Rattle.observables.specs.declared.face.Face.{Face}
use Rattle.flat_code.specs.Runs.{flat_run}
use Rattle.reg_machine.specs.Machine.{machine_run}
use Rattle.reg_machine.proofs.StepLaws.{run-is-flat_run}
use Rattle.code_file.specs.declared.loaded.Loaded.{Loaded}
use Rattle.household.specs.Household.{household_of, values_of}
use Rattle.household.specs.declared.fault.HouseholdFault.{HouseholdFault}
use Rattle.household.proofs.GivenLemmas.{household_gives}
use Rattle.household_session.specs.Replies.{ended_lines, input_lines}
use Rattle.household_session.specs.Sessions.{Sitting, begun, showing_of}
use Rattle.m_symbols.specs.Declarations.{Declared}
use Rattle.rule_order.specs.declared.ordered.Ordered.{Ordered}
use Rattle.household_session.specs.Repliers.{ended_of, whole_of}
use Rattle.why_session.specs.Explains.{Explaining, explained_replies}
use Rattle.why_session.specs.Joined.{Joined, explains_by, joined_replies}
use Rattle.m_compile.specs.Compiled.{IsCompiled, IsProgramOf, IsRunnable}
use Rattle.m_compile.specs.Faults.{IsSourceFault}
use Rattle.m_compile.specs.Lines.{source_line}
use Rattle.m_compile.specs.declared.compiling.Program.{Program}
use Rattle.m_compile.specs.declared.fault.SourceFault.{SourceFault}
use Rattle.m_compile.specs.declared.fault.SourceFault.TheVariants as source_fault
use Rattle.m_places.specs.Refusals.{Outcome}
use Rattle.command_plans.specs.Printing.{Appends, Breaks, IsAnswered, Prints, printed, no_memory}
use Rattle.command_plans.specs.Views.{InputView, OutputView}
use Rattle.command_plans.specs.declared.status.Status.{Status}
use Rattle.command_plans.specs.declared.status.Status.TheVariants.{ReadFault, Refused}
use Rattle.code_answers.specs.Parts.{IsWrittenInParts}
use Rattle.command_answers.specs.Compiles.{CompileReplies}
use Rattle.command_answers.specs.Compiles as compile
use Rattle.code_answers.specs.Households.{household_fault_line}
use Rattle.code_answers.specs.Replies.{file_is_refused, is_answered, is_refused}
use Rattle.code_answers.specs.Shown.{HouseholdReplies, IsRunnableCode, Shows}
use Rattle.command_answers.specs.Prepared.{IsPreparedCode}
use Rattle.command_answers.specs.Explained.{IsExplained}
use Rattle.code_answers.specs.Schemes.{Scheme}
use Rattle.command_answers.specs.Serves.{IsServed}
use Rattle.command_answers.specs.Serves as serve
use Rattle.command_answers.specs.Serving.{Served, to_its_end, unread, too_long, unwritten, unwritten_at_end}
use Rattle.command_answers.specs.Sessions.{ended_replies, replies_by, scheme_showing, session_replies}
use Rattle.command_answers.specs.Sources.{IsScheme, SourceReplies, source_scheme}
use Rattle.command_answers.specs.inner.Answers.{IsBegun, IsExplainerOf, IsFileOf, IsPrepared, IsServedBy, is_file}
use Rattle.command_answers.specs.inner.Answers as prepared
use Rattle.code_answers.proofs.CodeLemmas.{spells_whole}
use Rattle.code_answers.proofs.Refusals.{ReportsRefusal}
use Rattle.command_answers.proofs.SessionLemmas.{replies_are}
use Rattle.code_answers.proofs.Shown.{as_many, lines_reported}
use Rattle.code_answers.proofs.Ways.{answered_as, parts_as, refused_as, refused_in_parts}

-- ---- sources

-- a source was rejected
refused : (source : Source) (Replies : Scheme → List ℕ → Status → Type 0) (fault : SourceFault) (line : List ℕ)
    → IsSourceFault source fault × (source_line source.texts fault ≡ Some line)
    → SourceReplies source Replies line Refused
refused source Replies fault line is = is_refused (fault, is.0, is.1)

pub source_refused : (source : Source) (Replies : Scheme → List ℕ → Status → Type 0) (fault : SourceFault) (old new : OutputView) (status : Status)
    → ReportsRefusal (λ line. IsSourceFault source fault × (source_line source.texts fault ≡ Some line)) old new status
    → IsAnswered (SourceReplies source Replies) old new status
source_refused source Replies fault old new status reported =
    refused_as (λ line. IsSourceFault source fault × (source_line source.texts fault ≡ Some line)) (SourceReplies source Replies) old new status
    (refused source Replies fault) reported

pub source_refused_in_parts : (source : Source) (Replies : Scheme → List ℕ → Status → Type 0) (fault : SourceFault) (old new : OutputView) (status : Status)
    → ReportsRefusal (λ line. IsSourceFault source fault × (source_line source.texts fault ≡ Some line)) old new status
    → IsWrittenInParts (SourceReplies source Replies) old new status
source_refused_in_parts source Replies fault old new status reported =
    refused_in_parts (λ line. IsSourceFault source fault × (source_line source.texts fault ≡ Some line)) (SourceReplies source Replies) old new status
    (refused source Replies fault) reported

-- the answer by the scheme of a source's code is the source's
pub source_answered : (source : Source) (loaded : Loaded) (Replies : Scheme → List ℕ → Status → Type 0) (old new : OutputView) (status : Status)
    → (is : IsPreparedCode source loaded) → IsAnswered (Replies is.scheme) old new status → IsAnswered (SourceReplies source Replies) old new status
source_answered source loaded Replies old new status is a =
    answered_as (Replies is.scheme) (SourceReplies source Replies) old new status (λ text own replied. is_answered is.scheme is.valid replied) a

pub source_in_parts : (source : Source) (loaded : Loaded) (Replies : Scheme → List ℕ → Status → Type 0) (old new : OutputView) (status : Status)
    → (is : IsPreparedCode source loaded) → IsWrittenInParts (Replies is.scheme) old new status
    → IsWrittenInParts (SourceReplies source Replies) old new status
source_in_parts source loaded Replies old new status is a =
    parts_as (Replies is.scheme) (SourceReplies source Replies) old new status (λ text own replied. is_answered is.scheme is.valid replied) a

-- ---- sessions

pub serve_refused : (source : Source) (rows : List ℕ) (fault : SourceFault) (heard : InputView) (old new : OutputView) (status : Status)
    → ReportsRefusal (λ line. IsSourceFault source fault × (source_line source.texts fault ≡ Some line)) old new status
    → IsServed source rows heard heard old new status
serve_refused source rows fault heard old new status (inl (line, is, shown)) = serve.refused line
    (refused source (λ scheme. HouseholdReplies [] scheme rows) fault line is) refl shown
serve_refused source rows fault heard old new status (inr (same, memory)) = serve.no_memory refl same memory

pub session_refused : (scheme : Scheme) (explains : Explaining) (face : Face) (runs : List Value → Answer) (rows : List ℕ) (fault : HouseholdFault)
    (heard : InputView) (old new : OutputView) (status : Status) → Shows scheme face runs
    → ReportsRefusal (λ line. (household_of face.inputs rows ≡ Err fault) × (household_fault_line fault ≡ Some line)) old new status
    → IsServedBy scheme explains rows heard heard old new status
session_refused scheme explains face runs rows fault heard old new status shown (inl (line, refused, p)) =
    prepared.refused line fault (subst (λ inputs. household_of inputs rows ≡ Err fault) shown.inputs refused.0) refused.1 refl p
session_refused scheme explains face runs rows fault heard old new status shown (inr (same, memory)) = prepared.no_memory refl same memory

pub serve_answered : (source : Source) (program : Program) (rows : List ℕ) (heard reported : InputView) (old new : OutputView) (status : Status)
    (explains : Explaining) → (is : IsPrepared source program) → IsExplained source explains
    → IsServedBy is.scheme explains rows heard reported old new status → IsServed source rows heard reported old new status
serve_answered source program rows heard reported old new status explains is reasons (prepared.refused line fault faulty stated same p) = serve.refused line
    (is_answered is.scheme is.valid (file_is_refused fault faulty stated)) same p
serve_answered source program rows heard reported old new status explains is reasons (prepared.no_memory same none memory) = serve.no_memory same none memory
serve_answered source program rows heard reported old new status explains is reasons (prepared.served pairs given s) = serve.served is.scheme explains pairs
    (record { valid = is.valid; explained = reasons; given = given }) s

-- the same replies
served_as : (one ended other also : List ℕ → List ℕ) (heard reported : InputView) (old new : OutputView) (status : Status)
    → ((bytes : List ℕ) → one bytes ≡ other bytes) → ((bytes : List ℕ) → ended bytes ≡ also bytes)
    → Served one ended heard reported old new status → Served other also heard reported old new status
served_as one ended other also heard reported old new status w e (to_its_end taken moved few none calm appends is) =
    to_its_end taken moved few none calm (subst (λ text. Appends text old new) (w taken) appends) is
served_as one ended other also heard reported old new status w e (unread taken moved few rose shown) =
    unread taken moved few rose (subst (λ text. Prints (text ++ unreadable_input_line) ReadFault old new status) (e taken) shown)
served_as one ended other also heard reported old new status w e (too_long taken moved full calm shown) =
    too_long taken moved full calm (subst (λ text. Prints (text ++ input_too_long_line) Refused old new status) (e taken) shown)
served_as one ended other also heard reported old new status w e (unwritten taken moved within calm breaks is) =
    unwritten taken moved within calm (subst (λ text. Breaks text old new) (e taken) breaks) is
served_as one ended other also heard reported old new status w e (unwritten_at_end taken moved few none calm breaks is) =
    unwritten_at_end taken moved few none calm (subst (λ text. Breaks text old new) (w taken) breaks) is

-- the replies of a program's session are those of its scheme
same_replies : (scheme : Scheme) (program : Program) (rows : List ℕ) (session : Sitting) (explains : Explaining) → IsRunnable program.face program.tidy
    → Shows scheme program.face (flat_run program.tidy)
    → (of : IsBegun program rows session) → household_of scheme.inputs rows ≡ Ok of.pairs → (lines : List (List ℕ))
    → explained_replies (showing_of session) explains session.values lines ≡ replies_by scheme explains of.pairs lines
same_replies scheme program rows session explains runs shown of given lines =
    ap (λ (sitting : Sitting). explained_replies (showing_of sitting) explains sitting.values lines) of.begins
    ∙ ap (λ n. explained_replies (showing_of (begun program.tidy program.face of.pairs)) explains (values_of of.pairs n) lines) (sym runs.shown.inputs
    ∙ as_many scheme program.face (flat_run program.tidy) shown)
    ∙ replies_are (showing_of (begun program.tidy program.face of.pairs)) (scheme_showing scheme) explains shown.inputs
    (λ vs all. lines_reported scheme program.face (flat_run program.tidy) vs shown all)
    lines (values_of of.pairs (length scheme.inputs)) (household_gives scheme.inputs rows of.pairs given)

joined_same : (scheme : Scheme) (program : Program) (declared : Declared) (ordered : Ordered) (rows : List ℕ) (joined : Joined)
    → IsRunnable program.face program.tidy
    → Shows scheme program.face (flat_run program.tidy) → (of : IsExplainerOf program declared ordered rows joined)
    → household_of scheme.inputs rows ≡ Ok of.session.pairs → (lines : List (List ℕ))
    → (joined_replies joined lines).text ≡ replies_by scheme (explains_by declared ordered) of.session.pairs lines
joined_same scheme program declared ordered rows joined runs shown of given lines =
    (λ i. explained_replies (showing_of joined.seated.sitting) (explains_by (of.declares i) (of.orders i)) joined.seated.sitting.values lines)
    ∙ same_replies scheme program rows joined.seated.sitting (explains_by declared ordered) runs shown of.session given lines

pub session_served : (scheme : Scheme) (program : Program) (declared : Declared) (ordered : Ordered) (rows : List ℕ) (joined : Joined)
    → IsRunnable program.face program.tidy
    → Shows scheme program.face (flat_run program.tidy) → (of : IsExplainerOf program declared ordered rows joined)
    → (heard reported : InputView) (old new : OutputView) (status : Status)
    → Served (whole_of (joined_replies joined)) (ended_of (joined_replies joined)) heard reported old new status
    → IsServedBy scheme (explains_by declared ordered) rows heard reported old new status
session_served scheme program declared ordered rows joined runs shown of heard reported old new status done =
    let given : household_of scheme.inputs rows ≡ Ok of.session.pairs = subst (λ inputs. household_of inputs rows ≡ Ok of.session.pairs) shown.inputs
    of.session.given in
    prepared.served of.session.pairs given
    (served_as (whole_of (joined_replies joined)) (ended_of (joined_replies joined)) (session_replies scheme (explains_by declared ordered) of.session.pairs)
    (ended_replies scheme (explains_by declared ordered) of.session.pairs)
    heard reported old new status (λ bytes. joined_same scheme program declared ordered rows joined runs shown of given (input_lines bytes))
    (λ bytes. joined_same scheme program declared ordered rows joined runs shown of given (ended_lines bytes)) done)

-- ---- preparing

-- the scheme of a source's program
abbrev scheme_of : (source : Source) (program : Program) → IsProgramOf source program → Scheme
scheme_of source program is = source_scheme is.declared is.base is.written is.requests

valid_of : (source : Source) (program : Program) → (is : IsProgramOf source program) → IsScheme source (scheme_of source program is)
valid_of source program is = record { declared = is.declared; base = is.base; written = is.written; requests = is.requests; valid = is.valid; stated = refl }

-- whatever has the answers of the tidy program shows its scheme
shows_of : (source : Source) (program : Program) → (is : IsProgramOf source program) → (runs : List Value → Answer)
    → ((vs : List Value) → runs vs ≡ flat_run program.tidy vs)
    → Shows (scheme_of source program is) program.face runs
shows_of source program is runs same = record {
  inputs = is.inputs;
  names = is.names;
  answers = λ vs all. ap (observation program.face.labels (notes_of program.face.outputs)) (same vs)
      ∙ is.answers vs (subst (λ inputs. AreValuesOf inputs vs) (sym is.inputs) all);
}

-- the program of a source is prepared
pub is_prepared : (source : Source) (program : Program) → IsProgramOf source program → IsPrepared source program
is_prepared source program is = record {
  scheme = scheme_of source program is;
  valid = valid_of source program is;
  shows = shows_of source program is (flat_run program.tidy) (λ vs. refl);
}

-- and so is the code of a source
is_prepared_code : (source : Source) (loaded : Loaded) → IsCompiled source loaded → IsPreparedCode source loaded
is_prepared_code source loaded is =
    let program : Program = record { face = loaded.face; tidy = is.tidy } in
    record {
      compiled = is;
      scheme = scheme_of source program is.program;
      valid = valid_of source program is.program;
      shows = shows_of source program is.program (machine_run loaded.code) (λ vs. run-is-flat_run loaded.code is.tidy vs is.allocated.flow);
    }

pub prepared_outcome : (source : Source) (result : Result Loaded SourceFault) → Outcome source_fault.Memory result (IsCompiled source) (IsSourceFault source)
    → Outcome source_fault.Memory result (IsPreparedCode source) (IsSourceFault source)
prepared_outcome source (Ok loaded) is = is_prepared_code source loaded is
prepared_outcome source (Err fault) is = is

pub runnable_outcome : (source : Source) (result : Result Loaded SourceFault) → Outcome source_fault.Memory result (IsCompiled source) (IsSourceFault source)
    → IfOk result (λ loaded. IsRunnableCode loaded)
runnable_outcome source (Ok loaded) is = record { whole = spells_whole loaded.code is.tidy is.allocated.flow; distinct = is.program.runnable.distinct }
runnable_outcome source (Err fault) is = tt

-- ---- code files that are written

pub compile_refused : (source : Source) (fault : SourceFault) (old new : OutputView) (status : Status)
    → ReportsRefusal (λ line. IsSourceFault source fault × (source_line source.texts fault ≡ Some line)) old new status
    → IsAnswered (CompileReplies source) old new status
compile_refused source fault old new status reported =
    refused_as (λ line. IsSourceFault source fault × (source_line source.texts fault ≡ Some line)) (CompileReplies source) old new status
    (λ line is. compile.is_refused fault is.0 is.1) reported

compile_as : (source : Source) (loaded : Loaded) → IsPreparedCode source loaded → (text : List ℕ) (own : Status) → IsFileOf loaded text own
    → CompileReplies source text own
compile_as source loaded is text own (is_file form) = compile.is_compiled loaded is (form is.compiled.program.printable)

pub compile_answered : (source : Source) (loaded : Loaded) (old new : OutputView) (status : Status) → IsPreparedCode source loaded
    → IsAnswered (IsFileOf loaded) old new status → IsAnswered (CompileReplies source) old new status
compile_answered source loaded old new status is a = answered_as (IsFileOf loaded) (CompileReplies source) old new status (compile_as source loaded is) a
