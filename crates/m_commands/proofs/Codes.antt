-- `compile` has one answer up to the compiled code, and a code file has one answer.
use Rattle.std.proofs.Common.{◌≡◌, ℕ, ℤ, List, [], length, Ok, refl, sym, ap, ◌∙◌, subst}
use Rattle.m_fixed.specs.declared.amount.Value.{Value}
use Rattle.m_places.specs.declared.source.Source.{Source}
use Rattle.household.specs.Household.{household_of, values_of}
use Rattle.household.proofs.GivenLemmas.{household_gives}
use Rattle.observables.specs.declared.answer.Answer.{Answer}
use Rattle.observables.specs.declared.face.Face.{Face}
use Rattle.m_compile.specs.Faults.{IsSourceFault}
use Rattle.m_compile.specs.declared.fault.SourceFault.{SourceFault}
use Rattle.m_compile.proofs.OneLaws.{one_fault}
use Rattle.command_plans.specs.declared.status.Status.{Status}
use Rattle.tax_print.specs.Lines.{observation_lines}
use Rattle.command_answers.specs.Compiles.{CompileReplies, CompileHasAnswer}
use Rattle.command_answers.specs.Compiles as compiles
use Rattle.code_answers.specs.Execs.{ExecReplies}
use Rattle.code_answers.specs.Households.{household_fault_line, observation_status}
use Rattle.code_answers.specs.Shown.{HouseholdReplies, Shows}
use Rattle.code_answers.specs.Schemes.{Scheme, observation_for}
use Rattle.m_commands.specs.Output.{AreOneOutput, the_same, both_compiled}
use Rattle.code_answers.proofs.OneLaws.{one_code, one_file, one_inputs}
use Rattle.command_answers.proofs.SchemeLaws.{no_scheme_and_fault}
use Rattle.m_commands.proofs.Schemes.{one_line}

-- ---- code files

-- two schemes of one program observe the same for a household
pub one_reported : (face : Face) (runs : List Value → Answer) (one other : Scheme) (rows : List ℕ) (pairs : List (ℕ × ℤ)) → Shows one face runs
    → Shows other face runs
    → household_of one.inputs rows ≡ Ok pairs → household_of other.inputs rows ≡ Ok pairs → observation_for one pairs ≡ observation_for other pairs
one_reported face runs one other rows pairs a b g h =
    let n : length one.inputs ≡ length other.inputs = ap length (one_inputs face runs one other a b) in
    let x = a.answers (values_of pairs (length one.inputs)) (household_gives one.inputs rows pairs g) in
    let y = b.answers (values_of pairs (length other.inputs)) (household_gives other.inputs rows pairs h) in
    cc (n, x, y)

-- a household has one answer by the schemes that code shows
one_answer : (rows t u : List ℕ) (s r : Status) (face : Face) (runs : List Value → Answer) (one other : Scheme) → Shows one face runs → Shows other face runs
    → HouseholdReplies [] one rows t s → HouseholdReplies [] other rows u r → AreOneOutput t s u r
one_answer rows t u s r face runs one other a b x y =
    let n : one.names ≡ other.names = sym a.names ∙ b.names in
    let inputs = one_inputs face runs one other a b in
    let same = one_file (household_of one.inputs rows) (household_of other.inputs rows) household_fault_line
    (λ pairs. observation_lines one.names (observation_for one pairs)) (λ pairs. observation_lines other.names (observation_for other pairs))
    (λ pairs. observation_status (observation_for one pairs)) (λ pairs. observation_status (observation_for other pairs)) t u s r
    (ap (λ inputs. household_of inputs rows) inputs)
    (λ pairs g. let e = one_reported face runs one other rows pairs a b g (subst (λ inputs. household_of inputs rows ≡ Ok pairs) inputs g) in
    ((λ i. observation_lines (n i) (e i)), ap observation_status e)) x y in
    the_same same.0 same.1

-- `exec` has one answer
pub one_exec : (code rows t u : List ℕ) (s r : Status) → ExecReplies code rows t s → ExecReplies code rows u r → AreOneOutput t s u r
one_exec code rows t u s r a b =
    one_code AreOneOutput code (λ scheme. HouseholdReplies [] scheme rows) t u s r (λ x y e. the_same e refl) (one_answer rows t u s r) a b

-- ---- compile

-- a valid source isn't rejected
pub compiled_not_refused : (source : Source) (fault : SourceFault) → CompileHasAnswer source → IsSourceFault source fault → ⊥
compiled_not_refused source fault h is = no_scheme_and_fault source h.scheme fault h.valid is

-- `compile` has one answer, up to the code
pub one_compile : (source : Source) (t u : List ℕ) (s r : Status) → CompileReplies source t s → CompileReplies source u r → AreOneOutput t s u r
one_compile source t u s r (compiles.is_refused fault f k) (compiles.is_refused other g l) = one_line source.texts fault other t u
    (one_fault source fault other f g) k l
one_compile source t u s r (compiles.is_refused fault f k) (compiles.is_compiled other w part) = absurd (no_scheme_and_fault source w.scheme fault w.valid f)
one_compile source t u s r (compiles.is_compiled one v form) (compiles.is_refused fault f k) = absurd (no_scheme_and_fault source v.scheme fault v.valid f)
one_compile source t u s r (compiles.is_compiled one v form) (compiles.is_compiled other w part) = both_compiled source one other v form w part
