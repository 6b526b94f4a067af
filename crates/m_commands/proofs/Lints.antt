-- `lint` has one answer, up to the program, and its findings are true.
use Rattle.std.proofs.Common.{◌≡◌, ℕ, List, Option, subst}
use Rattle.std.specs.List.{AllByRecursion}
use Rattle.m_places.specs.declared.source.Source.{Source}
use Rattle.m_symbols.specs.Declarations.{Declared}
use Rattle.micro_m.specs.declared.base.Base.{Base}
use Rattle.driver_core.specs.declared.program.Core.{Core}
use Rattle.m_lint.specs.Findings.{findings_of}
use Rattle.m_lint.specs.Lines.{findings_text}
use Rattle.m_lint.specs.Truths.{IsTrueFinding}
use Rattle.m_lint.specs.declared.finding.Finding.{Finding}
use Rattle.m_lint.proofs.TruthLemmas.{all_true}
use Rattle.m_compile.specs.Answers.{answer_to}
use Rattle.driver_core.specs.Inputs.{inputs_declared}
use Rattle.m_compile.specs.Compiled.{IsProgramOf}
use Rattle.m_compile.specs.Sources.{HasRules, IsValid}
use Rattle.m_compile.specs.declared.compiling.Program.{Program}
use Rattle.m_compile.proofs.ProgramLaws.{no_program_and_fault}
use Rattle.m_compile.proofs.OneLaws.{no_valid_and_fault, one_fault, one_rules, one_validity}
use Rattle.command_plans.specs.Status.{IsComplete}
use Rattle.command_plans.specs.declared.status.Status.{Status}
use Rattle.command_plans.specs.declared.status.Status.TheVariants.{Done}
use Rattle.command_answers.specs.Compiles.{CompileHasAnswer}
use Rattle.rule_answers.specs.Lints.{LintReplies, is_linted, is_refused, lint_text}
use Rattle.m_commands.specs.Output.{AreOneOutput, both_linted}
use Rattle.m_commands.proofs.Codes.{compiled_not_refused}
use Rattle.m_commands.proofs.Schemes.{one_line}

-- `lint` has one answer, up to the program
pub one_lint : (source : Source) (t u : List ℕ) (s r : Status) → LintReplies source t s → LintReplies source u r → AreOneOutput t s u r
one_lint source t u s r (is_refused fault f k) (is_refused other g l) = one_line source.texts fault other t u (one_fault source fault other f g) k l
one_lint source t u s r (is_refused fault f k) (is_linted declared base program rules is) = absurd (no_program_and_fault source program fault is f)
one_lint source t u s r (is_linted declared base program rules is) (is_refused fault f k) = absurd (no_program_and_fault source program fault is f)
one_lint source t u s r (is_linted declared base one rules is) (is_linted others other two also was) =
    let same = one_rules source declared others base other rules also in
    let e : lint_text declared base two ≡ lint_text others other two = λ i. lint_text (same.0 i) (same.1 i) two in
    subst (λ (x : List ℕ). AreOneOutput (lint_text declared base one) Done x Done) e (both_linted source declared base one two rules is was)

-- what has an answer isn't rejected
pub linted_complete : (source : Source) (text : List ℕ) (status : Status) → CompileHasAnswer source → LintReplies source text status → IsComplete status
linted_complete source text status h (is_refused fault f k) = absurd (compiled_not_refused source fault h f)
linted_complete source text status h (is_linted declared base program rules is) = tt

-- the findings are true of the source's observations
found_true : (source : Source) (declared : Declared) (base : Base) (program : Program) (others : Declared) (other : Base) (written : Option Core)
    (requests : List ℕ) → HasRules source declared base
    → (is : IsProgramOf source program) → IsValid source others other written requests
    → (findings : List Finding) × (lint_text declared base program ≡ findings_text others other findings)
    × AllByRecursion (IsTrueFinding others other (inputs_declared others) (answer_to others other written requests)) findings
found_true source declared base program others other written requests rules is valid =
    let same = one_validity source is.declared others is.base other is.written written is.requests requests is.valid valid in
    let also = one_rules source declared others base other rules valid.rules in
    let found = all_true is.declared is.base program.tidy program.face (answer_to is.declared is.base is.written is.requests) is.runnable.valid
    is.runnable.shown is.answers in (
      findings_of others other program.tidy program.face,
      (λ i. lint_text (also.0 i) (also.1 i) program),
      subst (λ (d : Declared). AllByRecursion (IsTrueFinding d other (inputs_declared d) (answer_to d other written requests))
          (findings_of d other program.tidy program.face)) same.0
          (subst (λ (b : Base). AllByRecursion (IsTrueFinding is.declared b (inputs_declared is.declared) (answer_to is.declared b written requests))
          (findings_of is.declared b program.tidy program.face)) same.1
          (subst (λ (w : Option Core). AllByRecursion
          (IsTrueFinding is.declared is.base (inputs_declared is.declared) (answer_to is.declared is.base w requests))
          (findings_of is.declared is.base program.tidy program.face)) same.2
          (subst (λ (rs : List ℕ). AllByRecursion (IsTrueFinding is.declared is.base (inputs_declared is.declared)
          (answer_to is.declared is.base is.written rs)) (findings_of is.declared is.base program.tidy program.face)) same.3
          (rw is.inputs at found)))),
    )

pub lint_true : (source : Source) (text : List ℕ) (status : Status) (declared : Declared) (base : Base) (written : Option Core) (requests : List ℕ)
    → IsValid source declared base written requests
    → LintReplies source text status → (findings : List Finding) × (text ≡ findings_text declared base findings)
    × AllByRecursion (IsTrueFinding declared base (inputs_declared declared) (answer_to declared base written requests)) findings
lint_true source text status declared base written requests valid (is_refused fault f k) = absurd
    (no_valid_and_fault source declared base written requests fault valid f)
lint_true source text status declared base written requests valid (is_linted others other program rules is) = found_true source others other program declared
    base written requests rules is valid
