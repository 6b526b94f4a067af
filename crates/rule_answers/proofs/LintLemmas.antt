-- The answer of a lint, from what was printed.
use Rattle.std.proofs.Common.{◌≡◌, ℕ, List, Some, inl, inr}
use Rattle.m_places.specs.declared.source.Source.{Source}
use Rattle.m_symbols.specs.Declarations.{Declared}
use Rattle.micro_m.specs.declared.base.Base.{Base}
use Rattle.m_compile.specs.Compiled.{IsProgramOf}
use Rattle.m_compile.specs.Faults.{IsSourceFault}
use Rattle.m_compile.specs.Lines.{source_line}
use Rattle.m_compile.specs.Sources.{HasRules}
use Rattle.m_compile.specs.declared.compiling.Program.{Program}
use Rattle.m_compile.specs.declared.fault.SourceFault.{SourceFault}
use Rattle.command_plans.specs.Printing.{IsAnswered, printed, no_memory}
use Rattle.command_plans.specs.Views.{OutputView}
use Rattle.command_plans.specs.declared.status.Status.{Status}
use Rattle.command_plans.specs.declared.status.Status.TheVariants.{Refused}
use Rattle.rule_answers.specs.Lints.{LintReplies, is_linted, is_refused}
use Rattle.rule_answers.specs.inner.Linting.{IsLintOf, is_lint}
use Rattle.code_answers.proofs.Refusals.{ReportsRefusal}
use Rattle.code_answers.proofs.Ways.{answered_as}

pub lint_refused : (source : Source) (fault : SourceFault) (old new : OutputView) (status : Status)
    → ReportsRefusal (λ line. IsSourceFault source fault × (source_line source.texts fault ≡ Some line)) old new status
    → IsAnswered (LintReplies source) old new status
lint_refused source fault old new status (inl (line, is, shown)) = printed line Refused (is_refused fault is.0 is.1) tt shown
lint_refused source fault old new status (inr (same, memory)) = no_memory same memory

linted_as : (source : Source) (declared : Declared) (base : Base) (program : Program) → HasRules source declared base → IsProgramOf source program
    → (text : List ℕ) (own : Status)
    → IsLintOf declared base program text own → LintReplies source text own
linted_as source declared base program rules is text own is_lint = is_linted declared base program rules is

pub lint_answered : (source : Source) (declared : Declared) (base : Base) (program : Program) (old new : OutputView) (status : Status)
    → HasRules source declared base → IsProgramOf source program
    → IsAnswered (IsLintOf declared base program) old new status → IsAnswered (LintReplies source) old new status
lint_answered source declared base program old new status rules is a = answered_as (IsLintOf declared base program) (LintReplies source) old new status
    (linted_as source declared base program rules is) a
