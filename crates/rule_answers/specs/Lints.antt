-- The answer of `lint`.
use Rattle.std.specs.Prelude.{◌≡◌, ℕ, List, Some}
use Rattle.m_places.specs.declared.source.Source.{Source}
use Rattle.m_symbols.specs.Declarations.{Declared}
use Rattle.micro_m.specs.declared.base.Base.{Base}
use Rattle.m_lint.specs.Findings.{findings_of}
use Rattle.m_lint.specs.Lines.{findings_text}
use Rattle.m_compile.specs.Compiled.{IsProgramOf}
use Rattle.m_compile.specs.Faults.{IsSourceFault}
use Rattle.m_compile.specs.Lines.{source_line}
use Rattle.m_compile.specs.Sources.{HasRules}
use Rattle.m_compile.specs.declared.compiling.Program.{Program}
use Rattle.m_compile.specs.declared.fault.SourceFault.{SourceFault}
use Rattle.command_plans.specs.declared.status.Status.{Status}
use Rattle.command_plans.specs.declared.status.Status.TheVariants.{Done, Refused}

-- the lines of the findings about a base and about its program
abbrev pub lint_text : Declared → Base → Program → List ℕ
lint_text declared base program = findings_text declared base (findings_of declared base program.tidy program.face)

-- The answer of a lint of a source: the line of its fault, or the lines of the findings about its rules and the
-- program.
pub data LintReplies (source : Source) : List ℕ → Status → Type 0 where
  is_refused : {line : List ℕ} (fault : SourceFault) → IsSourceFault source fault → source_line source.texts fault ≡ Some line → LintReplies source line Refused
  is_linted : (declared : Declared) (base : Base) (program : Program) → HasRules source declared base → IsProgramOf source program
      → LintReplies source (lint_text declared base program) Done
