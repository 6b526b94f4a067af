-- The answer of `compile`.
use Rattle.std.specs.Prelude.{◌≡◌, ℕ, List, Some}
use Rattle.m_places.specs.declared.source.Source.{Source}
use Rattle.code_file.specs.Reading.{IsFormOf}
use Rattle.code_file.specs.declared.loaded.Loaded.{Loaded}
use Rattle.m_compile.specs.Faults.{IsSourceFault}
use Rattle.m_compile.specs.Lines.{source_line}
use Rattle.m_compile.specs.declared.fault.SourceFault.{SourceFault}
use Rattle.command_plans.specs.declared.status.Status.{Status}
use Rattle.command_plans.specs.declared.status.Status.TheVariants.{Done, Refused}
use Rattle.command_answers.specs.Prepared.{IsPreparedCode}
use Rattle.code_answers.specs.Schemes.{Scheme}
use Rattle.command_answers.specs.Sources.{IsScheme}

-- The answer of a compilation of a source: the line of its fault, or the code file of the compiled source, which
-- `exec` accepts.
pub data CompileReplies (source : Source) : List ℕ → Status → Type 0 where
  is_refused : {line : List ℕ} (fault : SourceFault) → IsSourceFault source fault → source_line source.texts fault ≡ Some line
      → CompileReplies source line Refused
  is_compiled : {text : List ℕ} (loaded : Loaded) → IsPreparedCode source loaded → IsFormOf text loaded → CompileReplies source text Done

-- a valid source
pub record CompileHasAnswer (source : Source) : Type 0 where
  pub scheme : Scheme
  pub valid : IsScheme source scheme
