-- The scheme of a source, and the line of its error.
use Rattle.std.specs.Prelude.{◌≡◌, ℕ, List, Option, Some, map}
use Rattle.m_places.specs.declared.source.Source.{Source}
use Rattle.m_symbols.specs.Declarations.{Declared}
use Rattle.micro_m.specs.declared.base.Base.{Base}
use Rattle.driver_core.specs.declared.program.Core.{Core}
use Rattle.m_symbols.specs.Cells.{cell_name}
use Rattle.m_compile.specs.Sources.{IsValid}
use Rattle.m_compile.specs.Faults.{IsSourceFault}
use Rattle.m_compile.specs.Lines.{source_line}
use Rattle.m_compile.specs.Answers.{answer_to}
use Rattle.driver_core.specs.Inputs.{inputs_declared}
use Rattle.m_compile.specs.declared.fault.SourceFault.{SourceFault}
use Rattle.command_plans.specs.declared.status.Status.{Status}
use Rattle.code_answers.specs.Replies.{RepliesBy}
use Rattle.code_answers.specs.Schemes.{Scheme}

-- the scheme of declarations, a base, the written driver and the requests: the inputs, the names of the requested
-- cells, and the answer of the driver over the rules
abbrev pub source_scheme : Declared → Base → Option Core → List ℕ → Scheme
source_scheme declared base written requests = record {
  inputs = inputs_declared declared;
  names = map (cell_name declared) requests;
  observe = answer_to declared base written requests;
}

-- The source is valid, and this is its scheme.
pub record IsScheme (source : Source) (scheme : Scheme) : Type 0 where
  pub declared : Declared
  pub base : Base
  pub written : Option Core
  pub requests : List ℕ
  pub valid : IsValid source declared base written requests
  pub stated : scheme ≡ source_scheme declared base written requests

-- The answer of a source: the line of its fault, or for a valid source the answer by its scheme.
abbrev pub SourceReplies : Source → (Scheme → List ℕ → Status → Type 0) → List ℕ → Status → Type 0
SourceReplies source = RepliesBy (λ line. (fault : SourceFault) × IsSourceFault source fault × (source_line source.texts fault ≡ Some line)) (IsScheme source)
