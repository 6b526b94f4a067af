-- Why a variable has its value, as sessions of a source explain it.
use Rattle.std.specs.Prelude.{◌≡◌, ℕ, ◌<◌, List}
use Rattle.m_fixed.specs.declared.amount.Value.{Value}
use Rattle.m_places.specs.declared.source.Source.{Source}
use Rattle.m_symbols.specs.Declarations.{Declared}
use Rattle.micro_m.specs.declared.base.Base.{Base}
use Rattle.micro_m.specs.Values.{environment}
use Rattle.driver_core.specs.Answers.{start_of}
use Rattle.why_report.specs.Reasons.{IsReasonOf}
use Rattle.why_report.specs.declared.line.ReportLine.{ReportLine}
use Rattle.why_session.specs.Explains.{Explaining, explanation}
use Rattle.m_compile.specs.Sources.{HasRules}

-- The explanations are those of a source: for each cell a reason of its value, over the values that cells start with.
-- The driver isn't used. A cell may have several reasons, which have the same lines in other orders.
pub record IsExplained (source : Source) (explains : Explaining) : Type 0 where
  pub declared : Declared
  pub base : Base
  pub rules : HasRules source declared base
  pub lines : List Value → ℕ → List ReportLine
  pub reasons : (values : List Value) (c : ℕ) → c < base.cells → IsReasonOf base (environment (start_of declared values)) c (lines values c)
  pub stated : (values : List Value) (name : List ℕ) → explains values name ≡ explanation declared (lines values) name
