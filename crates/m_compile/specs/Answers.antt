-- The answer of a source to values of its inputs.
use Rattle.std.specs.Prelude.{ℕ, List, Option}
use Rattle.m_fixed.specs.declared.amount.Value.{Value}
use Rattle.m_symbols.specs.Declarations.{Declared}
use Rattle.micro_m.specs.declared.base.Base.{Base}
use Rattle.observables.specs.Answers.{Observation}
use Rattle.driver_core.specs.declared.program.Core.{Core}
use Rattle.driver_core.specs.Answers.{answer_of}
use Rattle.m_compile.specs.Sources.{running}

-- the answer, for these values of the inputs, of the driver over the base; without a driver, of a
-- single call of the rules
abbrev pub answer_to : Declared → Base → Option Core → List ℕ → List Value → Observation
answer_to declared base written requests inputs = answer_of (running written requests declared) base declared requests inputs
