-- The answer over a base and its program.
use Rattle.std.specs.Prelude.{ℕ, List}
use Rattle.m_symbols.specs.Declarations.{Declared}
use Rattle.micro_m.specs.declared.base.Base.{Base}
use Rattle.m_compile.specs.declared.compiling.Program.{Program}
use Rattle.command_plans.specs.declared.status.Status.{Status}
use Rattle.command_plans.specs.declared.status.Status.TheVariants.{Done}
use Rattle.rule_answers.specs.Lints.{lint_text}

-- the text has the lines of the findings, and the command has done its work
pub data IsLintOf (declared : Declared) (base : Base) (program : Program) : List ℕ → Status → Type 0 where
  is_lint : IsLintOf declared base program (lint_text declared base program) Done
