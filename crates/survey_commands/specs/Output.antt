-- The printed text, for given words and files.
use Rattle.std.specs.Prelude.{◌≡◌, ℕ, List}
use Rattle.tax_print.specs.FaultLines.{cycle_line, recursion_line}
use Rattle.m_places.specs.declared.source.Source.{Source}
use Rattle.definedness.specs.Facts.{Possible}
use Rattle.m_symbols.specs.Declarations.{Declared}
use Rattle.micro_m.specs.declared.base.Base.{Base}
use Rattle.m_facts.specs.Lines.{facts_text}
use Rattle.m_compile.specs.Compiled.{IsProgramOf}
use Rattle.m_compile.specs.Sources.{HasRules}
use Rattle.m_compile.specs.declared.compiling.Program.{Program}
use Rattle.command_plans.specs.Courses as courses
use Rattle.command_plans.specs.Views.{Disk}
use Rattle.command_plans.specs.declared.status.Status.{Status}
use Rattle.command_plans.specs.declared.status.Status.TheVariants.{Done, Refused}
use Rattle.survey_commands.specs.Answer.{Replies}
use Rattle.survey_commands.specs.Command.{command_of, plan_of}
use Rattle.survey_commands.specs.Lines.{usage_line}

-- The printed text and the status if nothing fails: the usage line for words that are no command, the error line of
-- the command's plan, or the command's answer to what it gathered.
abbrev pub Output : (words : List (List ℕ)) → Disk → List ℕ → Status → Type 0
Output words disk = courses.Output plan_of Replies usage_line (command_of words) disk

-- Two outputs that count as one: they have the same text and status; or they reject rule files with several cycles, or
-- a driver with several recursions, and show one of these each; or they are the facts, within the same ranges, of one
-- base and its program.
pub data AreOneOutput : List ℕ → Status → List ℕ → Status → Type 0 where
  the_same : {text other : List ℕ} {status outcome : Status} → text ≡ other → status ≡ outcome → AreOneOutput text status other outcome
  both_cycles : (names others : List (List ℕ)) → AreOneOutput (cycle_line names) Refused (cycle_line others) Refused
  both_recursions : (names others : List (List ℕ)) → AreOneOutput (recursion_line names) Refused (recursion_line others) Refused
  both_found : (source : Source) (declared : Declared) (base : Base) (one other : Program) (given : List Possible) → HasRules source declared base
      → IsProgramOf source one → IsProgramOf source other
      → AreOneOutput (facts_text base one.tidy one.face given) Done (facts_text base other.tidy other.face given) Done
