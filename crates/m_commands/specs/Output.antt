-- The printed text, for given words, files and input.
use Rattle.std.specs.Prelude.{◌≡◌, ℕ, ℤ, List, ◌++◌}
use Rattle.tax_print.specs.FaultLines.{usage_line, cycle_line, input_too_long_line, recursion_line}
use Rattle.m_places.specs.declared.source.Source.{Source}
use Rattle.code_file.specs.Reading.{IsFormOf}
use Rattle.code_file.specs.declared.loaded.Loaded.{Loaded}
use Rattle.m_symbols.specs.Declarations.{Declared}
use Rattle.micro_m.specs.declared.base.Base.{Base}
use Rattle.m_compile.specs.Compiled.{IsProgramOf}
use Rattle.m_compile.specs.Sources.{HasRules}
use Rattle.m_compile.specs.declared.compiling.Program.{Program}
use Rattle.why_session.specs.Explains.{Explaining}
use Rattle.command_answers.specs.Explained.{IsExplained}
use Rattle.rule_answers.specs.Lints.{lint_text}
use Rattle.command_answers.specs.Prepared.{IsPreparedCode}
use Rattle.code_answers.specs.Schemes.{Scheme}
use Rattle.command_answers.specs.Sessions.{ended_replies, session_replies}
use Rattle.command_answers.specs.Sources.{IsScheme}
use Rattle.command_plans.specs.Courses as courses
use Rattle.command_plans.specs.Views.{Disk}
use Rattle.command_plans.specs.declared.status.Status.{Status}
use Rattle.command_plans.specs.declared.status.Status.TheVariants.{Done, Refused}
use Rattle.m_commands.specs.Answer.{Replies}
use Rattle.m_commands.specs.Command.{command_of, plan_of}

-- The printed text and the status if nothing fails: the usage line for words that are no command, the error line of
-- the command's plan, or the command's answer to what it gathered, where `typed` is the whole input.
abbrev pub Output : (words : List (List ℕ)) → Disk → (typed : List ℕ) → List ℕ → Status → Type 0
Output words disk typed = courses.Output plan_of (λ work. Replies work typed) usage_line (command_of words) disk

-- Two outputs that count as one: they have the same text and status; or they reject rule files with several cycles, or
-- a driver with several recursions, and show one of these each; or they are code files compiled from one source, or
-- findings about one base and its program; or they are the replies to one input, and may give different
-- reasons for the values of one source's variables.
pub data AreOneOutput : List ℕ → Status → List ℕ → Status → Type 0 where
  the_same : {text other : List ℕ} {status outcome : Status} → text ≡ other → status ≡ outcome → AreOneOutput text status other outcome
  both_cycles : (names others : List (List ℕ)) → AreOneOutput (cycle_line names) Refused (cycle_line others) Refused
  both_recursions : (names others : List (List ℕ)) → AreOneOutput (recursion_line names) Refused (recursion_line others) Refused
  both_compiled : {text other_text : List ℕ} (source : Source) (one other : Loaded) → IsPreparedCode source one → IsFormOf text one
      → IsPreparedCode source other → IsFormOf other_text other
      → AreOneOutput text Done other_text Done
  both_linted : (source : Source) (declared : Declared) (base : Base) (one other : Program) → HasRules source declared base → IsProgramOf source one
      → IsProgramOf source other
      → AreOneOutput (lint_text declared base one) Done (lint_text declared base other) Done
  both_served : (source : Source) (scheme : Scheme) (one other : Explaining) (pairs : List (ℕ × ℤ)) (typed : List ℕ) → IsScheme source scheme
      → IsExplained source one → IsExplained source other
      → AreOneOutput (session_replies scheme one pairs typed) Done (session_replies scheme other pairs typed) Done
  both_too_long : (source : Source) (scheme : Scheme) (one other : Explaining) (pairs : List (ℕ × ℤ)) (taken : List ℕ) → IsScheme source scheme
      → IsExplained source one → IsExplained source other
      → AreOneOutput (ended_replies scheme one pairs taken ++ input_too_long_line) Refused (ended_replies scheme other pairs taken ++ input_too_long_line)
      Refused
