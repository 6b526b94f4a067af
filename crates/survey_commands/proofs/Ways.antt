-- How any work was answered, in one form for all commands.
use Rattle.std.proofs.Common.{◌≡◌, ℕ, List, refl, ◌∙◌, sym}
use Rattle.std.specs.Prelude.{true, false, Some}
use Rattle.std.proofs.Common.{ap}
use Rattle.std.specs.Option.{option_map_or}
use Rattle.m_ports.specs.Sink.{AppendsPrefix}
use Rattle.command_plans.specs.Printing.{Prints}
use Rattle.command_plans.specs.Printing as printing
use Rattle.command_plans.specs.Status.{IsOfEnd}
use Rattle.command_plans.specs.Views.{OutputView}
use Rattle.command_plans.specs.declared.status.Status.{Status}
use Rattle.command_plans.specs.declared.status.Status.TheVariants.{Done, Memory}
use Rattle.code_answers.specs.Parts as parts
use Rattle.survey_commands.specs.Answer.{Replies}
use Rattle.survey_commands.specs.Command.{command_of, writes_early, writes_in_parts}
use Rattle.survey_commands.specs.Lines.{version_line}
use Rattle.survey_commands.specs.declared.command.Command.{Command}
use Rattle.survey_commands.specs.declared.work.Work.{Work}
use Rattle.survey_commands.specs.declared.work.Work.TheVariants.{Table, Facts, CodeTable, Version}
use Rattle.survey_commands.specs.inner.Courses.{IsWorkOf, WorkIsAnswered, work_in_parts}

-- A text was printed; or memory ran out, before anything was written, or while an answer was written in parts.
pub data Way (work : Work) (old new : OutputView) (status : Status) : Type 0 where
  observe : (text : List ℕ) (own : Status) → Replies work text own → IsOfEnd own → Prints text own old new status → Way work old new status
  lacks_memory : new ≡ old → status ≡ Memory → Way work old new status
  breaks_off : (text : List ℕ) (own : Status) → Replies work text own → work_in_parts work ≡ true → AppendsPrefix old.written new.written text
      → new.faults ≡ old.faults → status ≡ Memory
      → Way work old new status

pub way_of : (work : Work) (old new : OutputView) (status : Status) → WorkIsAnswered work old new status → Way work old new status
way_of (Table source table) old new status (parts.printed text own r o p) = observe text own r o p
way_of (Table source table) old new status (parts.no_memory n m) = lacks_memory n m
way_of (Table source table) old new status (parts.broke_off text own r a f m) = breaks_off text own r refl a f m
way_of (Facts source ranges) old new status (printing.printed text own r o p) = observe text own r o p
way_of (Facts source ranges) old new status (printing.no_memory n m) = lacks_memory n m
way_of (CodeTable code table) old new status (parts.printed text own r o p) = observe text own r o p
way_of (CodeTable code table) old new status (parts.no_memory n m) = lacks_memory n m
way_of (CodeTable code table) old new status (parts.broke_off text own r a f m) = breaks_off text own r refl a f m
way_of Version old new status p = observe version_line Done (refl, refl) tt p

-- the command writes in parts
pub parts_requested : (words : List (List ℕ)) (wanted : Command) (work : Work) → command_of words ≡ Some wanted → IsWorkOf wanted work
    → work_in_parts work ≡ true → writes_early words ≡ true
parts_requested words wanted work c k e = ap (λ o. option_map_or writes_in_parts o false) c ∙ sym k ∙ e
