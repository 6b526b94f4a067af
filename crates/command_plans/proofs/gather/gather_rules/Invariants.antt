use Rattle.std.proofs.Common.{◌≡◌, ◌≤◌, ◌+◌, drop, length}
use Rattle.m_places.specs.declared.limits.TheConstants.{RULE_BYTES}
use Rattle.command_plans.specs.Views.{files_view}
use Rattle.command_plans.specs.Source.{rules_plan}
use Rattle.m_places.specs.SourceLimits.{EachIsWithin, all_bytes}
use Rattle.command_plans.proofs.Rules.{Resumes}
use Rattle.command_plans.proofs.gather.gather_rules.Given as goal

abbrev pub invariant-loop-name : goal.invariant-loop-name
invariant-loop-name g l = record {
  resumes : Resumes (rules_plan RULE_BYTES l.names) (files_view g.F.Files.known_files g.F.Files.attempts g.F.Files.taken l.fn.files)
      (rules_plan l.left (drop l.name-index l.names)) (files_view g.F.Files.known_files g.F.Files.attempts g.F.Files.taken l.files) l.texts.items;
  each : EachIsWithin l.texts.items;
  spent : all_bytes l.texts.items + l.left ≡ RULE_BYTES;
  counted : length l.texts.items ≡ l.name-index;
  reached : l.name-index ≤ length l.names;
}
