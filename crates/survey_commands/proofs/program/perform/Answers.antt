use Rattle.std.proofs.Common.{sym, ◌∙◌}
use Rattle.survey_commands.proofs.program.perform.Goals as goal

pub returns-in-Ok-Some : goal.returns-in-Ok-Some
returns-in-Ok-Some g c = c.act-status.ensures c.args.words.now (sym c.in-Ok-Some.ensures ∙ c.in-Ok-Some.field-0-is)
