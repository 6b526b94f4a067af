use Rattle.std.proofs.Common.{refl}
use Rattle.command_plans.specs.declared.status.Status.TheVariants.{Done}
use Rattle.survey_commands.proofs.FactsTrue.{facts_true}
use Rattle.survey_commands.proofs.laws.facts_are_true.Goals as goal

pub returns : goal.returns
returns c = λ source ranges scheme text v r. facts_true source ranges scheme text Done v r refl
