use Rattle.micro_m.specs.Values.{environment}
use Rattle.rule_answers.proofs.CheckLemmas.{few_found, found_answered}
use Rattle.rule_answers.proofs.check.answer_lines.Goals as goal

pub report_found-requires : goal.report_found-requires
report_found-requires g c = few_found c.args.base.now (environment c.args.env.now) c.args.lines.now c.in-Ok.found c.requires.few c.requires.cells
    c.in-Ok.ensures

pub returns-in-Ok : goal.returns-in-Ok
returns-in-Ok g c = found_answered c.args.base.now (environment c.args.env.now) c.args.lines.now c.in-Ok.found _ _ _ c.in-Ok.ensures c.report_found.ensures
