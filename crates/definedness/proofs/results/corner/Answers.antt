use Rattle.std.proofs.Common.{rules, ◌∙◌}
use Rattle.definedness.proofs.Beyond.{corner_number, corner_beyond, kept}
use Rattle.definedness.proofs.results.corner.Goals as goal

pub returns-in-Num : goal.returns-in-Num
returns-in-Num c =
    let e = corner_number c.args.op c.args.x c.args.y c.in-Num.z c.apply.result c.requires c.apply.ensures c.in-Num.is in
    kept c.millionths.result _ (search rules) (c.millionths.ensures.value ∙ e)

pub returns-in-Undef : goal.returns-in-Undef
returns-in-Undef c =
    let e = corner_beyond c.args.op c.args.x c.args.y c.apply.result c.requires c.apply.ensures c.in-Undef.is in
    kept c.beyond.result _ (search rules) (c.beyond.ensures ∙ e)
