use Rattle.std.proofs.Common.{rules, ◌∙◌}
use Rattle.definedness.proofs.Beyond.{kept}
use Rattle.definedness.proofs.Wholes.{whole_number, whole_is_number}
use Rattle.definedness.proofs.results.whole.Goals as goal

pub unreachable-requires : goal.unreachable-requires
unreachable-requires c = whole_is_number c.args.op c.args.x c.apply.result c.requires.whole c.requires.amount c.apply.ensures c.in-Undef.is

pub returns : goal.returns
returns c =
    let e = whole_number c.args.op c.args.x c.in-Num.whole c.apply.result c.requires.whole c.requires.amount c.apply.ensures c.in-Num.is in
    kept c.millionths.result _ (search rules) (c.millionths.ensures.value ∙ e)
