use Rattle.std.proofs.Common.{rules, ◌≡◌, sym, ◌∙◌}
use Rattle.definedness.specs.Ranges.{may_be_zero, may_be_other}
use Rattle.definedness.specs.inner.Branches.{branches, under_condition}
use Rattle.definedness.proofs.FactLaws.{choice_is}
use Rattle.definedness.proofs.operator.choice.Goals as goal

-- from the choice by the branches that may be taken
pub returns-after-c-2 : goal.returns-after-c-2
returns-after-c-2 c =
    let is : c.new-in-Some.result
    ≡ under_condition c.args.c (branches (may_be_other c.args.c.range) (may_be_zero c.args.c.range) c.args.a c.args.b) = search rules in
    is ∙ sym (choice_is c.args.c c.args.a c.args.b)
