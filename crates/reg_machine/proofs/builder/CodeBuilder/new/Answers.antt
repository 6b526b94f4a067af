use Rattle.reg_machine.proofs.DraftLemmas.{draft-empty}
use Rattle.reg_machine.proofs.builder.CodeBuilder.new.Goals as goal

pub invariant_of-result : goal.invariant_of-result
invariant_of-result c = rw (c.new.ensures.items, c.new-2.ensures.items, c.new-3.ensures)
    (draft-empty c.args.inputs c.args.slots c.args.labels c.args.outputs c.new-4.result c.new-4.ensures.empty)
