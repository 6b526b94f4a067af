use Rattle.household.proofs.CodeLemmas.{codes_next}
use Rattle.household.proofs.codes.names_of.Goals as goal

pub loop-input-preserved : goal.loop-input-preserved
loop-input-preserved c =
    codes_next c.args.inputs.now c.loop-input.input-index c.input-item.result c.input-item.result c.loop-input.names c.add.new.self c.bytes.result.now _
    c.requires c.loop-input-test.true
    c.input-item.is c.bytes.ensures c.loop-input.invariant c.in_ok-_fresh.ensures.fresh c.in_ok-_fresh.ensures.added
