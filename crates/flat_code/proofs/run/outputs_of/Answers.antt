use Rattle.std.proofs.lemmas.Option.{slice_get-get_or}
use Rattle.flat_code.proofs.RunLemmas.{one_of_all, outputs_next}
use Rattle.flat_code.proofs.run.outputs_of.Goals as goal

pub loop-output-preserved : goal.loop-output-preserved
loop-output-preserved c =
    let i = c.loop-output.output-index in
    let h = c.loop-output-test.true in
    outputs_next c.args.values.now c.args.outputs.now i _ _ _ h (one_of_all _ c.args.outputs.now i _ c.requires (slice_get-get_or c.args.outputs.now i 0 h))
    c.index-values-output.is c.loop-output.invariant c.in_ok-push.ensures.items
