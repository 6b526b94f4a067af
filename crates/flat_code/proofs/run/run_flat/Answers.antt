use Rattle.std.proofs.Common.{◌≡◌, length, ap, sym, ◌∙◌}
use Rattle.flat_code.specs.Runs.{node_values}
use Rattle.flat_code.proofs.RunLemmas.{length-node_values, run_stops, run_ends}
use Rattle.flat_code.proofs.run.run_flat.Goals as goal

pub stop_among-requires : goal.stop_among-requires
stop_among-requires c =
    let count : length c.deref.result.now ≡ length c.args.flat.now.nodes =
    ap length (c.deref.ensures.value ∙ c.in_ok-values.ensures) ∙ length-node_values c.args.inputs.now c.as_slice.result.now ∙ ap length c.as_slice.ensures in
    rw (count, c.as_slice-2.ensures) c.requires.valid.checks

pub returns-in-Some : goal.returns-in-Some
returns-in-Some c =
    let held : c.deref.result.now ≡ node_values c.args.inputs.now c.args.flat.now.nodes =
    c.deref.ensures.value ∙ c.in_ok-values.ensures ∙ ap (node_values c.args.inputs.now) c.as_slice.ensures in
    run_stops c.args.flat.now c.args.inputs.now _ _ held (rw c.as_slice-2.ensures at c.in-Some.ensures)

pub outputs_of-requires : goal.outputs_of-requires
outputs_of-requires c =
    let count : length c.deref-in-None.result.now ≡ length c.args.flat.now.nodes =
    ap length (c.deref-in-None.ensures.value ∙ c.in_ok-values.ensures) ∙ length-node_values c.args.inputs.now c.as_slice.result.now
    ∙ ap length c.as_slice.ensures in
    rw (count, c.as_slice-in-None.ensures) c.requires.valid.outputs

pub returns : goal.returns
returns c =
    let held : c.deref.result.now ≡ node_values c.args.inputs.now c.args.flat.now.nodes =
    c.deref.ensures.value ∙ c.in_ok-values.ensures ∙ ap (node_values c.args.inputs.now) c.as_slice.ensures in
    let same : c.deref-in-None.result.now ≡ c.deref.result.now = c.deref-in-None.ensures.value ∙ sym c.deref.ensures.value in
    let given = rw (c.as_slice-in-None.ensures, same) at c.in_ok-outputs-in-None.ensures in
    run_ends c.args.flat.now c.args.inputs.now _ _ held (rw c.as_slice-2.ensures at c.in-None.ensures) (c.from_vec.ensures ∙ given)
