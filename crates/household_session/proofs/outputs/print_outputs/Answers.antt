use Rattle.std.proofs.Common.{◌<◌, ◌≤◌, length, ap, refl, arith}
use Rattle.std.proofs.lemmas.Result.{err_from_is_err_and}
use Rattle.m_ports.proofs.GivingLemmas.{piece_given, piece_failed, all_given}
use Rattle.flat_code.specs.Runs.{node_values}
use Rattle.household_session.proofs.OutputLemmas.{outputs_at, outputs_end}
use Rattle.household_session.proofs.outputs.print_outputs.Goals as goal

pub returns-in_err-print_values : goal.returns-in_err-print_values
returns-in_err-print_values g c =
    let p = err_from_is_err_and c.from_residual.result c.from_residual.ensures.1 in
    let gave = c.in_err-print_values.ensures in
    let sheet = c.args.sheet.now in
    let named : c.loop-k.k < length c.args.face.now.outputs = omega (arith, c.loop-k-test.true, ap length c.as_slice-count.ensures) in
    let there : c.loop-k.k < length c.args.sheet.now.flat.outputs = omega (arith, named, c.requires.named) in
    piece_failed _ _ _ _ _ _ _ _ _ _ _ p.1
    (outputs_at c.args.face.now (node_values sheet.now sheet.flat.nodes) sheet.flat.outputs c.loop-k.k c.output.result named there c.output.ensures)
    c.loop-k.invariant gave.failed gave.prefix gave.counted

pub loop-k-preserved : goal.loop-k-preserved
loop-k-preserved g c =
    let gave = c.in_ok-print_values.ensures in
    let sheet = c.args.sheet.now in
    let named : c.loop-k.k < length c.args.face.now.outputs = omega (arith, c.loop-k-test.true, ap length c.as_slice-count.ensures) in
    let there : c.loop-k.k < length c.args.sheet.now.flat.outputs = omega (arith, named, c.requires.named) in
    piece_given _ _ _ _ _ _ _ _ _
    (outputs_at c.args.face.now (node_values sheet.now sheet.flat.nodes) sheet.flat.outputs c.loop-k.k c.output.result named there c.output.ensures)
    c.loop-k.invariant gave.all gave.faultless

pub returns : goal.returns
returns g c =
    let sheet = c.args.sheet.now in
    let past : length c.args.sheet.now.flat.outputs ≤ c.loop-k.k = omega (arith, c.loop-k-test.false, ap length c.as_slice-count.ensures, c.requires.named) in
    all_given _ _ _ _ _ _ tt refl (rw (outputs_end c.args.face.now (node_values sheet.now sheet.flat.nodes) sheet.flat.outputs c.loop-k.k past) at
    c.loop-k.invariant)
