use Rattle.std.proofs.Common.{◌≡◌, ◌≤◌, length, ◌∙◌, arith}
use Rattle.code_tests.proofs.Labels.{labels_below}
use Rattle.code_tests.proofs.programs.tidied.Goals as goal

pub returns-clause-sizes : goal.returns-clause-sizes
returns-clause-sizes c =
    let sizes = c.in_ok-flat.ensures.sizes in
    let becomes = c.in_ok-form.ensures.becomes in
    (becomes.inputs ∙ sizes.0, omega (arith, becomes.nodes, sizes.1), becomes.outputs ∙ sizes.2)

pub returns-clause-labels : goal.returns-clause-labels
returns-clause-labels c =
    labels_below 1 c.in_ok-flat.flat.checks c.in_ok-form.form.checks c.in_ok-flat.ensures.labels c.in_ok-form.ensures.becomes.labels
