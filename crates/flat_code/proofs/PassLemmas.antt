-- Passes.
use Rattle.std.proofs.Common.{◌≤◌, length, ◌∙◌, arith}
use Rattle.flat_code.specs.declared.program.Flat.{Flat}
use Rattle.flat_code.specs.Passes.{HaveLabelsOf, Becomes}

pub labels-then : (first second third : Flat) → HaveLabelsOf first.checks second.checks → HaveLabelsOf second.checks third.checks
    → HaveLabelsOf first.checks third.checks
labels-then first second third f g j lt =
    let s = g j lt in
    let r = f s.0 s.1 in
    (r.0, r.1, s.2 ∙ r.2)

pub becomes-then : (first second third : Flat) → Becomes first second → Becomes second third → Becomes first third
becomes-then first second third f g =
    let nodes : length second.nodes ≤ length first.nodes = f.nodes in
    let checks : length second.checks ≤ length first.checks = f.checks in
    let nodes' : length third.nodes ≤ length second.nodes = g.nodes in
    let checks' : length third.checks ≤ length second.checks = g.checks in
    record {
      valid = g.valid;
      inputs = g.inputs ∙ f.inputs;
      outputs = g.outputs ∙ f.outputs;
      nodes = omega arith;
      checks = omega arith;
      labels = labels-then first second third f.labels g.labels;
      answer = λ inputs plain. g.answer inputs plain ∙ f.answer inputs plain;
    }
