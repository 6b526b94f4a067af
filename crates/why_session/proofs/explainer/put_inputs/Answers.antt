use Rattle.std.proofs.Common.{◌≡◌, ◌<◌, ◌+◌, length, take, set, ap, sym, ◌∙◌, arith}
use Rattle.std.proofs.lemmas.List.{take_all, length-set}
use Rattle.m_fixed.specs.declared.amount.Value.{Value}
use Rattle.flat_code.specs.Runs.{value_at}
use Rattle.why_report.specs.Starts.{Reporting}
use Rattle.why_session.proofs.EditLemmas.{as_many, put_next}
use Rattle.why_session.proofs.explainer.put_inputs.Goals as goal

pub put-requires : goal.put-requires
put-requires c = omega (arith, c.loop-input-test.true, c.loop-input.invariant.long, c.requires.many, c.count-count.ensures.inputs)

pub loop-input-preserved : goal.loop-input-preserved
loop-input-preserved c =
    let held = c.loop-input.reporter.inputs in
    let values = c.args.session.now.sitting.values in
    let input = c.loop-input.input in
    let sizes = as_many c.args.session.now.sitting.face.inputs values c.requires.values in
    let few : input < length held = omega (arith, c.loop-input-test.true, c.loop-input.invariant.long, c.requires.many, c.count-count.ensures.inputs) in
    let same : length held ≡ length values = omega (arith, c.loop-input.invariant.long, c.requires.many, sizes) in
    let put : c.put.new.self.inputs ≡ set held input (value_at values input) =
    ap (λ (r : Reporting). r.inputs) c.put.ensures.put ∙ ap (λ (v : Value). set held input v) c.input_value.ensures in
    record {
      low = omega (arith, c.loop-input-test.true);
      long = ap length put ∙ length-set held input (value_at values input) ∙ c.loop-input.invariant.long;
      put = ap (take (input + 1)) put ∙ put_next held values input few same c.loop-input.invariant.put;
      ordered = ap (λ (r : Reporting). r.ordered) c.put.ensures.put ∙ c.loop-input.invariant.ordered;
      start = λ declared is. c.put.ensures.start declared (c.loop-input.invariant.start declared is);
    }

pub returns-clause-inputs : goal.returns-clause-inputs
returns-clause-inputs c =
    let held = c.loop-input.reporter.inputs in
    let values = c.args.session.now.sitting.values in
    let sizes = as_many c.args.session.now.sitting.face.inputs values c.requires.values in
    sym (take_all c.loop-input.input held (omega (arith, c.loop-input-test.false, c.loop-input.invariant.long, c.requires.many, c.count-count.ensures.inputs)))
    ∙ c.loop-input.invariant.put
    ∙ take_all c.loop-input.input values (omega (arith, c.loop-input-test.false, sizes, c.count-count.ensures.inputs))
