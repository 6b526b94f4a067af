use Rattle.std.proofs.Common.{◌∙◌, get_or, refl, arith, []}
use Rattle.observables.specs.Inputs.{codes_of}
use Rattle.m_names.proofs.Distinct.{distinct_added}
use Rattle.code_file.proofs.RunLemmas.{code-at, length-map}
use Rattle.code_file.proofs.runs.first_again.Goals as goal

pub loop-k-preserved : goal.loop-k-preserved
loop-k-preserved c =
    let name = c.bytes.ensures ∙ code-at (λ input. input.code) c.args.inputs.now c.loop-k.k (get_or c.args.inputs.now c.loop-k.k c.index-inputs-k.result)
    c.index-inputs-k.result c.loop-k-test.true refl in
    let k = distinct_added (codes_of c.args.inputs.now) c.loop-k.k [] (omega (arith, c.loop-k-test.true, length-map (λ input. input.code) c.args.inputs.now))
    c.loop-k.invariant.known c.loop-k.invariant.distinct name c.in_ok-fresh.ensures.fresh c.if-not-fresh.false c.in_ok-fresh.ensures.added in
    record { known = k.0; distinct = k.1 }
