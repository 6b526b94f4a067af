use Rattle.std.proofs.Common.{◌≡◌, ◌-◌, ◌∙◌, arith}
use Rattle.std.proofs.lemmas.List.{length-set}
use Rattle.micro_m.specs.Values.{environment}
use Rattle.why_report.specs.inner.Parts.{taken}
use Rattle.why_report.proofs.PartLemmas.{run-room, run-turn}
use Rattle.why_report.proofs.evaluate.evaluate.Goals as goal

pub bounds-stack-kept : goal.bounds-stack-kept
bounds-stack-kept c =
    let kept : c.saturating_sub-kept.result ≡ c.loop-part.depth - taken c.part-item.result = omega (arith, c.saturating_sub-kept.ensures, c.taken.ensures) in
    (run-room (environment c.args.values.now) c.args.parts.now c.loop-part.stack c.loop-part.depth c.loop-part.part-index c.saturating_sub-kept.result
    c.part-item.result c.loop-part-test.true c.part-item.is kept c.loop-part.invariant.0).2

pub loop-part-preserved : goal.loop-part-preserved
loop-part-preserved c =
    let kept : c.saturating_sub-kept.result ≡ c.loop-part.depth - taken c.part-item.result = omega (arith, c.saturating_sub-kept.ensures, c.taken.ensures) in (
      run-turn (environment c.args.values.now) c.args.parts.now c.loop-part.stack c.loop-part.depth c.loop-part.part-index c.saturating_sub-kept.result
          c.part-item.result c.value_over-value.result c.loop-part-test.true c.part-item.is kept c.value_over-value.ensures c.loop-part.invariant.0,
      length-set c.loop-part.stack c.saturating_sub-kept.result c.value_over-value.result ∙ c.loop-part.invariant.1,
    )
