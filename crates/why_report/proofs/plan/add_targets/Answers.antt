use Rattle.std.proofs.Common.{◌≡◌, ◌+◌, ◌-◌, [], drop, ap, sym, ◌∙◌, arith}
use Rattle.micro_m.specs.Bases.{Definition}
use Rattle.rule_order.proofs.ValueLemmas.{looked-up}
use Rattle.why_report.specs.Reasons.{targets_down}
use Rattle.why_report.proofs.PlanLemmas.{targets-turn}
use Rattle.why_report.proofs.plan.add_targets.Goals as goal

pub loop-left-preserved : goal.loop-left-preserved
loop-left-preserved c =
    let k = c.loop-left.left - 1 in
    let sequence = c.as_slice-sequence.result.now in
    let base = c.args.ordered.now.base in
    let found = looked-up base c.args.ordered.now.sequence sequence c.as_slice-definitions.result.now k c.index-definitions-sequence.result c.requires.order
    c.as_slice-definitions.ensures c.as_slice-sequence.ensures (omega (arith, c.loop-left.invariant.0, c.loop-left-test.true))
    c.index-definitions-sequence.is in
    let one : k + 1 ≡ c.loop-left.left = omega (arith, c.loop-left-test.true) in (
      omega (arith, c.loop-left.invariant.0),
      c.in_ok-push.ensures.items
          ∙ targets-turn base sequence c.loop-left.cells.items k _ (omega (arith, c.loop-left.invariant.0, c.loop-left-test.true))
          (ap (λ (d : Definition). d.0) (sym c.index-definitions-sequence.is) ∙ found.1)
          (c.loop-left.invariant.1 ∙ ap (λ n. targets_down base (drop n sequence) []) (sym one)),
    )
