use Rattle.std.proofs.Common.{arith, ap, ◌∙◌, ◌*◌, min}
use Rattle.loop_values.specs.declared.values.TheConstants.{MANY}
use Rattle.loop_values.proofs.Counts.{headers_next}
use Rattle.loop_values.specs.Headers as spec
use Rattle.loop_values.proofs.header.headers_count.Goals as goal

pub loop-header-preserved : goal.loop-header-preserved
loop-header-preserved c = (
  omega arith,
  headers_next c.args.headers.now c.loop-header.header-index c.header-item.result c.loop-header.count c.instance_count-count.result MANY _
      c.loop-header-test.true c.header-item.is c.loop-header.invariant.1
      (c.instance_count-count.ensures.count ∙ ap (λ is. min (c.loop-header.count * spec.instance_count is) MANY) c.as_slice.ensures),
)
