use Rattle.std.proofs.Common.{arith, ap, ◌∙◌, sym, ◌*◌, ◌+◌, min, length, drop}
use Rattle.loop_values.specs.declared.values.TheConstants.{MANY}
use Rattle.loop_values.proofs.Counts.{times_more, count_next}
use Rattle.loop_values.specs.Values.{index_values}
use Rattle.loop_values.specs.Headers as spec
use Rattle.loop_values.proofs.header.instance_count.Goals as goal

pub loop-index-preserved : goal.loop-index-preserved
loop-index-preserved c = (
  omega arith,
  times_more c.loop-index.count (length (index_values c.index-item.result)) (spec.instance_count (drop (c.loop-index.index-index + 1) c.args.indexes.now)) MANY
      c.min-count.result _
      (ap (λ n. min (c.loop-index.count * n) MANY)
      (sym (count_next c.args.indexes.now c.loop-index.index-index c.index-item.result c.loop-index-test.true c.index-item.is)) ∙ c.loop-index.invariant.1)
      (c.min-count.ensures ∙ ap (λ n. min (c.loop-index.count * n) MANY) c.index_count.ensures),
)
