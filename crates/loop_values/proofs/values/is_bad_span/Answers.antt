use Rattle.std.proofs.Common.{ap, ◌∙◌, eqb}
use Rattle.loop_values.specs.Values.{span_values}
use Rattle.loop_values.proofs.Numbers.{nothing_by_length}
use Rattle.loop_values.proofs.values.is_bad_span.Goals as goal

pub returns : goal.returns
returns c = ap (λ n. eqb n 0) c.span_count.ensures.count ∙ nothing_by_length (span_values c.args.span.now)
