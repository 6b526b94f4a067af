use Rattle.std.proofs.Common.{ap, ◌∙◌, ◌+◌, min}
use Rattle.m_places.specs.declared.limits.TheConstants.{PARTS}
use Rattle.loop_values.specs.Headers.{instance_count, all_indexes}
use Rattle.index_expand.proofs.ManyLemmas.{refused}
use Rattle.index_expand.proofs.formulas.refusal.Goals as goal

pub returns-else-headers_count-le-MOST : goal.returns-else-headers_count-le-MOST
returns-else-headers_count-le-MOST c = λ declared tables.
    refused declared c.args.formula.now c.args.rule c.headers_count.result tables
    (c.headers_count.ensures ∙ ap (λ hs. min (instance_count (all_indexes hs)) (PARTS + 1)) c.as_slice.ensures) c.if-headers_count-le-MOST.false
