use Rattle.std.proofs.Common.{rules, ap, sym, ◌∙◌}
use Rattle.definedness.specs.inner.Limits.{limited_range}
use Rattle.definedness.proofs.Beyond.{range_limited_twice, opposites_kept, quotients_by_others, quotients_by_zero, quotients_by_both}
use Rattle.definedness.proofs.results.quotients.Goals as goal

pub returns-then-not-has_zero : goal.returns-then-not-has_zero
returns-then-not-has_zero c =
    let others = quotients_by_others c.args.a c.args.b (sym c.has_zero.ensures ∙ c.if-not-has_zero.true) in
    rw (c.corners.ensures, others) (range_limited_twice _)

pub returns-then-not-has_other : goal.returns-then-not-has_other
returns-then-not-has_other c =
    let zero = quotients_by_zero c.args.a c.args.b (sym c.has_zero.ensures ∙ c.if-not-has_zero.false) (sym c.has_other.ensures ∙ c.if-not-has_other.true) in
    ap limited_range (sym zero)

pub returns : goal.returns
returns c =
    let both = quotients_by_both c.args.a c.args.b (sym c.has_zero.ensures ∙ c.if-not-has_zero.false) (sym c.has_other.ensures ∙ c.if-not-has_other.false) in
    let g = c.greatest_quotient-greatest in
    ap limited_range (opposites_kept g.result _ (search rules) g.ensures.bound g.ensures.value ∙ sym both)
