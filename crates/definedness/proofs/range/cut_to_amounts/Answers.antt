use Rattle.std.proofs.Common.{rules, ◌≡◌}
use Rattle.std.specs.Int.{int_max, int_min}
use Rattle.definedness.specs.Ranges.{lowest_amount, highest_amount}
use Rattle.definedness.proofs.Cuts.{cut_is_interval}
use Rattle.definedness.proofs.range.cut_to_amounts.Goals as goal

pub invariant_of-result : goal.invariant_of-result
invariant_of-result c =
    let low : c.amount.result ≡ int_max lowest_amount c.args.low = search rules in
    let high : c.amount-2.result ≡ int_min c.args.high highest_amount = search rules in
    rw (low, high) (cut_is_interval c.args.low c.args.high c.requires (search rules) (search rules))
