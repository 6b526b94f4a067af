use Rattle.std.proofs.Common.{rules, ◌≡◌}
use mathlib.Core.Bool.{◌||◌}
use Rattle.definedness.specs.Ranges.{leaves_amounts, cut_to_amounts}
use Rattle.definedness.proofs.Cuts.{some_value}
use Rattle.definedness.proofs.operator.bounded_fact.Goals as goal

pub new-requires : goal.new-requires
new-requires c =
    let cut : c.cut_to_amounts.result ≡ cut_to_amounts (c.args.low, c.args.high) = search rules in
    let new : c.if-over.new ≡ (c.args.over || leaves_amounts (c.args.low, c.args.high)) = search rules in
    rw cut (some_value c.args.undef c.args.over c.if-over.new c.args.low c.args.high c.requires new)
