use Rattle.std.proofs.Common.{arith, length, ◌≤◌, ◌^◌}
use Rattle.std.proofs.Math.Nat.{pow-le-pow_right}
use Rattle.index_expand.proofs.build.literal.Goals as goal

pub number_node-requires : goal.number_node-requires
number_node-requires c =
    let power : 10 ^ length c.args.word.now ≤ 10 ^ 12 = pow-le-pow_right {n = 10} (omega arith) {i = length c.args.word.now} {j = 12} (omega (
      arith,
      c.requires.short,
    )) in
    omega (arith, c.number.ensures.below)
