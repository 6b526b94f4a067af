use Rattle.std.proofs.Common.{◌≡◌, length, arith}
use Rattle.loop_values.specs.Values.{index_values}
use Rattle.loop_values.proofs.KeptLemmas.{left_out}
use Rattle.loop_values.proofs.header.keep.Goals as goal

pub returns-then-index_count-eq1 : goal.returns-then-index_count-eq1
returns-then-index_count-eq1 c =
    let one : length (index_values c.args.index.now) ≡ 1 = omega arith in
    λ all kept. left_out c.args.kept.now.items c.args.bound.now c.args.index.now all kept (omega arith) c.if-bound-index.true one
