use Rattle.std.proofs.Common.{◌≡◌, ◌+◌, ◌-◌, ◌≤◌, length, arith}
use Rattle.input_reads.specs.Reads.{depends_on}
use Rattle.input_reads.proofs.ListLemmas.{group-more}
use Rattle.input_reads.proofs.found.dependences.Goals as goal

pub loop-from-preserved : goal.loop-from-preserved
loop-from-preserved c =
    let from = c.loop-from.from in
    let count = c.group_of.result in
    let within : from + count ≤ length c.args.wanted.now = omega (arith, c.group_of.ensures.within, c.loop-from-test.true) in
    let step : from + (from + count - from) ≡ from + count = omega arith in (
      within,
      group-more (depends_on c.args.known.now c.args.nodes.now c.args.inputs) c.loop-from.found.items c.add_group.new.found.items c.args.wanted.now from
          (from + count - from) (from + count)
          step c.loop-from.invariant.1 c.in_ok-add_group.ensures,
    )
