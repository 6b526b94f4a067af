use Rattle.std.proofs.Common.{◌≡◌, ◌+◌, ◌*◌, ◌<◌, ◌^◌, drop}
use Rattle.driver_core.specs.Actions.{action_nodes, nodes_of_block}
use Rattle.driver_core.specs.ActionView.{block_of}
use Rattle.driver_core.specs.Weights.{names_changed_in}
use Rattle.driver_core.specs.inner.Capped.{capped}
use Rattle.driver_core.proofs.weigh_blocks.+names.Given as goal

abbrev pub decreases-names_in : goal.decreases-names_in
decreases-names_in l = 2 * nodes_of_block (block_of l.block.now) + 1

abbrev pub decreases-names_of : goal.decreases-names_of
decreases-names_of l = 2 * action_nodes l.command.now

abbrev pub invariant-names_in-loop-command : goal.invariant-names_in-loop-command
invariant-names_in-loop-command l = record {
  sum : capped (l.total + names_changed_in (block_of (drop l.command-index l.block))) ≡ capped (names_changed_in (block_of l.block));
  fits : l.total < 2 ^ 64;
}
