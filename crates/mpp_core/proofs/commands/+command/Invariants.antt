use Rattle.std.proofs.Common.{◌≡◌, ◌+◌, ◌*◌, [], drop}
use Rattle.mpp_parser.specs.Commands.{act_nodes, nodes_of_acts}
use Rattle.mpp_parser.specs.CommandView.{block_of as acts_of}
use Rattle.mpp_core.specs.Bodies.{resolved_acts}
use Rattle.mpp_core.proofs.commands.+command.Given as goal

abbrev pub decreases-command : goal.decreases-command
decreases-command l = 3 * act_nodes l.command.now

abbrev pub decreases-branched : goal.decreases-branched
decreases-branched l = 3 * (nodes_of_acts (acts_of l.first.now) + nodes_of_acts (acts_of l.second.now)) + 2

abbrev pub decreases-partitioned : goal.decreases-partitioned
decreases-partitioned l = 3 * nodes_of_acts (acts_of l.block.now) + 2

abbrev pub decreases-commands : goal.decreases-commands
decreases-commands l = 3 * nodes_of_acts (acts_of l.all.now) + 1

abbrev pub invariant-commands-loop-one : goal.invariant-commands-loop-one
invariant-commands-loop-one l = resolved_acts l.scope l.names l.stated.items (acts_of (drop l.one-index l.all)) ≡ resolved_acts l.scope l.names []
    (acts_of l.all)
