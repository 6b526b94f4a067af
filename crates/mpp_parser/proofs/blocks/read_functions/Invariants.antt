use Rattle.std.proofs.Common.{length}
use Rattle.mpp_parser.specs.inner.Blocks.{function_at, functions_at}
use Rattle.mpp_parser.proofs.Manys.{Going}
use Rattle.mpp_parser.proofs.blocks.read_functions.Given as goal

abbrev pub invariant-functions : goal.invariant-functions
invariant-functions l = Going function_at (functions_at l.fn.lines) l.functions.items l.lines

abbrev pub decreases-functions : goal.decreases-functions
decreases-functions l = length l.lines
