use Rattle.std.proofs.Common.{refl}
use Rattle.mpp_parser.specs.inner.Blocks.{functions_at}
use Rattle.mpp_parser.proofs.Manys.{many_start, many_turn, many_stop}
use Rattle.mpp_parser.proofs.blocks.read_functions.Goals as goal

pub functions-init : goal.functions-init
unfolding functions_at
functions-init c = rw c.new-functions.ensures.items (many_start _ refl)

pub functions-preserved : goal.functions-preserved
functions-preserved c =
    let reads = rw c.in-Some.is at c.in_ok-function.ensures.reads in
    let less = rw c.in-Some.is at c.in_ok-function.ensures.stays in
    rw c.in_ok-push.ensures.items (many_turn _ c.functions.invariant reads less)

pub returns : goal.returns
returns c =
    let none = rw c.in_default.is at c.in_ok-function.ensures.reads in
    let stays = rw c.in_default.is at c.in_ok-function.ensures.stays in
    rw stays (many_stop _ c.functions.invariant none)
