use Rattle.std.proofs.Common.{arith}
use Rattle.household.specs.declared.cuts.TheConstants.{BETWEEN}
use Rattle.household.proofs.CutLemmas.{cuts_first, cuts_more, cuts_end, fewer}
use Rattle.household.proofs.cuts.cuts_of.Goals as goal

pub loop-next-init : goal.loop-next-init
loop-next-init c = record { so_far = cuts_first _ _ c.args.first c.requires.cut (rw c.new-cuts.ensures.items at c.in_ok-push.ensures.items) }

pub loop-next-smaller : goal.loop-next-smaller
loop-next-smaller c = fewer BETWEEN _ _ (omega arith) (c.in-Some.ensures.1, c.in-Some.ensures.2)

pub loop-next-preserved : goal.loop-next-preserved
loop-next-preserved c = record {
  so_far = cuts_more _ _ _ _ _ _ c.loop-next.invariant.so_far c.in_ok-push-2.ensures.items c.in-Some.ensures.0
      c.in-Some.ensures.1;
}

pub returns : goal.returns
returns c = cuts_end _ _ _ _ c.loop-next.invariant.so_far c.in_default.ensures
