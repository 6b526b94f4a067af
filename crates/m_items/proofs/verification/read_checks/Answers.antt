use Rattle.std.proofs.Common.{arith}
use Rattle.m_items.proofs.Manys.{begun_start, begun_turn, begun_stop}
use Rattle.m_items.proofs.verification.read_checks.Goals as goal

pub checks-init : goal.checks-init
checks-init c = record {
  shorter = c.in_ok-first.ensures.shorter;
  begun = rw (c.in_ok-push.ensures.items, c.new-checks.ensures.items) (begun_start _ c.in_ok-first.ensures.reads);
}

pub checks-preserved : goal.checks-preserved
checks-preserved c =
    let reads = rw c.in-Some.is at c.in_ok-check.ensures.reads in
    let less = rw c.in-Some.is at c.in_ok-check.ensures.shorter in
    record {
      shorter = omega (arith, less, c.checks.invariant.shorter);
      begun = rw c.in_ok-push-2.ensures.items (begun_turn _ c.checks.invariant.begun reads less);
    }

pub returns-clause-reads : goal.returns-clause-reads
returns-clause-reads c =
    let none = rw c.in_default.is at c.in_ok-check.ensures.reads in
    rw none.1 (begun_stop _ c.checks.invariant.begun none.0)
