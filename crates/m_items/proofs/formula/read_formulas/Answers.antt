use Rattle.std.proofs.Common.{arith}
use Rattle.m_items.proofs.Manys.{begun_start, begun_turn, begun_stop}
use Rattle.m_items.proofs.formula.read_formulas.Goals as goal

pub formulas-init : goal.formulas-init
formulas-init c = record {
  shorter = c.in_ok-first.ensures.shorter;
  begun = rw (c.in_ok-push.ensures.items, c.new-formulas.ensures.items) (begun_start _ c.in_ok-first.ensures.reads);
}

pub formulas-preserved : goal.formulas-preserved
formulas-preserved c =
    let reads = rw c.in-Some.is at c.in_ok-formula.ensures.reads in
    let less = rw c.in-Some.is at c.in_ok-formula.ensures.shorter in
    record {
      shorter = omega (arith, less, c.formulas.invariant.shorter);
      begun = rw c.in_ok-push-2.ensures.items (begun_turn _ c.formulas.invariant.begun reads less);
    }

pub returns-clause-reads : goal.returns-clause-reads
returns-clause-reads c =
    let none = rw c.in_default.is at c.in_ok-formula.ensures.reads in
    rw none.1 (begun_stop _ c.formulas.invariant.begun none.0)
