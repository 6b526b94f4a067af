use Rattle.m_symbols.proofs.Outcomes.{reported}
use Rattle.m_resolve.proofs.Lists.{condition_fault, label_fault}
use Rattle.m_resolve.proofs.checks.checks_with.Goals as goal

pub returns-in_err-tree : goal.returns-in_err-tree
returns-in_err-tree c =
    reported _ _ _ _ _ c.from_residual-in_err-tree.ensures.1
    (λ n. condition_fault c.args.symbols.now _ c.args.all.now c.loop-one.one-index _ _ c.loop-one-test.true c.one-item.is c.loop-one.invariant.stated
    (c.in_err-tree.ensures n))

pub returns-in_err-label : goal.returns-in_err-label
returns-in_err-label c =
    reported _ _ _ _ _ c.from_residual-in_err-label.ensures.1
    (λ n. label_fault c.args.symbols.now _ c.args.all.now c.loop-one.one-index _ _ _ c.loop-one-test.true c.one-item.is c.loop-one.invariant.stated
    c.in_ok-tree.ensures (c.in_err-label.ensures n))
