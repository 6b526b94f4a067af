use Rattle.m_symbols.proofs.Outcomes.{reported}
use Rattle.m_resolve.proofs.Lists.{target_fault, definition_fault}
use Rattle.m_resolve.proofs.definitions.definitions.Goals as goal

pub returns-in_err-cell : goal.returns-in_err-cell
returns-in_err-cell c =
    reported _ _ _ _ _ c.from_residual-in_err-cell.ensures.1
    (λ n. target_fault c.args.symbols.now _ c.args.all.now c.loop-one.one-index _ _ c.loop-one-test.true c.one-item.is c.loop-one.invariant.same
    (c.in_err-cell.ensures.outcome _ (rw c.deref_mut.ensures.value c.loop-one.invariant.marks) n))

pub returns-in_err-tree : goal.returns-in_err-tree
returns-in_err-tree c =
    reported _ _ _ _ _ c.from_residual-in_err-tree.ensures.1
    (λ n. definition_fault c.args.symbols.now _ c.args.all.now c.loop-one.one-index _ _ _ c.loop-one-test.true c.one-item.is c.loop-one.invariant.same
    (c.in_ok-cell.ensures.outcome _ (rw c.deref_mut.ensures.value c.loop-one.invariant.marks)) (c.in_err-tree.ensures n))
