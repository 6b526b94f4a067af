use Rattle.m_symbols.proofs.Outcomes.{reported}
use Rattle.index_expand.proofs.DeclaredLemmas.{tables_have_cells}
use Rattle.rule_base.proofs.Steps.{file_reported, declare_reported, over_reported, finished, declared_placed, placed_after}
use Rattle.rule_base.proofs.base.rule_base.Goals as goal

pub returns-in_err-items-clause-outcome : goal.returns-in_err-items-clause-outcome
returns-in_err-items-clause-outcome g c = reported _ _ _ _ _ c.from_residual.ensures.1
    (λ n. file_reported c.args.texts.now c.args.application.now _ (c.in_err-items.ensures.outcome n))

pub returns-in_err-symbols-clause-outcome : goal.returns-in_err-symbols-clause-outcome
returns-in_err-symbols-clause-outcome g c =
    reported _ _ _ _ _ c.from_residual-in_err-symbols.ensures.1
    (declare_reported c.args.texts.now c.args.application.now _ _ c.in_ok-items.ensures.outcome (rw c.deref.ensures.value at c.in_err-symbols.ensures.outcome))

pub returns-in_err-base-clause-outcome : goal.returns-in_err-base-clause-outcome
returns-in_err-base-clause-outcome g c =
    reported _ _ _ _ _ c.from_residual-in_err-base.ensures.1
    (λ n. over_reported c.args.texts.now c.args.application.now _ _ _ c.in_ok-items.ensures.outcome
    (rw c.deref.ensures.value at c.in_ok-symbols.ensures.outcome)
    (rw c.deref-2.ensures.value at c.in_err-base.ensures.outcome n))

pub returns-clause-outcome : goal.returns-clause-outcome
returns-clause-outcome g c =
    finished c.args.texts.now c.args.application.now _ _ _ _ c.in_ok-items.ensures.outcome (rw c.deref.ensures.value at c.in_ok-symbols.ensures.outcome)
    (rw c.deref-2.ensures.value at c.in_ok-base.ensures.outcome) c.ordered_base.ensures.outcome

pub base_over-requires-clause-placed : goal.base_over-requires-clause-placed
base_over-requires-clause-placed g c = declared_placed c.in_ok-items.items.items _ (rw c.deref.ensures.value at c.in_ok-symbols.ensures.outcome).1

pub base_over-requires-clause-tables : goal.base_over-requires-clause-tables
base_over-requires-clause-tables g c =
    let stated = rw c.deref.ensures.value at c.in_ok-symbols.ensures.outcome in tables_have_cells c.in_ok-items.items.items _ stated.0 stated.1

pub returns-clause-placed : goal.returns-clause-placed
returns-clause-placed g c = placed_after _ _ _ _ (declared_placed c.in_ok-items.items.items _ (rw c.deref.ensures.value at c.in_ok-symbols.ensures.outcome).1)
    c.ordered_base.ensures.outcome
