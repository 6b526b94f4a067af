use Rattle.m_symbols.proofs.Outcomes.{reported}
use Rattle.rule_base.proofs.Small.{few-cells, few-labels}
use Rattle.m_compile.proofs.Steps.{requested_reported, few_requested, finished}
use Rattle.m_compile.proofs.compiling.program_over.Goals as goal

pub returns-in_err-core : goal.returns-in_err-core
returns-in_err-core c = reported _ _ _ _ _ c.from_residual.ensures.1
    (λ n. requested_reported c.args.source.now _ _ _ c.requires.rules (c.in_err-core.ensures.outcome n))

pub faced-requires-clause-few : goal.faced-requires-clause-few
faced-requires-clause-few c = rw c.as_slice.ensures (few_requested c.args.source.now.requests c.args.made.now.symbols _ c.in_ok-core.ensures.outcome.requested)

pub faced-requires-clause-few_cells : goal.faced-requires-clause-few_cells
faced-requires-clause-few_cells c = few-cells c.requires.rules.made

pub faced-requires-clause-few_labels : goal.faced-requires-clause-few_labels
faced-requires-clause-few_labels c = few-labels c.requires.rules.made

pub returns : goal.returns
returns c =
    finished c.args.source.now c.args.made.now.symbols c.args.made.now.ordered.base _ _ _ (few-labels c.requires.rules.made) c.requires.rules
    c.in_ok-core.ensures.outcome (rw c.as_slice.ensures at c.faced.ensures)
