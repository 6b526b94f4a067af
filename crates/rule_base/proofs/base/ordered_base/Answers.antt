use Rattle.rule_base.proofs.Steps.{shown_cycle, cycle_of_cells}
use Rattle.rule_base.proofs.base.ordered_base.Goals as goal

pub cycle_of-requires : goal.cycle_of-requires
cycle_of-requires c =
    rw (c.as_slice.ensures, c.in-Err-Cycle.cells-is) (cycle_of_cells c.args.base c.args.symbols _ _ c.in-Err-Cycle.field-0-is c.requires.valid c.requires.cells
    c.in-Err-Cycle.ensures.outcome)

pub returns-in-Err-Cycle-clause-outcome : goal.returns-in-Err-Cycle-clause-outcome
returns-in-Err-Cycle-clause-outcome c = λ n.
    shown_cycle c.args.base c.args.symbols _ _ _ c.in-Err-Cycle.field-0-is c.in-Err-Cycle.ensures.outcome
    (rw (c.as_slice.ensures, c.in-Err-Cycle.cells-is) at c.cycle_of.ensures n)
