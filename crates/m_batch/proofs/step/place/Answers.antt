use Rattle.std.proofs.Common.{ap, ◌∙◌, Vec, slice_set}
use Rattle.std.specs.declared.alloc.Global.{Global}
use Rattle.std.proofs.lemmas.List.{map-set}
use Rattle.m_fixed.specs.declared.amount.Value.{Value}
use Rattle.reg_machine.specs.inner.Cells.{at}
use Rattle.m_batch.specs.inner.Rows.{row_of}
use Rattle.m_batch.proofs.step.place.Goals as goal

pub returns-clause-rows : goal.returns-clause-rows
returns-clause-rows c = λ r.
    map-set (λ (column : Vec Value Global). at column.items r) c.args.columns.now c.args.k c.swap.new.x
    ∙ ap (λ (column : Vec Value Global). slice_set (row_of r c.args.columns.now) c.args.k (at column.items r)) c.swap.ensures.x_after
