use Rattle.std.proofs.Common.{refl, ap, ◌∙◌, subst, get_or}
use Rattle.driver_core.specs.inner.WeightTable.{IsDone}
use Rattle.driver_core.proofs.weigh_driver.weight.Goals as goal

pub returns-then-is_done : goal.returns-then-is_done
returns-then-is_done c =
    let core = c.args.core.now in
    let main = core.main in
    let found = c.in_ok-table.ensures c.args.base.now c.weigh_base-rules.ensures refl in
    let done : IsDone c.in_ok-table.table.done.items main = subst (λ l. IsDone l main) c.deref.ensures.value (c.is_done.ensures c.if-is_done.true) in
    c.entry.ensures ∙ ap (λ l. get_or l main 0) c.deref-then-is_done.ensures.value ∙ found.weighed main done
