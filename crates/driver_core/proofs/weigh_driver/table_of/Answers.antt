use Rattle.std.proofs.Common.{suc, length, arith}
use Rattle.driver_core.proofs.TableLemmas.{table-first}
use Rattle.driver_core.proofs.weigh_driver.table_of.Goals as goal

pub returns : goal.returns
returns c = λ base er ec.
    let core = c.args.core.now in
    let table = c.in_ok-weigh_reached.ensures.table base er ec
    (table-first core base _ c.in_ok-vec.field-0.items c.in_ok-vec-2.field-0.items (c.in_ok-vec.ensures.items_if_clones_equal (λ y p. p))
    (c.in_ok-vec-2.ensures.items_if_clones_equal (λ y p. p))) in
    record { weighed = λ f done. table.weighed f done (suc (length core.bodies)) (omega (arith, c.in_ok-weigh_reached.ensures.few)) }
