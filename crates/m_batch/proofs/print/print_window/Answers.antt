use Rattle.std.proofs.Common.{◌+◌, ◌*◌, ◌≤◌, List, get_or, length, sym, subst, arith}
use Rattle.std.specs.List.{AllByRecursion}
use Rattle.std.proofs.lemmas.Result.{err_from_is_err_and}
use Rattle.household.specs.declared.table.Row.{Row}
use Rattle.m_batch.specs.Batch.{HasInputsBelow}
use Rattle.m_batch.specs.inner.Texts.{MayBeTextOf}
use Rattle.workers.proofs.PartLemmas.{of_parts}
use Rattle.m_batch.proofs.PrintLemmas.{MayFrom, each_part, may_part}
use Rattle.m_batch.proofs.WritingLemmas.{nothing_written}
use Rattle.m_batch.proofs.print.print_window.Goals as goal

pub map_parts-requires-clause-accepts : goal.map_parts-requires-clause-accepts
map_parts-requires-clause-accepts g c κs within = λ at lent part.
    let size = c.part_size-size.result in
    let rows = c.args.rows.now in
    let inside : at ≤ length rows = omega (arith, part.within) in (
      subst (AllByRecursion (HasInputsBelow c.args.code.now.counts.inputs)) (sym part.value)
          (each_part (HasInputsBelow c.args.code.now.counts.inputs) at size rows c.requires.inputs),
      subst (MayFrom (g.P.RowPrinter.may_print c.args.printer.now) c.args.code.now (c.args.from + at)) (sym part.value)
          (may_part (g.P.RowPrinter.may_print c.args.printer.now) c.args.code.now c.args.from at size rows inside c.requires.may),
      omega (arith, part.within, c.requires.within),
    )

pub returns-in_err-texts-clause-text : goal.returns-in_err-texts-clause-text
returns-in_err-texts-clause-text g c =
    let p = err_from_is_err_and c.from_residual.result c.from_residual.ensures.1 in nothing_written _ _ _ _ _ _ p.1 p.2

pub give_parts-requires-clause-texts : goal.give_parts-requires-clause-texts
give_parts-requires-clause-texts g c =
    let text = g.P.RowPrinter.text c.args.printer.now in
    let count = g.P.RowPrinter.count c.args.printer.now in
    let made = c.in_ok-texts.ensures in
    rw c.as_slice.ensures.value
    (of_parts (λ at part made. MayBeTextOf text count c.args.code.now (c.args.from + at) part made) c.part_size-size.result c.args.rows.now
    c.in_ok-texts.texts.items
    (λ n d h. let gave = made.each n d h in
    subst (λ (rows : List Row). MayBeTextOf text count c.args.code.now (c.args.from + n * c.part_size-size.result) rows (get_or c.in_ok-texts.texts.items n d))
    gave.1 gave.2)
    made.inside made.reach)
