use Rattle.std.proofs.Common.{◌-◌, take, drop, arith}
use Rattle.std.proofs.lemmas.Result.{err_from_is_err_and}
use Rattle.m_ports.proofs.GivingLemmas.{none_given, piece_given}
use Rattle.m_batch.proofs.CountLemmas.{counting_first, counting_more}
use Rattle.m_batch.proofs.PrintLemmas.{count_next, may_next, text_next, window_next}
use Rattle.m_batch.proofs.WritingLemmas.{part_stopped}
use Rattle.m_batch.proofs.print.print_batch.Goals as goal

pub loop-from-init : goal.loop-from-init
loop-from-init g c = record {
  within = omega arith;
  may = c.requires.may;
  given = none_given _ _ _ _;
  counted = counting_first _;
}

pub print_window-requires-clause-may : goal.print_window-requires-clause-may
print_window-requires-clause-may g c = λ κs held.
    let rows = c.args.rows.now in
    let from = c.loop-from.from in
    let end = c.window_end-end.result in
    let next = window_next rows from end c.window_end-end.ensures.some c.window_end-end.ensures.within in
    (may_next (g.P.RowPrinter.may_print c.args.printer.now) c.args.code.now from (drop from rows) (take (end - from) (drop from rows)) (drop end rows) end
    next.0 next.1 c.loop-from.invariant.may).0

pub returns-in_err-some-clause-text : goal.returns-in_err-some-clause-text
returns-in_err-some-clause-text g c =
    let p = err_from_is_err_and c.from_residual.result c.from_residual.ensures.1 in
    let rows = c.args.rows.now in
    let from = c.loop-from.from in
    let end = c.window_end-end.result in
    let next = window_next rows from end c.window_end-end.ensures.some c.window_end-end.ensures.within in
    part_stopped _ _ _ _ _ _ _ _ _ _ _ _ p.1 p.2
    (text_next (g.P.RowPrinter.text c.args.printer.now) c.args.code.now from (drop from rows) (take (end - from) (drop from rows)) (drop end rows) end next.0
    next.1)
    c.loop-from.invariant.given c.in_err-some.ensures.text.prefix c.in_err-some.ensures.text.counted

pub loop-from-preserved : goal.loop-from-preserved
loop-from-preserved g c =
    let rows = c.args.rows.now in
    let code = c.args.code.now in
    let from = c.loop-from.from in
    let end = c.window_end-end.result in
    let part = take (end - from) (drop from rows) in
    let next = window_next rows from end c.window_end-end.ensures.some c.window_end-end.ensures.within in
    record {
      within = c.window_end-end.ensures.within;
      may = (may_next (g.P.RowPrinter.may_print c.args.printer.now) code from (drop from rows) part (drop end rows) end next.0 next.1
          c.loop-from.invariant.may).1;
      given = piece_given _ _ _ _ _ _ _ _ _
          (text_next (g.P.RowPrinter.text c.args.printer.now) code from (drop from rows) part (drop end rows) end next.0 next.1)
          c.loop-from.invariant.given c.in_ok-some.ensures.text.all c.in_ok-some.ensures.text.counted;
      counted = counting_more c.loop-from.count c.in_ok-some.some c.saturating_add-count.result _ _ _ _
          (count_next (g.P.RowPrinter.count c.args.printer.now) code from (drop from rows) part (drop end rows) end next.0 next.1)
          c.loop-from.invariant.counted c.in_ok-some.ensures.count c.saturating_add-count.ensures;
    }
