use Rattle.std.proofs.Common.{◌≤◌, ◌-◌, drop, length}
use Rattle.m_ports.proofs.GivingLemmas.{Given}
use Rattle.m_batch.proofs.CountLemmas.{IsCounting}
use Rattle.m_batch.proofs.PrintLemmas.{MayFrom, count_from, text_from}
use Rattle.m_batch.proofs.print.print_batch.Given as goal

abbrev pub invariant-loop-from : goal.invariant-loop-from
invariant-loop-from g l = record {
  within : l.from ≤ length l.rows;
  may : MayFrom (g.P.RowPrinter.may_print l.printer) l.code l.from (drop l.from l.rows);
  given : Given g.K.Sink.written g.K.Sink.faults l.initial.out l.out (text_from (g.P.RowPrinter.text l.printer) l.code 0 l.rows)
      (text_from (g.P.RowPrinter.text l.printer) l.code l.from (drop l.from l.rows));
  counted : IsCounting l.count (count_from (g.P.RowPrinter.count l.printer) l.code l.from (drop l.from l.rows))
      (count_from (g.P.RowPrinter.count l.printer) l.code 0 l.rows);
}

abbrev pub decreases-loop-from : goal.decreases-loop-from
decreases-loop-from g l = length l.rows - l.from
