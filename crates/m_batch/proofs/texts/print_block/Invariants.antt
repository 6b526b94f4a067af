use Rattle.std.proofs.Common.{◌+◌, drop}
use Rattle.m_ports.proofs.GivingLemmas.{Given}
use Rattle.m_batch.specs.Printing.{MayPrintEach, printed_count, printed_text}
use Rattle.m_batch.proofs.CountLemmas.{IsCounting}
use Rattle.m_batch.proofs.texts.print_block.Given as goal

abbrev pub invariant-loop-k : goal.invariant-loop-k
invariant-loop-k g l = record {
  may : MayPrintEach (g.P.RowPrinter.may_print l.printer) (l.place + l.k) (drop l.k l.rows) (drop l.k l.answers);
  given : Given g.K.Sink.written g.K.Sink.faults l.initial.out l.out (printed_text (g.P.RowPrinter.text l.printer) l.place l.rows l.answers)
      (printed_text (g.P.RowPrinter.text l.printer) (l.place + l.k) (drop l.k l.rows) (drop l.k l.answers));
  counted : IsCounting l.count (printed_count (g.P.RowPrinter.count l.printer) (l.place + l.k) (drop l.k l.rows) (drop l.k l.answers))
      (printed_count (g.P.RowPrinter.count l.printer) l.place l.rows l.answers);
}
