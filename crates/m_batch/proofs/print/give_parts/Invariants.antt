use Rattle.std.proofs.Common.{◌+◌, ◌*◌, drop}
use Rattle.m_ports.proofs.GivingLemmas.{Given}
use Rattle.workers.specs.Parts.{AreOfParts}
use Rattle.m_batch.specs.inner.Texts.{MayBeTextOf}
use Rattle.m_batch.proofs.CountLemmas.{IsCounting}
use Rattle.m_batch.proofs.PrintLemmas.{MayFrom, count_from, text_from}
use Rattle.m_batch.proofs.print.give_parts.Given as goal

abbrev pub invariant-loop-n : goal.invariant-loop-n
invariant-loop-n g l = record {
  texts : AreOfParts (λ at part made. MayBeTextOf (g.P.RowPrinter.text l.printer) (g.P.RowPrinter.count l.printer) l.code (l.from + at) part made) l.size
      (l.n * l.size)
      (drop (l.n * l.size) l.rows) (drop l.n l.texts);
  may : MayFrom (g.P.RowPrinter.may_print l.printer) l.code (l.from + l.n * l.size) (drop (l.n * l.size) l.rows);
  given : Given g.K.Sink.written g.K.Sink.faults l.initial.out l.out (text_from (g.P.RowPrinter.text l.printer) l.code l.from l.rows)
      (text_from (g.P.RowPrinter.text l.printer) l.code (l.from + l.n * l.size) (drop (l.n * l.size) l.rows));
  counted : IsCounting l.count (count_from (g.P.RowPrinter.count l.printer) l.code (l.from + l.n * l.size) (drop (l.n * l.size) l.rows))
      (count_from (g.P.RowPrinter.count l.printer) l.code l.from l.rows);
}
