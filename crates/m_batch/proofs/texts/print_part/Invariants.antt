use Rattle.std.proofs.Common.{◌≡◌, ◌+◌, length}
use Rattle.m_ports.proofs.GivingLemmas.{Given}
use Rattle.m_batch.proofs.CountLemmas.{IsCounting}
use Rattle.m_batch.proofs.PrintLemmas.{MayFrom, count_from, text_from}
use Rattle.m_batch.proofs.texts.print_part.Given as goal

abbrev pub invariant-loop-alloc : goal.invariant-loop-alloc
invariant-loop-alloc g l = record {
  code : l.blocks.code ≡ l.code;
  place : l.at + length l.blocks.rows ≡ l.place + length l.rows;
  may : MayFrom (g.P.RowPrinter.may_print l.printer) l.code l.at l.blocks.rows;
  given : Given g.K.Sink.written g.K.Sink.faults l.initial.out l.out (text_from (g.P.RowPrinter.text l.printer) l.code l.place l.rows)
      (text_from (g.P.RowPrinter.text l.printer) l.code l.at l.blocks.rows);
  counted : IsCounting l.count (count_from (g.P.RowPrinter.count l.printer) l.code l.at l.blocks.rows)
      (count_from (g.P.RowPrinter.count l.printer) l.code l.place l.rows);
}

abbrev pub decreases-loop-alloc : goal.decreases-loop-alloc
decreases-loop-alloc g l = length l.blocks.rows
