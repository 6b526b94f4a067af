use Rattle.std.proofs.Common.{◌≡◌, ◌+◌, ◌∙◌, List, length, ap, sym, subst, refl, inl, arith}
use Rattle.std.specs.Io.KnownBytes.{append_known}
use Rattle.std.proofs.lemmas.List.{length-append}
use Rattle.std.proofs.lemmas.Result.{err_from_is_err_and}
use Rattle.m_ports.specs.Sink.{AppendsPrefix}
use Rattle.m_ports.proofs.GivingLemmas.{Given, none_given, piece_given}
use Rattle.household.specs.declared.table.Row.{Row}
use Rattle.observables.specs.declared.answer.Answer.{Answer}
use Rattle.m_batch.specs.Batch.{Left, answers_of}
use Rattle.m_batch.specs.Printing.{MayPrintEach, counted_to_end, printed_count, printed_text}
use Rattle.m_batch.proofs.CountLemmas.{IsCounting, counting_first, counting_more}
use Rattle.m_batch.proofs.PrintLemmas.{MayFrom, count_from, count_next, may_next, text_from, text_next}
use Rattle.m_batch.proofs.WritingLemmas.{part_stopped}
use Rattle.m_batch.proofs.texts.print_part.Goals as goal

pub loop-alloc-init : goal.loop-alloc-init
loop-alloc-init g c =
    let text = g.P.RowPrinter.text c.args.printer.now in
    let count = g.P.RowPrinter.count c.args.printer.now in
    let code = c.args.code.now in
    let place = c.args.place in
    let rows = c.args.rows.now in
    let same : c.in_ok-blocks.blocks.rows ≡ rows = ap (λ (left : Left). left.rows) c.in_ok-blocks.ensures in
    record {
      code = ap (λ (left : Left). left.code) c.in_ok-blocks.ensures;
      place = ap (λ (left : List Row). place + length left) same;
      may = subst (MayFrom (g.P.RowPrinter.may_print c.args.printer.now) code place) (sym same) c.requires.may;
      given = subst (λ (left : List Row). Given g.K.Sink.written g.K.Sink.faults c.args.out.now c.args.out.now (text_from text code place rows)
          (text_from text code place left)) (sym same)
          (none_given g.K.Sink.written g.K.Sink.faults c.args.out.now (text_from text code place rows));
      counted = subst (λ (left : List Row). IsCounting 0 (count_from count code place left) (count_from count code place rows)) (sym same)
          (counting_first (count_from count code place rows));
    }

pub print_block-requires-clause-may : goal.print_block-requires-clause-may
print_block-requires-clause-may g c =
    let part = c.in_ok-part.part.rows.now in
    let answers : c.as_slice.result.now ≡ answers_of c.args.code.now part =
    c.as_slice.ensures.value ∙ c.in_ok-part.ensures.answers ∙ ap (λ code. answers_of code part) c.loop-alloc.invariant.code in
    subst (MayPrintEach (g.P.RowPrinter.may_print c.args.printer.now) c.loop-alloc.at part) (sym answers)
    (may_next (g.P.RowPrinter.may_print c.args.printer.now) c.args.code.now c.loop-alloc.at c.loop-alloc.blocks.rows part c.next.new.self.rows
    (c.loop-alloc.at + length part)
    c.in_ok-part.ensures.rows (inl refl) c.loop-alloc.invariant.may).0

pub returns-in_err-some-clause-text : goal.returns-in_err-some-clause-text
returns-in_err-some-clause-text g c =
    let p = err_from_is_err_and c.from_residual-in_err-some.result c.from_residual-in_err-some.ensures.1 in
    let text = g.P.RowPrinter.text c.args.printer.now in
    let part = c.in_ok-part.part.rows.now in
    let answers : c.as_slice.result.now ≡ answers_of c.args.code.now part =
    c.as_slice.ensures.value ∙ c.in_ok-part.ensures.answers ∙ ap (λ code. answers_of code part) c.loop-alloc.invariant.code in
    part_stopped _ _ _ _ _ _ _ _ _ _ _ _ p.1 p.2
    (text_next text c.args.code.now c.loop-alloc.at c.loop-alloc.blocks.rows part c.next.new.self.rows (c.loop-alloc.at + length part) c.in_ok-part.ensures.rows
    (inl refl))
    c.loop-alloc.invariant.given
    (subst (λ (given : List Answer). AppendsPrefix (g.K.Sink.written c.loop-alloc.out) (g.K.Sink.written c.print_block.new.out)
    (printed_text text c.loop-alloc.at part given)) answers
    c.in_err-some.ensures.text.prefix)
    c.in_err-some.ensures.text.failed

pub loop-alloc-preserved : goal.loop-alloc-preserved
loop-alloc-preserved g c =
    let text = g.P.RowPrinter.text c.args.printer.now in
    let count = g.P.RowPrinter.count c.args.printer.now in
    let code = c.args.code.now in
    let at = c.loop-alloc.at in
    let left = c.loop-alloc.blocks.rows in
    let part = c.in_ok-part.part.rows.now in
    let rest = c.next.new.self.rows in
    let answers : c.as_slice.result.now ≡ answers_of c.args.code.now part =
    c.as_slice.ensures.value ∙ c.in_ok-part.ensures.answers ∙ ap (λ code. answers_of code part) c.loop-alloc.invariant.code in
    record {
      code = c.in_ok-part.ensures.code ∙ c.loop-alloc.invariant.code;
      place = omega (arith, c.loop-alloc.invariant.place, ap length c.in_ok-part.ensures.rows, length-append part rest);
      may = (may_next (g.P.RowPrinter.may_print c.args.printer.now) code at left part rest (at + length part) c.in_ok-part.ensures.rows (inl refl)
          c.loop-alloc.invariant.may).1;
      given = piece_given _ _ _ _ _ _ _ _ _
          (text_next text code at left part rest (at + length part) c.in_ok-part.ensures.rows (inl refl))
          c.loop-alloc.invariant.given
          (c.in_ok-some.ensures.text.all ∙ ap (λ (given : List Answer). append_known (g.K.Sink.written c.loop-alloc.out) (printed_text text at part given))
          answers)
          c.in_ok-some.ensures.text.faultless;
      counted = counting_more c.loop-alloc.count c.in_ok-some.some c.saturating_add-count.result _ _ _ _
          (count_next count code at left part rest (at + length part) c.in_ok-part.ensures.rows (inl refl))
          c.loop-alloc.invariant.counted
          (c.in_ok-some.ensures.count ∙ ap (λ (given : List Answer). counted_to_end (printed_count count at part given)) answers)
          c.saturating_add-count.ensures;
    }
