use Rattle.std.proofs.Common.{◌≡◌, ◌+◌, ◌*◌, drop, sym, subst, arith}
use Rattle.std.proofs.lemmas.Result.{err_from_is_err_and}
use native.Mathlib.Nat.{zero-mul}
use Rattle.m_ports.proofs.GivingLemmas.{Given, none_given, piece_given}
use Rattle.workers.specs.Parts.{AreOfParts}
use Rattle.m_batch.specs.inner.Texts.{MayBeTextOf}
use Rattle.m_batch.proofs.CountLemmas.{IsCounting, counting_first, counting_more}
use Rattle.m_batch.proofs.PrintLemmas.{MayFrom, count_from, count_next, made_next, may_next, part_next, text_from, text_next}
use Rattle.m_batch.proofs.WritingLemmas.{part_stopped}
use Rattle.m_batch.proofs.print.give_parts.Goals as goal

pub loop-n-init : goal.loop-n-init
loop-n-init g c =
    let text = g.P.RowPrinter.text c.args.printer.now in
    let count = g.P.RowPrinter.count c.args.printer.now in
    let may = g.P.RowPrinter.may_print c.args.printer.now in
    let code = c.args.code.now in
    let from = c.args.from in
    let rows = c.args.rows.now in
    let size = c.args.size in
    let zero : 0 ≡ 0 * size = sym (zero-mul size) in
    let here : from ≡ from + 0 = omega arith in
    record {
      texts = subst (λ k. AreOfParts (λ at part made. MayBeTextOf text count code (from + at) part made) size k (drop k rows) c.args.texts.now) zero
          c.requires.texts;
      may = subst (λ k. MayFrom may code (from + k) (drop k rows)) zero (subst (λ k. MayFrom may code k rows) here c.requires.may);
      given = subst (λ k. Given g.K.Sink.written g.K.Sink.faults c.args.out.now c.args.out.now (text_from text code from rows)
          (text_from text code (from + k) (drop k rows))) zero
          (subst (λ k. Given g.K.Sink.written g.K.Sink.faults c.args.out.now c.args.out.now (text_from text code from rows) (text_from text code k rows)) here
          (none_given g.K.Sink.written g.K.Sink.faults c.args.out.now (text_from text code from rows)));
      counted = subst (λ k. IsCounting 0 (count_from count code (from + k) (drop k rows)) (count_from count code from rows)) zero
          (subst (λ k. IsCounting 0 (count_from count code k rows) (count_from count code from rows)) here (counting_first (count_from count code from rows)));
    }

pub give_part-requires-clause-may : goal.give_part-requires-clause-may
give_part-requires-clause-may g c =
    let n = c.loop-n.n in
    let size = c.args.size in
    let rows = c.args.rows.now in
    let next = part_next rows c.part_at-part.result.now size n c.args.from c.part_at-part.ensures.value in
    (may_next (g.P.RowPrinter.may_print c.args.printer.now) c.args.code.now (c.args.from + n * size) (drop (n * size) rows) c.part_at-part.result.now
    (drop ((n + 1) * size) rows)
    (c.args.from + (n + 1) * size) next.0 next.1 c.loop-n.invariant.may).0

pub returns-in_err-some-clause-text : goal.returns-in_err-some-clause-text
returns-in_err-some-clause-text g c =
    let p = err_from_is_err_and c.from_residual.result c.from_residual.ensures.1 in
    let n = c.loop-n.n in
    let size = c.args.size in
    let rows = c.args.rows.now in
    let next = part_next rows c.part_at-part.result.now size n c.args.from c.part_at-part.ensures.value in
    part_stopped _ _ _ _ _ _ _ _ _ _ _ _ p.1 p.2
    (text_next (g.P.RowPrinter.text c.args.printer.now) c.args.code.now (c.args.from + n * size) (drop (n * size) rows) c.part_at-part.result.now
    (drop ((n + 1) * size) rows)
    (c.args.from + (n + 1) * size) next.0 next.1)
    c.loop-n.invariant.given c.in_err-some.ensures.text.prefix c.in_err-some.ensures.text.counted

pub loop-n-preserved : goal.loop-n-preserved
loop-n-preserved g c =
    let text = g.P.RowPrinter.text c.args.printer.now in
    let count = g.P.RowPrinter.count c.args.printer.now in
    let code = c.args.code.now in
    let from = c.args.from in
    let n = c.loop-n.n in
    let size = c.args.size in
    let rows = c.args.rows.now in
    let part = c.part_at-part.result.now in
    let next = part_next rows part size n from c.part_at-part.ensures.value in
    record {
      texts = (made_next (λ at part made. MayBeTextOf text count code (from + at) part made) size n rows c.args.texts.now c.index-texts-n.result
          c.index-texts-n.result
          c.loop-n-test.true c.index-texts-n.is c.loop-n.invariant.texts).1;
      may = (may_next (g.P.RowPrinter.may_print c.args.printer.now) code (from + n * size) (drop (n * size) rows) part (drop ((n + 1) * size) rows)
          (from + (n + 1) * size) next.0 next.1
          c.loop-n.invariant.may).1;
      given = piece_given _ _ _ _ _ _ _ _ _
          (text_next text code (from + n * size) (drop (n * size) rows) part (drop ((n + 1) * size) rows) (from + (n + 1) * size) next.0 next.1)
          c.loop-n.invariant.given c.in_ok-some.ensures.text.all c.in_ok-some.ensures.text.counted;
      counted = counting_more c.loop-n.count c.in_ok-some.some c.saturating_add-count.result _ _ _ _
          (count_next count code (from + n * size) (drop (n * size) rows) part (drop ((n + 1) * size) rows) (from + (n + 1) * size) next.0 next.1)
          c.loop-n.invariant.counted c.in_ok-some.ensures.count c.saturating_add-count.ensures;
    }
