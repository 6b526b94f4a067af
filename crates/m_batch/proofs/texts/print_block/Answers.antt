use Rattle.std.proofs.Common.{◌<◌, length, arith}
use Rattle.std.proofs.lemmas.Result.{err_from_is_err_and}
use Rattle.m_ports.proofs.GivingLemmas.{piece_given, piece_failed}
use Rattle.m_batch.proofs.CountLemmas.{counting_one}
use Rattle.m_batch.proofs.PrintLemmas.{count_at, may_at, text_at}
use Rattle.m_batch.proofs.texts.print_block.Goals as goal

pub returns-in_err-some-clause-text : goal.returns-in_err-some-clause-text
returns-in_err-some-clause-text g c =
    let p = err_from_is_err_and c.from_residual.result c.from_residual.ensures.1 in
    let gave = c.in_err-some.ensures.text in
    let answered : c.loop-k.k < length c.args.answers.now = omega (arith, c.loop-k-test.true, c.requires.many) in
    piece_failed _ _ _ _ _ _ _ _ _ _ _ p.1
    (text_at (g.P.RowPrinter.text c.args.printer.now) c.args.place c.args.rows.now c.args.answers.now c.loop-k.k c.index-rows-k.result c.index-rows-k.result
    c.index-answers-k.result c.index-answers-k.result c.loop-k-test.true answered c.index-rows-k.is c.index-answers-k.is)
    c.loop-k.invariant.given gave.failed gave.prefix gave.counted

pub loop-k-preserved : goal.loop-k-preserved
loop-k-preserved g c =
    let gave = c.in_ok-some.ensures.text in
    let row = c.index-rows-k.result in
    let answer = c.index-answers-k.result in
    let answered : c.loop-k.k < length c.args.answers.now = omega (arith, c.loop-k-test.true, c.requires.many) in
    record {
      may = (may_at (g.P.RowPrinter.may_print c.args.printer.now) c.args.place c.args.rows.now c.args.answers.now c.loop-k.k row row answer answer
          c.loop-k-test.true answered
          c.index-rows-k.is c.index-answers-k.is c.loop-k.invariant.may).1;
      given = piece_given _ _ _ _ _ _ _ _ _
          (text_at (g.P.RowPrinter.text c.args.printer.now) c.args.place c.args.rows.now c.args.answers.now c.loop-k.k row row answer answer c.loop-k-test.true
          answered
          c.index-rows-k.is c.index-answers-k.is)
          c.loop-k.invariant.given gave.all gave.faultless;
      counted = counting_one c.loop-k.count c.in_ok-some.some c.saturating_add-count.result _ _ _ _
          (count_at (g.P.RowPrinter.count c.args.printer.now) c.args.place c.args.rows.now c.args.answers.now c.loop-k.k row row answer answer
          c.loop-k-test.true answered
          c.index-rows-k.is c.index-answers-k.is)
          c.loop-k.invariant.counted c.in_ok-some.ensures.count c.saturating_add-count.ensures;
    }
