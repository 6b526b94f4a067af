use Rattle.std.proofs.Common.{arith}
use Rattle.std.proofs.lemmas.Result.{err_from_is_err_and}
use Rattle.m_ports.proofs.GivingLemmas.{piece_given, piece_failed}
use Rattle.m_cases.specs.Mismatches.{answer_values, output_names}
use Rattle.m_cases.proofs.Shown.{lines_at, count_met, count_unmet}
use Rattle.m_cases.proofs.mismatches.print_mismatches.Goals as goal
use Rattle.m_cases.proofs.mismatches.print_mismatches.Goals.{then-not-branch, else-not-branch}

pub returns-in_err-print_one-clause-text : goal.returns-in_err-print_one-clause-text
returns-in_err-print_one-clause-text g c =
    let p = err_from_is_err_and c.from_residual.result c.from_residual.ensures.1 in
    let vs = answer_values c.args.answer.now in
    let gave = c.in_err-print_one.ensures.text in
    piece_failed _ _ _ _ _ _ _ _ _ _ _ p.1
    (lines_at (output_names c.args.face.now.outputs) c.args.label.now vs c.args.expected.now c.loop-one.one-index c.one-item.result c.loop-one-test.true
    c.one-item.is)
    c.loop-one.invariant.given gave.failed gave.prefix gave.counted

pub loop-one-preserved : goal.loop-one-preserved
loop-one-preserved g c =
    let vs = answer_values c.args.answer.now in
    let gave = c.in_ok-print_one.ensures.text in
    let met = c.in_ok-print_one.ensures.met in
    let so_far = c.loop-one.invariant.counted in
    let below = c.loop-one.invariant.within in
    record {
      given = piece_given _ _ _ _ _ _ _ _ _
          (lines_at (output_names c.args.face.now.outputs) c.args.label.now vs c.args.expected.now c.loop-one.one-index c.one-item.result c.loop-one-test.true
          c.one-item.is)
          c.loop-one.invariant.given gave.all gave.faultless;
      counted = elim c.if-not-branch.branch [
        | then-not-branch w ↦
            let more = w.count-is in
            let next = count_unmet vs c.args.expected.now c.loop-one.one-index c.one-item.result c.in_ok-print_one.field-0 c.loop-one-test.true c.one-item.is
            met w.if-not-branch.true in
            omega (arith, more, next, so_far)
        | else-not-branch w ↦
            let same = w.count-is in
            let next = count_met vs c.args.expected.now c.loop-one.one-index c.one-item.result c.in_ok-print_one.field-0 c.loop-one-test.true c.one-item.is met
            w.if-not-branch.false in
            omega (arith, same, next, so_far)
      ];
      within = elim c.if-not-branch.branch [
        | then-not-branch w ↦ let more = w.count-is in omega (arith, more, below)
        | else-not-branch w ↦ let same = w.count-is in omega (arith, same, below)
      ];
    }
