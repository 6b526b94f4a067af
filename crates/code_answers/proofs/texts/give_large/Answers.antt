use Rattle.std.proofs.Common.{◌++◌, ap}
use Rattle.tax_print.specs.Lines.{answer_lines}
use Rattle.code_answers.specs.Larges.{large_line}
use Rattle.m_ports.specs.Texts.{TextIn}
use Rattle.code_answers.proofs.HeldLemmas.{held_whole, gives_whole}
use Rattle.code_answers.proofs.texts.give_large.Goals as goal

pub returns-in-Ok : goal.returns-in-Ok
returns-in-Ok g c =
    let gave = c.give_all.ensures in
    gives_whole _ _ _ _ _ _ (large_line c.args.n ++ answer_lines c.args.face.now c.args.answer.now)
    (held_whole _ _ (large_line c.args.n ++ answer_lines c.args.face.now c.args.answer.now) _ (ap (λ (t : TextIn). t.bytes) c.clear.ensures) c.in-Ok.ensures.all
    c.text.ensures)
    (record { all = gave.all; failed = gave.failed; prefix = gave.prefix; faultless = gave.faultless; counted = gave.counted })
