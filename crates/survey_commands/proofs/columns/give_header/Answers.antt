use Rattle.std.proofs.Common.{ap}
use Rattle.m_ports.specs.Texts.{TextIn}
use Rattle.observables.specs.Outputs.{names_of}
use Rattle.code_answers.proofs.HeldLemmas.{held_whole, gives_whole}
use Rattle.survey_commands.specs.Records.{header}
use Rattle.survey_commands.proofs.columns.give_header.Goals as goal

pub returns-in-Ok : goal.returns-in-Ok
returns-in-Ok g c =
    let gave = c.give_all.ensures in
    gives_whole _ _ _ _ _ _ (header (names_of c.args.outputs.now))
    (held_whole _ _ (header (names_of c.args.outputs.now)) _ (ap (λ (t : TextIn). t.bytes) c.clear.ensures) c.in-Ok.ensures.all c.text.ensures)
    (record { all = gave.all; failed = gave.failed; prefix = gave.prefix; faultless = gave.faultless; counted = gave.counted })
