use Rattle.m_ports.proofs.BufferLemmas.{through_result}
use Rattle.survey_commands.proofs.found.buffer_found.Goals as goal

pub returns-clause-gives : goal.returns-clause-gives
returns-clause-gives g c =
    let gave = c.print_facts-printed.ensures in
    through_result _ _ c.args.out.now c.new-buffered.result.out.now c.print_facts-printed.new.out.out.now _ _ _ _ _ c.print_facts-printed.result
    c.finish.result.result
    c.new-buffered.ensures.out c.new-buffered.ensures.written c.requires.start c.print_facts-printed.new.out.grew gave.all gave.faultless gave.failed
    gave.prefix gave.counted
    c.finish.ensures.gives c.finish.ensures.failed
