use Rattle.m_ports.proofs.BufferLemmas.{through_result}
use Rattle.rule_answers.proofs.findings.buffer_findings.Goals as goal

pub returns-clause-gives : goal.returns-clause-gives
returns-clause-gives g c =
    let gave = c.print_findings-printed.ensures in
    through_result _ _ c.args.out.now c.new-buffered.result.out.now c.print_findings-printed.new.out.out.now _ _ _ _ _ c.print_findings-printed.result
    c.finish.result.result
    c.new-buffered.ensures.out c.new-buffered.ensures.written c.requires.start c.print_findings-printed.new.out.grew gave.all gave.faultless gave.failed
    gave.prefix gave.counted
    c.finish.ensures.gives c.finish.ensures.failed
