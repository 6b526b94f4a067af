use Rattle.m_ports.proofs.BufferLemmas.{through_result}
use Rattle.code_answers.proofs.texts.buffer_code.Goals as goal

pub returns-clause-gives : goal.returns-clause-gives
returns-clause-gives g c =
    let gave = c.write_code-printed.ensures.text in
    through_result _ _ c.args.out.now c.new-buffered.result.out.now c.write_code-printed.new.out.out.now _ _ _ _ _ c.write_code-printed.result
    c.finish.result.result
    c.new-buffered.ensures.out c.new-buffered.ensures.written c.requires.start c.write_code-printed.new.out.grew gave.all gave.faultless gave.failed gave.prefix
    gave.counted
    c.finish.ensures.gives c.finish.ensures.failed
