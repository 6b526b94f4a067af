use Rattle.m_ports.proofs.BufferLemmas.{through_result}
use Rattle.household_session.proofs.buffer.buffer_reply.Goals as goal

pub returns-clause-replies : goal.returns-clause-replies
returns-clause-replies g c =
    let reported = c.reply-printed.ensures in
    let gave = reported.gives in
    record {
      reply = reported.reply;
      gives = through_result _ _ c.args.out.now c.new-buffered.result.out.now c.reply-printed.new.out.out.now _ _ _ _ _ c.reply-printed.result
          c.finish.result.result
          c.new-buffered.ensures.out c.new-buffered.ensures.written c.requires.start c.reply-printed.new.out.grew gave.all gave.faultless gave.failed
          gave.prefix gave.counted
          c.finish.ensures.gives c.finish.ensures.failed;
      counted = reported.counted;
      goes_on = reported.goes_on;
    }
