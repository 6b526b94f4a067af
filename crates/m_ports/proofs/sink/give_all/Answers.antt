use Rattle.std.proofs.Common.{◌≤◌, ◌∙◌, length, drop, arith, length-drop}
use Rattle.std.proofs.lemmas.Result.{err_from_is_err_and}
use Rattle.m_ports.proofs.SinkLemmas.{append_known-take, AppendsPrefix-take, rest_from}
use Rattle.m_ports.proofs.sink.give_all.Goals as goal

pub returns-in_err-given-clause-prefix : goal.returns-in_err-given-clause-prefix
returns-in_err-given-clause-prefix g c =
    let p = err_from_is_err_and c.from_residual.result c.from_residual.ensures.1 in
    rw p.1 (AppendsPrefix-take _ _ _ c.loop-given.given (rw c.in_err-given.ensures.kept c.loop-given.invariant.1))

pub loop-given-preserved : goal.loop-given-preserved
loop-given-preserved g c =
    let more : c.in_ok-given.field-0 ≤ length (drop c.loop-given.given c.args.bytes.now) =
    rw (rest_from c.args.bytes.now c.loop-given.given) at c.in_ok-given.ensures.within in (
      omega (arith, length-drop c.loop-given.given c.args.bytes.now),
      append_known-take _ _ _ c.args.bytes.now c.loop-given.given c.in_ok-given.field-0 c.loop-given.invariant.1
          (rw (rest_from c.args.bytes.now c.loop-given.given) at c.in_ok-given.ensures.appended),
      c.in_ok-given.ensures.faultless ∙ c.loop-given.invariant.2,
    )
