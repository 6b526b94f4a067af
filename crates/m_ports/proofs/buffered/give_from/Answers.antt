use Rattle.std.proofs.Common.{◌≤◌, drop, length, length-drop, arith, refl}
use Rattle.std.proofs.lemmas.Result.{err_from_is_err_and}
use Rattle.m_ports.proofs.SinkLemmas.{rest_from}
use Rattle.m_ports.proofs.GivingLemmas.{none_given}
use Rattle.m_ports.proofs.BufferLemmas.{given_more, given_whole, given_failed, given_grew, given_kept, given_all}
use Rattle.m_ports.proofs.buffered.give_from.Goals as goal

pub loop-given-init : goal.loop-given-init
loop-given-init g c = record { within = c.requires; gives = none_given _ _ _ _ }

pub loop-given-preserved : goal.loop-given-preserved
loop-given-preserved g c =
    let more : c.in_ok-given.field-0 ≤ length (drop c.loop-given.given c.args.text.now) =
    rw (rest_from c.args.text.now c.loop-given.given) at c.in_ok-given.ensures.within in
    record {
      within = omega (arith, more, length-drop c.loop-given.given c.args.text.now, c.loop-given.invariant.within);
      gives = given_more _ _ _ _ _ c.args.text.now _ c.loop-given.given c.in_ok-given.field-0 more c.loop-given.invariant.gives
          (rw (rest_from c.args.text.now c.loop-given.given) at c.in_ok-given.ensures.appended) c.in_ok-given.ensures.faultless;
    }

pub returns-in_err-given-clause-gives : goal.returns-in_err-given-clause-gives
returns-in_err-given-clause-gives g c =
    let p = err_from_is_err_and c.from_residual.result c.from_residual.ensures.1 in
    given_failed _ _ _ _ _ _ _ _ _ p.1 c.loop-given.invariant.gives c.in_err-given.ensures.failed c.in_err-given.ensures.kept c.in_err-given.ensures.counted

pub returns-in_err-given-clause-written : goal.returns-in_err-given-clause-written
returns-in_err-given-clause-written g c = given_kept _ _ _ _ _ _ _ c.loop-given.invariant.gives c.in_err-given.ensures.kept

pub returns-in_err-given-clause-grew : goal.returns-in_err-given-clause-grew
returns-in_err-given-clause-grew g c = λ before was. given_grew _ _ _ _ _ _ _ before c.loop-given.invariant.gives c.in_err-given.ensures.kept was

pub returns-clause-gives : goal.returns-clause-gives
returns-clause-gives g c = given_all _ _ _ _ _ c.args.text.now c.loop-given.given _ (omega (arith, c.loop-given-test.false)) refl c.loop-given.invariant.gives

pub returns-clause-written : goal.returns-clause-written
returns-clause-written g c = given_whole _ _ _ _ _ _ c.loop-given.invariant.gives

pub returns-clause-grew : goal.returns-clause-grew
returns-clause-grew g c = λ before was. given_grew _ _ _ _ _ _ _ before c.loop-given.invariant.gives refl was
