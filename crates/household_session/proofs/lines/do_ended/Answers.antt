use Rattle.std.proofs.Common.{arith}
use Rattle.std.proofs.lemmas.Result.{err_from_is_err_and}
use Rattle.household_session.proofs.ByteLemmas.{run_cut, run_from_front, run_to_end, run_unended}
use Rattle.household_session.proofs.GoingLemmas.{breaks_line, goes_line, goes_none}
use Rattle.household_session.proofs.lines.do_ended.Goals as goal

pub loop-end-init : goal.loop-end-init
loop-end-init g c = record {
  runs = run_from_front c.args.bytes.now c.args.held c.line_end-end.result c.requires.within c.requires.unended
      c.line_end-end.ensures;
  goes = goes_none _ _ _ _ _ _;
}

pub returns-in_err-reply-clause-breaks : goal.returns-in_err-reply-clause-breaks
returns-in_err-reply-clause-breaks g c =
    let p = err_from_is_err_and c.from_residual.result c.from_residual.ensures.1 in
    let runs = c.loop-end.invariant.runs in
    let reported = c.in_err-reply.ensures in
    rw p.1 (breaks_line _ _ _ _ _ _ _ _ _ _ _ _ _ _ _ _ c.loop-end.invariant.goes
    (run_cut c.args.bytes.now c.loop-end.from c.loop-end.end runs c.loop-end-test.true) (run_unended c.args.bytes.now c.loop-end.from c.loop-end.end runs)
    reported.goes_on (record { rose = reported.gives.failed; within = (reported.gives.prefix, omega (arith, reported.counted)) }))

pub loop-end-preserved : goal.loop-end-preserved
loop-end-preserved g c =
    let runs = c.loop-end.invariant.runs in
    let reported = c.in_ok-reply.ensures in
    record {
      runs = c.line_end-end-in-loop-end.ensures;
      goes = goes_line _ _ _ _ _ _ _ _ _ _ _ _ _ _ _ _ c.loop-end.invariant.goes
          (run_cut c.args.bytes.now c.loop-end.from c.loop-end.end runs c.loop-end-test.true)
          (run_unended c.args.bytes.now c.loop-end.from c.loop-end.end runs) reported.goes_on
          (record { appended = reported.gives.all; faultless = reported.gives.faultless; counted = reported.counted });
    }

pub returns-clause-place : goal.returns-clause-place
returns-clause-place g c =
    let runs = c.loop-end.invariant.runs in
    (omega (arith, runs.onward, runs.within), run_to_end c.args.bytes.now c.loop-end.from c.loop-end.end runs c.loop-end-test.false)
