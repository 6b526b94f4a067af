use Rattle.std.proofs.Common.{arith}
use Rattle.code_file.specs.inner.Read.{IsReadInstr}
use Rattle.code_file.proofs.FitLemmas.{all-next, all-done}
use Rattle.code_file.proofs.fits.instrs_are_read.Goals as goal

pub loop-place-preserved : goal.loop-place-preserved
loop-place-preserved c =
    all-next IsReadInstr c.args.code.now.instrs c.loop-place.place _ _ (omega (arith, c.loop-place-test.true, c.len-place-end.ensures)) c.instr.ensures
    c.is_read.ensures c.loop-place.invariant

pub returns : goal.returns
returns c = all-done IsReadInstr c.args.code.now.instrs c.loop-place.place (omega (arith, c.loop-place-test.false, c.len-place-end.ensures))
    c.loop-place.invariant
