use Rattle.std.proofs.Common.{◌<◌, refl}
use Rattle.code_file.proofs.FitLemmas.{all-next, all-done}
use Rattle.code_file.proofs.fits.are_bytes.Goals as goal

pub loop-k-preserved : goal.loop-k-preserved
loop-k-preserved c = all-next (λ b. b < 256) c.args.text.now c.loop-k.k _ 0 c.loop-k-test.true refl c.is_byte.ensures c.loop-k.invariant

pub returns : goal.returns
returns c = all-done (λ b. b < 256) c.args.text.now c.loop-k.k c.loop-k-test.false c.loop-k.invariant
