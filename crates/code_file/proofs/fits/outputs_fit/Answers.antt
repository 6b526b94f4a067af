use Rattle.code_file.specs.Reading.{IsFittingOutput}
use Rattle.code_file.proofs.FitLemmas.{all-next, all-done}
use Rattle.code_file.proofs.fits.outputs_fit.Goals as goal

pub loop-k-preserved : goal.loop-k-preserved
loop-k-preserved c = all-next IsFittingOutput c.args.outputs.now c.loop-k.k _ _ c.loop-k-test.true c.index-outputs-k.is c.output_fits.ensures c.loop-k.invariant

pub returns : goal.returns
returns c = all-done IsFittingOutput c.args.outputs.now c.loop-k.k c.loop-k-test.false c.loop-k.invariant
