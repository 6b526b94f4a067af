use Rattle.code_file.specs.Reading.{IsFittingLabel}
use Rattle.code_file.proofs.FitLemmas.{all-next, all-done}
use Rattle.code_file.proofs.fits.labels_fit.Goals as goal

pub loop-k-preserved : goal.loop-k-preserved
loop-k-preserved c = all-next IsFittingLabel c.args.labels.now c.loop-k.k _ _ c.loop-k-test.true c.index-labels-k.is c.label_fits.ensures c.loop-k.invariant

pub returns : goal.returns
returns c = all-done IsFittingLabel c.args.labels.now c.loop-k.k c.loop-k-test.false c.loop-k.invariant
