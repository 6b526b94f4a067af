use Rattle.code_file.proofs.FitLemmas.{right-instrs}
use Rattle.code_file.proofs.fits.code_fits.Goals as goal

pub returns-clause-right : goal.returns-clause-right
returns-clause-right c = c.parts-kept.ensures.right

pub returns-clause-instrs : goal.returns-clause-instrs
returns-clause-instrs c = right-instrs c.args.code.now c.parts-kept.ensures.right c.instrs_are_read.ensures
