use Rattle.definedness.proofs.Beyond.{range_limited_twice}
use Rattle.definedness.proofs.results.results_of.Goals as goal

pub returns-in-Mul : goal.returns-in-Mul
returns-in-Mul c = rw (c.in-Mul.is, c.corners.ensures) (range_limited_twice _)
