use Rattle.std.proofs.Common.{ap}
use Rattle.std.specs.Prelude.{count_by}
use Rattle.flat_code.specs.Runs.{node_values}
use Rattle.flat_code.proofs.TouchedLemmas.{touched_same}
use Rattle.flat_code.proofs.touched.there_and_back.Goals as goal

pub returns : goal.returns
returns c nodes put inputs = ap (λ test. count_by test nodes) (λ i. λ node. touched_same put (node_values inputs nodes) node i)
