use Rattle.std.proofs.lemmas.List.Sums.{count_by-le-length}
use Rattle.flat_code.specs.Runs.{node_values}
use Rattle.flat_code.specs.Touched.{is_touched}
use Rattle.flat_code.proofs.touched.at_most_all.Goals as goal

pub returns : goal.returns
returns c nodes put before now = count_by-le-length (is_touched put (node_values before nodes) (node_values now nodes)) nodes
