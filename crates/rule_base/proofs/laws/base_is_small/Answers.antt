use Rattle.rule_base.proofs.Small.{few-cells, few-labels}
use Rattle.rule_base.proofs.laws.base_is_small.Goals as goal

pub returns-clause-cells : goal.returns-clause-cells
returns-clause-cells c = λ texts application declared base made. few-cells made

pub returns-clause-labels : goal.returns-clause-labels
returns-clause-labels c = λ texts application declared base made. few-labels made
