use Rattle.definedness.proofs.Exact.{ends_are_results}
use Rattle.definedness.proofs.Holding.{results_hold}
use Rattle.definedness.proofs.laws.results_lie_between_results.Goals as goal

pub returns-clause-all : goal.returns-clause-all
returns-clause-all c = results_hold

pub returns-clause-least : goal.returns-clause-least
returns-clause-least c = λ op r s h i e. (ends_are_results op r s h i e).least

pub returns-clause-greatest : goal.returns-clause-greatest
returns-clause-greatest c = λ op r s h i e. (ends_are_results op r s h i e).greatest
