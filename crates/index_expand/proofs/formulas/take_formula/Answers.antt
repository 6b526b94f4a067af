use Rattle.index_expand.proofs.ManyLemmas.{later}
use Rattle.index_expand.proofs.formulas.take_formula.Goals as goal

pub returns-in-Some-clause-outcome : goal.returns-in-Some-clause-outcome
returns-in-Some-clause-outcome c = λ n. later _ c.args.total c.args.rule c.in-Some.fault (c.in-Some.ensures c.args.symbols.now c.requires.tables)
