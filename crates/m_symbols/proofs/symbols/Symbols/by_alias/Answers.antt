use Rattle.std.proofs.Common.{◌<◌, IfSome, subst}
use Rattle.m_symbols.proofs.Counts.{few_codes}
use Rattle.m_symbols.proofs.Indexed.{as_many}
use Rattle.m_symbols.proofs.symbols.Symbols.by_alias.Goals as goal

pub number-requires : goal.number-requires
number-requires c = few_codes c.self.inside.tables c.self.invariant

pub returns-clause-within : goal.returns-clause-within
returns-clause-within c =
    rw (← c.self.view_is) (subst (λ k. IfSome c.number.result (λ n. n < k)) (as_many c.self.inside.tables c.self.invariant) c.number.ensures.within)
