use Rattle.m_symbols.proofs.Indexed.{owner_at}
use Rattle.m_symbols.proofs.symbols.Symbols.owner.Goals as goal

pub returns-clause-within : goal.returns-clause-within
returns-clause-within c =
    let there = rw (← c.self.view_is) at c.requires in
    rw (← c.self.view_is) (owner_at c.self.inside.tables c.self.invariant c.args.cell c.index.result.now there c.index.ensures)
