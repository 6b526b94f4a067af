use Rattle.why_report.proofs.NameLemmas.{owner-within}
use Rattle.why_report.proofs.cell_names.CellNames.owner.Goals as goal

pub returns-clause-within : goal.returns-clause-within
returns-clause-within c =
    let there = rw (← c.self.view_is) at c.requires in
    rw (← c.self.view_is) (owner-within c.self.inside.declared.value c.self.inside.owners.items c.args.cell c.index.result.now c.self.invariant.owned there
    c.index.ensures)
