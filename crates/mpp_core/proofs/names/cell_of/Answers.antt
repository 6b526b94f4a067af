use Rattle.std.proofs.Common.{sym, ◌∙◌, ap}
use Rattle.std.specs.Option.{option_copied}
use Rattle.mpp_core.proofs.NameLemmas.{named_fits, named_sized}
use Rattle.mpp_core.proofs.names.cell_of.Goals as goal

pub cell_at-requires-clause-fits : goal.cell_at-requires-clause-fits
cell_at-requires-clause-fits c = named_fits c.args.symbols.now c.args.name.now.name _ c.in-Some.variable.now c.requires (sym c.variable_named.ensures
    ∙ ap option_copied c.in-Some.is) c.cells.ensures

pub cell_at-requires-clause-size : goal.cell_at-requires-clause-size
cell_at-requires-clause-size c = named_sized c.args.symbols.now c.args.name.now.name c.in-Some.variable.now c.requires (sym c.variable_named.ensures
    ∙ ap option_copied c.in-Some.is)
