use Rattle.std.proofs.Common.{sym, ◌∙◌, ap}
use Rattle.std.specs.Option.{option_copied}
use Rattle.mpp_core.proofs.NameLemmas.{named_fits, named_sized}
use Rattle.mpp_core.proofs.names.target_of.Goals as goal

pub cell_at-requires : goal.cell_at-requires
cell_at-requires c =
    let n = sym c.variable_named.ensures ∙ ap option_copied c.in-Some.is in
    record {
      fits = named_fits c.args.symbols.now c.args.name.now.name _ c.in-Some.variable.now c.requires n c.cells.ensures;
      size = named_sized c.args.symbols.now c.args.name.now.name c.in-Some.variable.now c.requires n;
    }
