use Rattle.std.proofs.Common.{sym, ◌∙◌, ap}
use Rattle.std.specs.Option.{option_copied}
use Rattle.m_resolve.proofs.TargetLemmas.{named_fits, named_sized, target_known}
use Rattle.m_resolve.proofs.targets.target_named.Goals as goal

pub target_in-requires-clause-fits : goal.target_in-requires-clause-fits
target_in-requires-clause-fits c = named_fits c.args.symbols.now c.args.name _ c.in-Some.variable.now c.requires.placed (sym c.variable_named.ensures
    ∙ ap option_copied c.in-Some.is) c.cells.ensures

pub target_in-requires-clause-size : goal.target_in-requires-clause-size
target_in-requires-clause-size c = named_sized c.args.symbols.now c.args.name c.in-Some.variable.now c.requires.placed (sym c.variable_named.ensures
    ∙ ap option_copied c.in-Some.is)

pub returns-clause-known : goal.returns-clause-known
returns-clause-known c = target_known c.args.symbols.now c.args.name _ _ c.in-Some.variable.now _ c.requires.placed (sym c.variable_named.ensures
    ∙ ap option_copied c.in-Some.is) c.target_in.ensures
