use Rattle.mpp_core.proofs.Assembled.{assembled}
use Rattle.mpp_core.proofs.resolving.resolve_names.Goals as goal

pub returns-clause-outcome : goal.returns-clause-outcome
returns-clause-outcome c =
    assembled c.args.driver.now c.args.symbols.now _ _ c.args.names.now _ _ _ _ c.as_slice-functions.ensures c.in_ok-scope.ensures c.requires.names
    c.in_ok-main.ensures c.in_ok-bodies.ensures c.in_ok-names.ensures c.cells.ensures
