use Rattle.m_resolve.proofs.Valid.{resolved_valid}
use Rattle.m_resolve.proofs.resolving.resolve.Goals as goal

pub returns-clause-valid : goal.returns-clause-valid
returns-clause-valid c =
    rw (c.cells.ensures, c.in_ok-constants.ensures, c.from_vec.ensures, c.from_vec-2.ensures, c.from_vec-3.ensures)
    (resolved_valid c.args.symbols.now c.args.plain.now _ _ c.requires.placed (rw c.as_slice.ensures at c.in_ok-definitions.ensures)
    (rw c.as_slice-2.ensures at c.in_ok-checks.ensures))
