use Rattle.std.proofs.Common.{arith}
use Rattle.m_symbols.proofs.Outcomes.{reported}
use Rattle.m_compile.proofs.Noted.{verifs_there}
use Rattle.m_compile.proofs.Steps.{weight_reported, program_made}
use Rattle.m_compile.proofs.compiling.faced.Goals as goal

pub returns-in_err-flat : goal.returns-in_err-flat
returns-in_err-flat c = reported _ _ _ _ _ c.from_residual.ensures.1
    (weight_reported c.args.core.now c.args.made.now.ordered.base _ c.in_err-flat.ensures.outcome)

pub returns : goal.returns
returns c =
    program_made c.args.made.now.symbols c.args.made.now.ordered.base c.args.core.now c.args.requests.now _ _ _ _ _ c.in_ok-flat.ensures.outcome.0
    c.in_ok-flat.ensures.outcome.1 c.in_ok-tidy.ensures.becomes c.in_ok-tidy.ensures.tidy
    c.in_ok-face.ensures.labels c.in_ok-face.ensures.inputs (rw c.as_slice.ensures at c.in_ok-face.ensures.outputs) c.requires.few

pub face_of-requires-clause-noted : goal.face_of-requires-clause-noted
face_of-requires-clause-noted c =
    let i = c.in_ok-flat.ensures.outcome.1 in
    rw c.as_slice.ensures (verifs_there _ c.args.made.now.ordered.base.labels _ i.first_labels i.noted)

pub tidy-requires-clause-few : goal.tidy-requires-clause-few
tidy-requires-clause-few c = let few = c.in_ok-flat.ensures.outcome.1.nodes_fit in omega arith

pub tidy-requires-clause-few_checks : goal.tidy-requires-clause-few_checks
tidy-requires-clause-few_checks c = let few = c.in_ok-flat.ensures.outcome.1.checks_fit in omega arith
