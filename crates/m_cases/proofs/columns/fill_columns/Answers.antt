use Rattle.std.proofs.Common.{arith, length, sym}
use Rattle.observables.specs.Outputs.{names_of}
use Rattle.m_cases.proofs.Named.{counted}
use Rattle.m_cases.proofs.SeenLemmas.{below_more}
use Rattle.m_cases.proofs.CaseLemmas.{field_below}
use Rattle.m_cases.proofs.columns.fill_columns.Goals as goal

pub see-requires : goal.see-requires
see-requires c =
    let outputs = c.args.outputs.now.outputs.now in
    let known = c.loop-place.invariant.inputs in
    let room = c.loop-place.invariant.outputs in
    let all = counted outputs in
    below_more (length c.args.codes.now) (length (names_of outputs)) _ _ c.in_ok-column.column
    (field_below c.args.codes.now (names_of outputs) c.field_at.result.now c.in_ok-column.column (sym c.in_ok-column.ensures))
    (omega (arith, known)) (omega (arith, room, all))
