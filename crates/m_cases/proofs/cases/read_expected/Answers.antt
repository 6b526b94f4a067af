use Rattle.std.proofs.Common.{◌∙◌, refl, sym}
use Rattle.csv.specs.Records.{fields_of}
use Rattle.m_cases.proofs.Observation.{reported}
use Rattle.m_cases.proofs.Cells.{expected_next, expected_stop, expected_end}
use Rattle.m_cases.proofs.cases.read_expected.Goals as goal

pub returns-in_err-add_expected : goal.returns-in_err-add_expected
returns-in_err-add_expected c =
    reported _ _ _ _ _ c.from_residual.ensures.1
    (λ n. expected_stop c.args.line c.loop-place.expected.items c.args.columns.now (fields_of c.args.row.now) c.loop-place.place _ _ c.field_at.result.now _ _
    c.requires
    c.loop-place-test.true refl c.field_at.ensures (c.in_err-add_expected.ensures n) c.loop-place.invariant)

pub loop-place-preserved : goal.loop-place-preserved
loop-place-preserved c =
    expected_next c.args.line c.loop-place.expected.items _ c.args.columns.now (fields_of c.args.row.now) c.loop-place.place _ _ c.field_at.result.now
    c.requires
    c.loop-place-test.true refl c.field_at.ensures c.in_ok-add_expected.ensures
    ∙ c.loop-place.invariant

pub returns : goal.returns
returns c =
    rw c.from_vec.ensures (sym c.loop-place.invariant ∙ expected_end c.args.line c.loop-place.expected.items c.args.columns.now _ c.loop-place.place
    c.loop-place-test.false)
