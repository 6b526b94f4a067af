use Rattle.std.proofs.Common.{arith, subst, sym}
use Rattle.household.specs.inner.Cuts.{AreCuts, left_at}
use Rattle.household.proofs.PartLemmas.{by_rows, cuts_in_part, parsed_rows}
use Rattle.household.proofs.parts.read_parts.Goals as goal

pub join_parts-requires-clause-accepts : goal.join_parts-requires-clause-accepts
join_parts-requires-clause-accepts g c κs held = λ at lent part.
    let bytes = c.args.bytes.now in
    let records = left_at bytes c.first_cut-first.result in
    let cuts = subst (AreCuts bytes records) (sym c.as_slice.ensures.value) c.in_ok-cuts.ensures in
    (part.some, cuts_in_part bytes records c.as_slice.result.now c.part_size-many.result at lent.now cuts.each part)

pub returns : goal.returns
returns g c =
    let bytes = c.args.bytes.now in
    let records = left_at bytes c.first_cut-first.result in
    let cuts = subst (AreCuts bytes records) (sym c.as_slice.ensures.value) c.in_ok-cuts.ensures in
    let many = c.part_size-many.result in
    let all = c.in_ok-join_parts.ensures in
    let stated = parsed_rows c.args.codes.now c.args.columns.now records many c.as_slice.result.now all.parts (λ n d h. (all.made.each n d h).2) all.made.inside
    all.made.reach
    (let far = cuts.far in omega (arith, far)) in
    rw (← c.first_cut-first.ensures.left) (by_rows _ c.in_ok-join_parts.field-0 (rw (sym all.all_is) at stated))
