use Rattle.std.proofs.Common.{◌/◌, arith}
use Rattle.std.proofs.lemmas.Nat.{mod_below}
use Rattle.m_fixed.proofs.Writing.{writes_none, writes_before, decimals_none, decimals_from, places_left, parts_step, part_some}
use Rattle.m_fixed.proofs.write.+write_decimals.Goals as goal

pub returns-then-fraction-eq0 : goal.returns-then-fraction-eq0
returns-then-fraction-eq0 t c = rw (decimals_none c.args.places c.args.fraction c.if-fraction-eq0.true) (writes_none _ _)

pub nonzero_div-room : goal.nonzero_div-room
nonzero_div-room t c = part_some c.args.places c.args.parts c.args.fraction c.requires.parts_in c.if-fraction-eq0.false c.requires.fraction_in

pub nonzero_rem-fraction : goal.nonzero_rem-fraction
nonzero_rem-fraction t c = part_some c.args.places c.args.parts c.args.fraction c.requires.parts_in c.if-fraction-eq0.false c.requires.fraction_in

pub write_decimals-requires : goal.write_decimals-requires
write_decimals-requires t c =
    let left = places_left c.args.places c.args.fraction c.if-fraction-eq0.false c.requires.fraction_in in
    let part = parts_step c.args.places c.args.parts c.requires.parts_in left in
    let some = part_some c.args.places c.args.parts c.args.fraction c.requires.parts_in c.if-fraction-eq0.false c.requires.fraction_in in
    (omega (arith, c.decreases, left), (part, (omega (arith, mod_below c.args.fraction (c.args.parts / 10) some, part), (omega arith, omega arith))))

pub returns : goal.returns
returns t c =
    let left = places_left c.args.places c.args.fraction c.if-fraction-eq0.false c.requires.fraction_in in
    rw (
      decimals_from c.args.places c.args.fraction c.if-fraction-eq0.false c.requires.fraction_in,
      ← parts_step c.args.places c.args.parts c.requires.parts_in
          left,
    )
    (writes_before c.args.room.now _ c.args.at _ _ _ (omega arith) c.write_decimals.ensures)
