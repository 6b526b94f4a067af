use Rattle.std.proofs.Common.{◌||◌, nat_lt, [], length, refl, ap, ◌∙◌}
use Rattle.m_places.specs.declared.limits.TheConstants.{DRIVER_LEVEL}
use Rattle.mpp_parser.specs.Depths.{opens_too_many}
use Rattle.mpp_parser.proofs.OuterLaws.{walk_start, walk_deep, walk_turn, walk_end}
use Rattle.mpp_parser.proofs.depth.first_too_deep.Goals as goal

pub loop-line-init : goal.loop-line-init
loop-line-init c = rw (c.new-outers.ensures.items, c.new-left.ensures) (walk_start _ [] refl)

pub loop-line-preserved : goal.loop-line-preserved
loop-line-preserved c =
    let walked = rw c.in-Some.ensures at c.loop-line.invariant in
    let deep = c.is_too_deep.ensures ∙ ap (λ xs. nat_lt DRIVER_LEVEL (length xs) || opens_too_many 0 c.as_slice-in-Some.result.now) c.as_slice.ensures.value
    ∙ ap (λ ts. nat_lt DRIVER_LEVEL (length c.leave_blocks.new.outers.items) || opens_too_many 0 ts) c.as_slice-in-Some.ensures in
    rw c.in_ok-insert.ensures.items (walk_turn c.args.lines.now c.loop-line.outers.items c.leave_blocks.new.outers.items c.in-Some.line.now c.next.new.self
    c.is_too_deep.result walked c.leave_blocks.ensures deep c.if-is_too_deep.false)

pub returns-then-is_too_deep : goal.returns-then-is_too_deep
returns-then-is_too_deep c =
    let walked = rw c.in-Some.ensures at c.loop-line.invariant in
    let deep = c.is_too_deep.ensures ∙ ap (λ xs. nat_lt DRIVER_LEVEL (length xs) || opens_too_many 0 c.as_slice-in-Some.result.now) c.as_slice.ensures.value
    ∙ ap (λ ts. nat_lt DRIVER_LEVEL (length c.leave_blocks.new.outers.items) || opens_too_many 0 ts) c.as_slice-in-Some.ensures in
    walk_deep c.args.lines.now c.loop-line.outers.items c.leave_blocks.new.outers.items c.in-Some.line.now c.next.new.self c.is_too_deep.result walked
    c.leave_blocks.ensures deep c.if-is_too_deep.true

pub returns : goal.returns
returns c = walk_end c.args.lines.now c.loop-line.outers.items (rw c.in_default.ensures at c.loop-line.invariant)
