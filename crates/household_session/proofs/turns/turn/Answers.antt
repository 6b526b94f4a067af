use Rattle.std.proofs.Common.{◌≡◌, ◌+◌, ◌++◌, ◌<◌, ◌≤◌, List, ℕ, length, length-take, length-drop, take, drop, min, inl, sym, ◌∙◌, ap, subst, arith}
use Rattle.std.proofs.Math.Seq.{take-add}
use Rattle.household_session.specs.Replies.{IsUnended}
use Rattle.household_session.specs.inner.Going.{Goes}
use Rattle.household_session.proofs.ByteLemmas.{unended_take}
use Rattle.household_session.proofs.TurnLemmas.{goes_kept, stopped_at_end}
use Rattle.household_session.proofs.turns.turn.Goals as goal

pub returns-in-Ok-eq0 : goal.returns-in-Ok-eq0
returns-in-Ok-eq0 g c =
    let none = c.in-Ok-eq0.field-0-test in
    stopped_at_end g.S.Source.left g.S.Source.faults g.K.Sink.written g.K.Sink.faults c.args.input.now c.take_piece.new.input c.args.out.now c.finish.new.out
    c.args.steps.now c.finish.new.steps (g.R.Replier.replies c.args.replier.now)
    (take c.args.held c.args.room.now) c.args.most c.finish.result (rw none at c.in-Ok-eq0.ensures.moved) (c.in-Ok-eq0.ensures.end none)
    c.in-Ok-eq0.ensures.faultless
    (rw c.take_piece.ensures.kept at c.finish.ensures)

pub returns-in-Err-do_ended : goal.returns-in-Err-do_ended
returns-in-Err-do_ended g c =
    let room = c.take_piece.new.room in
    let piece = take c.in-Ok.count (drop c.args.held c.take_piece.new.room) in
    let whole : take (c.args.held + c.in-Ok.count) c.take_piece.new.room ≡ take c.args.held c.args.room.now
    ++ take c.in-Ok.count (drop c.args.held c.take_piece.new.room) =
    take-add c.args.held c.in-Ok.count c.take_piece.new.room ∙ ap (λ (front : List ℕ). front ++ take c.in-Ok.count (drop c.args.held c.take_piece.new.room))
    c.take_piece.ensures.kept in (
      c.in-Ok.ensures.faultless,
      inl (
        piece,
        omega (arith, c.in-Ok.ensures.within.1, length-take c.in-Ok.count (drop c.args.held c.take_piece.new.room)),
        c.in-Ok.ensures.moved,
        rw whole at c.in-Err-do_ended.ensures.breaks,
      ),
    )

pub returns-in-Ok-do_ended : goal.returns-in-Ok-do_ended
returns-in-Ok-do_ended g c =
    let whole : take (c.args.held + c.in-Ok.count) c.take_piece.new.room ≡ take c.args.held c.args.room.now
    ++ take c.in-Ok.count (drop c.args.held c.take_piece.new.room) =
    take-add c.args.held c.in-Ok.count c.take_piece.new.room ∙ ap (λ (front : List ℕ). front ++ take c.in-Ok.count (drop c.args.held c.take_piece.new.room))
    c.take_piece.ensures.kept in
    let within : c.args.held + c.in-Ok.count ≤ length c.take_piece.new.room = c.in-Ok.ensures.within.0 in
    let filled : length (take (c.args.held + c.in-Ok.count) c.take_piece.new.room) ≡ c.args.held + c.in-Ok.count =
    omega (arith, within, length-take (c.args.held + c.in-Ok.count) c.take_piece.new.room) in
    let size : c.keep.result ≡ min (length (drop c.in-Ok-do_ended.from (take (c.args.held + c.in-Ok.count) c.take_piece.new.room))) 4097 =
    omega (arith, filled, c.keep.ensures.count, length-drop c.in-Ok-do_ended.from (take (c.args.held + c.in-Ok.count) c.take_piece.new.room)) in
    let some : 0 < c.in-Ok.count = omega arith in
    let counted : length (take c.in-Ok.count (drop c.args.held c.take_piece.new.room)) ≡ c.in-Ok.count =
    omega (arith, within, length-take c.in-Ok.count (drop c.args.held c.take_piece.new.room), length-drop c.args.held c.take_piece.new.room) in
    let free = c.in-Ok-do_ended.ensures.place.1 in
    let left = drop c.in-Ok-do_ended.from (take (c.args.held + c.in-Ok.count) c.take_piece.new.room) in (
      omega (arith, c.keep.ensures.count),
      record {
        piece = take c.in-Ok.count (drop c.args.held c.take_piece.new.room);
        counted = counted;
        some = some;
        few = c.in-Ok.ensures.within.1;
        moved = c.in-Ok.ensures.moved;
        calm = c.in-Ok.ensures.faultless;
        goes = subst (λ (before : List ℕ). Goes g.K.Sink.written g.K.Sink.faults c.args.out.now c.do_ended.new.out c.args.steps.now c.do_ended.new.steps
            (g.R.Replier.replies c.args.replier.now)
            (g.R.Replier.replies c.do_ended.new.replier) before
            (take c.keep.result c.keep.new.room)) whole
            (goes_kept _ _ _ _ _ _ _ _ _ _ _ c.keep.result (g.met.R.Replier.long c.do_ended.new.replier) free size c.keep.ensures.front
            c.in-Ok-do_ended.ensures.goes);
        unended = subst (λ (bytes : List ℕ). IsUnended bytes) (sym c.keep.ensures.front) (unended_take c.keep.result _ free);
      },
    )
