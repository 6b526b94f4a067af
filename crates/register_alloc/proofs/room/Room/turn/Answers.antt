use Rattle.std.proofs.Common.{◌≡◌, suc, length, ap, ◌∙◌, arith}
use Rattle.reg_machine.specs.Flow.{Listing, loads_of}
use Rattle.register_alloc.proofs.SoundSteps.{turn-crowded, turn-room, reads-more}
use Rattle.register_alloc.proofs.room.Room.turn.Goals as goal

pub sources-requires-clause-few : goal.sources-requires-clause-few
sources-requires-clause-few c = omega (arith, turn-room c.requires.sound c.requires.short)

pub vacate-requires-clause-few : goal.vacate-requires-clause-few
vacate-requires-clause-few c =
    omega (
      arith,
      turn-room c.requires.sound c.requires.short,
      c.in_ok-sources.ensures.len,
      ap (λ (code : Listing). length code.instrs)
          c.in_ok-passed.ensures.code,
    )

pub make-requires-clause-few : goal.make-requires-clause-few
make-requires-clause-few c =
    omega (
      arith,
      turn-room c.requires.sound c.requires.short,
      c.in_ok-sources.ensures.len,
      ap (λ (code : Listing). length code.instrs)
          c.in_ok-passed.ensures.code,
      c.in_ok-register.ensures.len,
    )

pub give-requires-clause-few : goal.give-requires-clause-few
give-requires-clause-few c =
    omega (
      arith,
      turn-room c.requires.sound c.requires.short,
      c.in_ok-sources.ensures.len,
      ap (λ (code : Listing). length code.instrs)
          c.in_ok-passed.ensures.code,
      c.in_ok-register.ensures.len,
      c.in_ok-make.ensures.len,
    )

pub vacate-requires-clause-crowded : goal.vacate-requires-clause-crowded
vacate-requires-clause-crowded c =
    let made : c.in_ok-passed.passed.made ≡ c.args.at.made = ap (λ m. m.made) c.in_ok-passed.ensures.next in
    let read : c.in_ok-passed.passed.read ≡ suc c.args.at.read = ap (λ m. m.read) c.in_ok-passed.ensures.next in
    turn-crowded c.in_ok-passed.ensures.sound (omega arith) (omega arith)

pub returns-clause-loads : goal.returns-clause-loads
returns-clause-loads c = λ y.
    let more = reads-more c.args.flat.now c.args.at.made c.node_at.result c.requires.next c.node_at.ensures y in
    let a = c.in_ok-sources.ensures.loads y in
    let p = ap (loads_of y) c.in_ok-passed.ensures.code in
    let b = c.in_ok-register.ensures.loads y in
    let d = c.in_ok-make.ensures.loads y in
    let e = c.in_ok-give.ensures.loads y in
    omega arith
