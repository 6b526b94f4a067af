use Rattle.std.proofs.Common.{arith, ap, sym, ◌∙◌}
use Rattle.reg_machine.specs.Flow.{loads_of}
use Rattle.register_alloc.proofs.SoundTests.{right-test, loads-test}
use Rattle.register_alloc.proofs.SoundSteps.{sound-tested}
use Rattle.register_alloc.proofs.room.Room.test.Goals as goal

pub add-requires-clause-right : goal.add-requires-clause-right
add-requires-clause-right c =
    right-test c.in_ok-condition.ensures.sound c.args.check c.in_ok-guard.guard c.in_ok-condition.condition c.requires.next c.requires.check
    c.in_ok-guard.ensures.within c.in_ok-condition.ensures.within (c.in_ok-condition.ensures.one ∙ c.in_ok-guard.ensures.here) c.in_ok-condition.ensures.here

pub returns-clause-sound : goal.returns-clause-sound
returns-clause-sound c =
    rw c.in_ok-add.ensures.added
    (sound-tested c.in_ok-condition.ensures.sound c.args.check c.in_ok-guard.guard c.in_ok-condition.condition _ _ _ (omega arith)
    (sym c.in_ok-clear_tested.ensures.len) c.requires.next c.requires.check c.in_ok-guard.ensures.within c.in_ok-condition.ensures.within
    (c.in_ok-condition.ensures.one ∙ c.in_ok-guard.ensures.here) c.in_ok-condition.ensures.here c.in_ok-clear_tested.ensures.cleared)

pub returns-clause-loads : goal.returns-clause-loads
returns-clause-loads c = λ y.
    let a = c.in_ok-guard.ensures.loads y in
    let b = c.in_ok-condition.ensures.loads y in
    let d = ap (loads_of y) c.in_ok-add.ensures.added ∙ loads-test c.in_ok-condition.ensures.sound c.args.check c.in_ok-guard.guard c.in_ok-condition.condition
    c.requires.next c.requires.check c.in_ok-guard.ensures.within c.in_ok-condition.ensures.within (c.in_ok-condition.ensures.one
    ∙ c.in_ok-guard.ensures.here) c.in_ok-condition.ensures.here y in
    omega arith
