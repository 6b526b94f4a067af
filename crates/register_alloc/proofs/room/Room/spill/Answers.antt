use Rattle.std.proofs.Common.{◌≡◌, true, sym, ap, ◌∙◌, arith}
use Rattle.register_alloc.specs.inner.Tables.{is_busy}
use Rattle.register_alloc.specs.inner.Sound.{live_at}
use Rattle.register_alloc.proofs.SoundSteps.{sound-stored, right-stored, loads-stored, slot-small}
use Rattle.register_alloc.proofs.room.Room.spill.Goals as goal

pub overflow_cast-slot : goal.overflow_cast-slot
overflow_cast-slot c =
    let live = live_at c.args.flat.now c.args.at in
    let lives : live c.in-Some.x ≡ true = sym (ap (is_busy live) c.in-Some.is) ∙ c.requires.busy in
    let slot = c.in_ok-slot-in-None.ensures in
    omega (arith, slot.within, slot-small _ _ c.requires.sound c.in-Some.x slot.grows lives c.in-None.ensures.absent)

pub add-requires-clause-right : goal.add-requires-clause-right
add-requires-clause-right c =
    let live = live_at c.args.flat.now c.args.at in
    let lives : live c.in-Some.x ≡ true = sym (ap (is_busy live) c.in-Some.is) ∙ c.requires.busy in
    let slot = c.in_ok-slot-in-None.ensures in
    right-stored _ _ c.requires.sound _ _ c.in-Some.x slot.within slot.grows c.requires.within c.in-Some.is lives c.in-None.ensures.absent

pub returns-in_ok-add-in-None-clause-sound : goal.returns-in_ok-add-in-None-clause-sound
returns-in_ok-add-in-None-clause-sound c =
    let live = live_at c.args.flat.now c.args.at in
    let lives : live c.in-Some.x ≡ true = sym (ap (is_busy live) c.in-Some.is) ∙ c.requires.busy in
    let slot = c.in_ok-slot-in-None.ensures in
    rw c.in_ok-add-in-None.ensures.added
    (sound-stored _ _ c.requires.sound _ _ c.in-Some.x slot.within slot.empty slot.set slot.grows c.requires.crowded c.requires.within c.in-Some.is lives
    c.in-None.ensures.absent)

pub returns-in_ok-add-in-None-clause-loads : goal.returns-in_ok-add-in-None-clause-loads
returns-in_ok-add-in-None-clause-loads c =
    let live = live_at c.args.flat.now c.args.at in
    let lives : live c.in-Some.x ≡ true = sym (ap (is_busy live) c.in-Some.is) ∙ c.requires.busy in
    let slot = c.in_ok-slot-in-None.ensures in
    rw c.in_ok-add-in-None.ensures.added
    (λ y. loads-stored _ _ c.requires.sound _ _ c.in-Some.x slot.within slot.grows c.requires.within c.in-Some.is lives c.in-None.ensures.absent y)
