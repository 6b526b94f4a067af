use Rattle.std.proofs.Common.{◌≡◌, ◌≤◌, ◌+◌, ℕ, ◌<◌, Some, Option, List, ap, sym, ◌∙◌, subst, length, rules, arith}
use Rattle.reg_machine.specs.Flow.{loads_of}
use Rattle.register_alloc.specs.inner.Tables.{look}
use Rattle.register_alloc.proofs.TableLemmas.{look-within}
use Rattle.register_alloc.proofs.SoundLemmas.{right-load, loads-load}
use Rattle.register_alloc.proofs.SoundSteps.{sound-loaded, slots-small}
use Rattle.register_alloc.proofs.room.Room.load.Goals as goal

pub overflow_cast-slot : goal.overflow_cast-slot
overflow_cast-slot c =
    omega (arith, slots-small c.in_ok-register.ensures.sound, look-within c.vacate.new.self.slots c.in-Some.slot c.args.x c.in-Some.ensures.found)

pub add-requires-clause-right : goal.add-requires-clause-right
add-requires-clause-right c =
    right-load c.in_ok-register.ensures.sound c.in_ok-register.register c.in-Some.slot c.args.x c.in_ok-register.ensures.within c.in-Some.ensures.found

pub returns-clause-sound : goal.returns-clause-sound
returns-clause-sound c =
    let x = c.args.x in
    let Away : List (Option ℕ) → Type 0 = λ t. (j : ℕ) → look t j ≡ Some x → ⊥ in
    let away = subst Away (sym c.vacate.ensures.registers) c.requires.away in
    let there = c.in-Some.ensures.found in
    let size : c.in_ok-register.register < length c.vacate.new.self.registers = search rules in
    rw c.in_ok-add-in-Some.ensures.added (sound-loaded c.vacate.new.self.registers c.in_ok-register.ensures.sound c.in_ok-register.register c.in-Some.slot x
    c.in_ok-register.ensures.within size there away c.in_ok-register.ensures.spare.1)

pub returns-clause-loads : goal.returns-clause-loads
returns-clause-loads c =
    rw c.in_ok-add-in-Some.ensures.added
    (λ y. omega (
      arith,
      c.in_ok-register.ensures.loads y,
      loads-load c.in_ok-register.ensures.sound c.in_ok-register.register c.in-Some.slot c.args.x
          c.in_ok-register.ensures.within c.in-Some.ensures.found y,
    ))
