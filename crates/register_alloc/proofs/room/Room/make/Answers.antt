use Rattle.std.proofs.Common.{◌<◌, length, rules, arith}
use Rattle.register_alloc.proofs.SoundLemmas.{right-make, loads-make}
use Rattle.register_alloc.proofs.SoundSteps.{sound-made-at}
use Rattle.register_alloc.proofs.room.Room.make.Goals as goal

pub add-requires-clause-right : goal.add-requires-clause-right
add-requires-clause-right c =
    rw c.instr_of.ensures (right-make c.requires.sound c.args.register c.args.node c.args.sources c.requires.next c.requires.node c.requires.spare.0
    c.requires.sources)

pub returns-clause-sound : goal.returns-clause-sound
returns-clause-sound c =
    let size : c.args.register < length c.args.self.now.registers = search rules in
    rw (c.in_ok-add.ensures.added, c.instr_of.ensures) (sound-made-at c.args.self.now.registers c.requires.sound _ (omega arith) c.args.register c.args.node
    c.args.sources c.requires.next c.requires.node c.requires.spare.0 size c.requires.sources c.requires.spare.1)

pub returns-clause-loads : goal.returns-clause-loads
returns-clause-loads c =
    rw (c.in_ok-add.ensures.added, c.instr_of.ensures) (λ y. loads-make c.requires.sound c.args.register c.args.node c.args.sources c.requires.next
    c.requires.node c.requires.spare.0 c.requires.sources y)
