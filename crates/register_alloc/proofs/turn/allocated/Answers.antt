use Rattle.std.proofs.Common.{◌≡◌, ℕ, ◌≤◌, List, length, ap, refl, rules, arith}
use Rattle.reg_machine.specs.Flow.{Counts, Listing}
use Rattle.register_alloc.proofs.SoundSteps.{slots-small}
use Rattle.register_alloc.proofs.AllocationLemmas.{sound-start, sealed-from, allocation-from}
use Rattle.register_alloc.proofs.turn.allocated.Goals as goal

pub loop-at-init : goal.loop-at-init
loop-at-init c =
    let flat = c.args.flat.now in
    let labels = c.args.labels in
    let counts : List ℕ → Counts = λ os. record { inputs = flat.inputs; slots = 4294967295; labels = labels; outputs = length os } in
    record {
      sound = rw (c.new-2.ensures, c.new-3.ensures) (sound-start flat labels (counts c.as_slice.result.now) c.requires.valid c.requires.small
          (ap counts c.as_slice.ensures));
      even = refl;
      settled = λ lt. omega arith;
      labels = ap (λ (code : Listing). code.counts.labels) c.new-2.ensures;
      short = rw c.new-2.ensures (omega arith);
      loads = rw c.new-2.ensures (λ y. omega arith);
    }

pub overflow_cast-count : goal.overflow_cast-count
overflow_cast-count c = omega (arith, slots-small c.loop-at.invariant.sound, c.count.ensures)

pub seal-requires : goal.seal-requires
seal-requires c =
    let all : length c.args.flat.now.nodes ≤ c.loop-at.at.made = search rules in
    rw c.count.ensures (sealed-from c.requires.valid c.loop-at.invariant.sound all c.loop-at.invariant.settled)

pub returns : goal.returns
returns c =
    let all : length c.args.flat.now.nodes ≤ c.loop-at.at.made = search rules in
    rw (c.seal.ensures, c.count.ensures) (allocation-from c.args.labels c.requires.valid c.loop-at.invariant.sound all c.loop-at.invariant.settled
    c.loop-at.invariant.labels c.loop-at.invariant.loads)
