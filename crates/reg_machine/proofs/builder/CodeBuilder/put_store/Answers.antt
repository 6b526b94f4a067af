use Rattle.std.proofs.Common.{sym, subst}
use Rattle.reg_machine.specs.declared.instr.Instr.TheVariants.{Store}
use Rattle.reg_machine.specs.inner.Packed.{IsRight}
use Rattle.reg_machine.proofs.BuilderLemmas.{grown-from}
use Rattle.reg_machine.proofs.DraftLemmas.{Parts, slot-pushed, draft-store}
use Rattle.reg_machine.proofs.builder.CodeBuilder.put_store.Goals as goal

pub invariant_of-self-2 : goal.invariant_of-self-2
invariant_of-self-2 c =
    let s = c.self.inside in
    let d : Parts = record {
      inputs = s.inputs;
      slots = s.slots;
      labels = s.labels;
      outs = s.outputs;
      pool = s.pool.items;
      used = s.used;
      packed = s.packed.items;
      written = s.written;
      given = s.given;
    } in
    let right = subst (λ code. IsRight code (Store c.args.k c.args.r)) (sym c.self.view_is) c.requires.right in
    let number = c.in_ok-number.ensures in
    rw (c.push_reserved.ensures.items, c.reserve.ensures.items) (draft-store d c.number.new.self c.args.k c.args.r c.in_ok-number.number c.self.invariant right
    (grown-from s.used c.number.new.self c.args.k number.grows) number.place.0 number.place.1)

pub returns-clause-added : goal.returns-clause-added
returns-clause-added c =
    let s = c.self.inside in
    let d : Parts = record {
      inputs = s.inputs;
      slots = s.slots;
      labels = s.labels;
      outs = s.outputs;
      pool = s.pool.items;
      used = s.used;
      packed = s.packed.items;
      written = s.written;
      given = s.given;
    } in
    let number = c.in_ok-number.ensures in
    rw (c.push_reserved.ensures.items, c.reserve.ensures.items, ← c.self.view_is) (slot-pushed d c.number.new.self c.args.k c.args.r c.in_ok-number.number
    (grown-from s.used c.number.new.self c.args.k number.grows) number.place.1 c.self.invariant)
