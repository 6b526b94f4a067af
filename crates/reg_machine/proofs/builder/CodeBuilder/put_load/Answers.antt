use Rattle.std.proofs.Common.{sym, subst}
use Rattle.reg_machine.specs.declared.instr.Instr.TheVariants.{Load}
use Rattle.reg_machine.specs.inner.Packed.{IsRight}
use Rattle.reg_machine.proofs.DraftLemmas.{Parts, draft-load}
use Rattle.reg_machine.proofs.builder.CodeBuilder.put_load.Goals as goal

pub invariant_of-self-in-Some : goal.invariant_of-self-in-Some
invariant_of-self-in-Some c =
    let s = c.self.inside in
    let d : Parts = record {
      inputs = s.inputs;
      slots = s.slots;
      labels = s.labels;
      outs = s.outputs;
      pool = s.pool.items;
      used = s.used;
      packed = s.packed.items;
      written = s.written;
      given = s.given;
    } in
    let right = subst (λ code. IsRight code (Load c.args.r c.args.k)) (sym c.self.view_is) c.requires.right in
    rw (c.push_reserved.ensures.items, c.reserve.ensures.items) (draft-load d c.args.r c.args.k c.in-Some.number c.self.invariant right
    c.in-Some.ensures.found.0 c.in-Some.ensures.found.1)
