use Rattle.std.proofs.Common.{sym, subst}
use Rattle.reg_machine.specs.declared.instr.Instr.TheVariants.{Do}
use Rattle.reg_machine.specs.inner.Packed.{IsRight}
use Rattle.reg_machine.proofs.DraftLemmas.{Parts, draft-do}
use Rattle.reg_machine.proofs.builder.CodeBuilder.put_do.Goals as goal

pub invariant_of-self-2 : goal.invariant_of-self-2
invariant_of-self-2 c =
    let s = c.self.inside in
    let d : Parts = record {
      inputs = s.inputs;
      slots = s.slots;
      labels = s.labels;
      outs = s.outputs;
      pool = s.pool.items;
      used = s.used;
      packed = s.packed.items;
      written = s.written;
      given = s.given;
    } in
    let right = subst (λ code. IsRight code (Do c.args.op c.args.r c.args.a c.args.b c.args.c)) (sym c.self.view_is) c.requires.right in
    rw (c.push_reserved.ensures.items, c.reserve.ensures.items) (draft-do d c.args.op c.args.r c.args.a c.args.b c.args.c c.self.invariant right)
