use Rattle.std.proofs.Common.{sym, subst}
use Rattle.reg_machine.specs.declared.instr.Instr.TheVariants.{Output}
use Rattle.reg_machine.specs.inner.Packed.{IsRight}
use Rattle.reg_machine.proofs.DraftLemmas.{Parts, draft-output}
use Rattle.reg_machine.proofs.builder.CodeBuilder.put_output.Goals as goal

pub invariant_of-self-2 : goal.invariant_of-self-2
invariant_of-self-2 c =
    let s = c.self.inside in
    let d : Parts = record {
      inputs = s.inputs;
      slots = s.slots;
      labels = s.labels;
      outs = s.outputs;
      pool = s.pool.items;
      used = s.used;
      packed = s.packed.items;
      written = s.written;
      given = s.given;
    } in
    let right = subst (λ code. IsRight code (Output c.args.k c.args.r)) (sym c.self.view_is) c.requires.right in
    rw (c.push_reserved.ensures.items, c.reserve.ensures.items) (draft-output d c.args.k c.args.r c.insert.new.self c.self.invariant right
    c.in_ok-insert.ensures.updates)
