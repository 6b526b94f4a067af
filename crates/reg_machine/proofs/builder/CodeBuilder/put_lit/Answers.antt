use Rattle.std.proofs.Common.{◌≡◌, length, sym, subst, arith}
use Rattle.reg_machine.specs.declared.instr.Instr.TheVariants.{Lit}
use Rattle.reg_machine.specs.inner.Packed.{IsRight}
use Rattle.reg_machine.proofs.DraftLemmas.{Parts, literal-pushed, draft-literal}
use Rattle.reg_machine.proofs.builder.CodeBuilder.put_lit.Goals as goal

pub invariant_of-self-2 : goal.invariant_of-self-2
invariant_of-self-2 c =
    let s = c.self.inside in
    let d : Parts = record {
      inputs = s.inputs;
      slots = s.slots;
      labels = s.labels;
      outs = s.outputs;
      pool = s.pool.items;
      used = s.used;
      packed = s.packed.items;
      written = s.written;
      given = s.given;
    } in
    let right = subst (λ code. IsRight code (Lit c.args.r c.args.value)) (sym c.self.view_is) c.requires.right in
    let at : c.len-at.result ≡ length s.pool.items = omega (arith, c.len-at.ensures, s.pool.ok.0) in
    rw (c.push_reserved.ensures.items, c.push_reserved-2.ensures.items, c.reserve.ensures.items, c.reserve-2.ensures.items, at)
    (draft-literal d c.args.r c.args.value c.self.invariant right)

pub returns-clause-added : goal.returns-clause-added
returns-clause-added c =
    let s = c.self.inside in
    let d : Parts = record {
      inputs = s.inputs;
      slots = s.slots;
      labels = s.labels;
      outs = s.outputs;
      pool = s.pool.items;
      used = s.used;
      packed = s.packed.items;
      written = s.written;
      given = s.given;
    } in
    let at : c.len-at.result ≡ length s.pool.items = omega (arith, c.len-at.ensures, s.pool.ok.0) in
    rw (c.push_reserved.ensures.items, c.push_reserved-2.ensures.items, c.reserve.ensures.items, c.reserve-2.ensures.items, at, ← c.self.view_is)
    (literal-pushed d c.args.r c.args.value c.self.invariant)
