use Rattle.std.proofs.Common.{◌≡◌, Some, sym, ◌∙◌, subst, arith}
use Rattle.reg_machine.specs.Flow.{reading}
use Rattle.reg_machine.proofs.DraftLemmas.{Parts}
use Rattle.reg_machine.proofs.NumberingLemmas.{whole-not, whole-all}
use Rattle.reg_machine.proofs.builder.CodeBuilder.is_whole.Goals as goal

pub returns-then-not-contains : goal.returns-then-not-contains
returns-then-not-contains c = λ t e.
    let s = c.self.inside in
    let d : Parts = record {
      inputs = s.inputs;
      slots = s.slots;
      labels = s.labels;
      outs = s.outputs;
      pool = s.pool.items;
      used = s.used;
      packed = s.packed.items;
      written = s.written;
      given = s.given;
    } in
    let read = subst (λ code. reading code ≡ Some t) (sym c.self.view_is) e in
    whole-not d c.loop-k.k-counter c.self.invariant c.loop-k-test.true (sym c.contains.ensures ∙ c.if-not-contains.true) t read

pub returns : goal.returns
returns c = λ t e.
    let s = c.self.inside in
    let d : Parts = record {
      inputs = s.inputs;
      slots = s.slots;
      labels = s.labels;
      outs = s.outputs;
      pool = s.pool.items;
      used = s.used;
      packed = s.packed.items;
      written = s.written;
      given = s.given;
    } in
    let read = subst (λ code. reading code ≡ Some t) (sym c.self.view_is) e in
    whole-all d c.self.invariant (λ k lt. c.loop-k.invariant k (omega (arith, c.loop-k-test.false, lt))) t read
