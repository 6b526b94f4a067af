use Rattle.std.proofs.Common.{◌≡◌, None, Some, subst}
use Rattle.reg_machine.specs.Flow.{reading, code_fault, with_slots}
use Rattle.reg_machine.specs.inner.Packed.{listing_of}
use Rattle.reg_machine.proofs.NumberingLemmas.{end-whole, end-missing}
use Rattle.reg_machine.proofs.builder.CodeBuilder.finish.Goals as goal

pub seal-requires : goal.seal-requires
seal-requires c =
    let s = c.self.inside in
    let t = c.self.invariant.state in
    let read = subst (λ code. reading code ≡ Some t) c.self.view_is c.self.invariant.read in
    subst (λ code. code_fault (with_slots code c.self.inside.slots) ≡ None) c.self.view_is
    (end-whole (listing_of s.inputs s.slots s.labels s.outputs s.pool.items s.used s.packed.items) t c.self.invariant.read (c.if-is_whole.ensures t read))

pub returns-else-is_whole : goal.returns-else-is_whole
returns-else-is_whole c =
    let t = c.self.invariant.state in
    let read = subst (λ code. reading code ≡ Some t) c.self.view_is c.self.invariant.read in
    end-missing c.args.self t read (c.if-is_whole.ensures t read)
