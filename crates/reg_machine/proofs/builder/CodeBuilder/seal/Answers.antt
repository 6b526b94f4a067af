use Rattle.std.proofs.Common.{◌≡◌, None, List, ℕ, length, sym, subst}
use Rattle.std.specs.List.{AllByRecursion}
use Rattle.reg_machine.specs.Flow.{code_fault, with_slots}
use Rattle.reg_machine.specs.inner.Packed.{listing_of, IsPacked}
use Rattle.reg_machine.proofs.builder.CodeBuilder.seal.Goals as goal

pub invariant_of-result : goal.invariant_of-result
invariant_of-result c =
    let s = c.self.inside in
    let e = sym c.into_vec.ensures.slots in
    let right = subst (λ code. code_fault (with_slots code c.args.slots) ≡ None) (sym c.self.view_is) c.requires in (
      subst (λ (used : List ℕ). code_fault (listing_of s.inputs c.args.slots s.labels s.outputs s.pool.items used s.packed.items) ≡ None) e right,
      subst (λ (used : List ℕ). AllByRecursion (IsPacked s.inputs s.outputs (length s.pool.items) (length used)) s.packed.items) e c.self.invariant.packed,
      c.into_vec.ensures.distinct,
    )
