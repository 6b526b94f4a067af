use Rattle.std.proofs.Common.{sym, subst}
use Rattle.flat_code.specs.declared.program.Node.{Node}
use Rattle.register_alloc.specs.Width.{reads}
use Rattle.register_alloc.specs.inner.Tables.{look}
use Rattle.register_alloc.specs.inner.Sound.{live_at, Cleared}
use Rattle.register_alloc.proofs.TableLemmas.{clears, cleared-arguments}
use Rattle.register_alloc.proofs.clear.clear_arguments.Goals as goal

pub returns-in_ok-clear_dead-in-Do-3-clause-cleared : goal.returns-in_ok-clear_dead-in-Do-3-clause-cleared
returns-in_ok-clear_dead-in-Do-3-clause-cleared c =
    let live = live_at c.args.flat.now c.args.at in
    subst (λ (node : Node). Cleared (λ x. reads x node) live (look c.args.slots.now) (look c.clear_dead-in-Do-2.new.self)) (sym c.in-Do.is)
    (cleared-arguments live c.in-Do.field-0 c.in-Do.a c.in-Do.b c.in-Do.c _ _ _ _
    (clears live c.in-Do.a _ _ _ c.is_live.ensures c.in_ok-clear_dead-in-Do.ensures.stays c.in_ok-clear_dead-in-Do.ensures.only)
    (clears live c.in-Do.b _ _ _ c.is_live-in-Do.ensures c.in_ok-clear_dead-in-Do-2.ensures.stays c.in_ok-clear_dead-in-Do-2.ensures.only)
    (clears live c.in-Do.c _ _ _ c.is_live-in-Do-2.ensures c.in_ok-clear_dead-in-Do-3.ensures.stays c.in_ok-clear_dead-in-Do-3.ensures.only))
