use Rattle.std.proofs.Common.{◌∙◌, ap, sym, subst}
use Rattle.micro_m.specs.Reads.{Reads, IsCycle, HasNoCycle}
use Rattle.mpp_core.specs.Cores.{IsRecursion}
use Rattle.mpp_core.specs.inner.Calls.{calls_base}
use Rattle.mpp_core.proofs.CallLemmas.{valid_base, no_ring, is_ring}
use Rattle.mpp_core.proofs.rings.no_ring.Goals as goal

pub order-requires : goal.order-requires
order-requires c = rw c.in_ok-base.ensures (rw c.as_slice.ensures (valid_base c.args.core.now c.requires.range))

pub returns-in-Ok : goal.returns-in-Ok
returns-in-Ok c = no_ring c.args.core.now (subst HasNoCycle (c.in_ok-base.ensures ∙ ap calls_base c.as_slice.ensures) c.in-Ok.ensures.no_cycle)

pub returns : goal.returns
returns c = λ n.
    let shown = rw c.in-Err-Cycle.field-0-is at (c.in-Err-Cycle.ensures.outcome (rw c.in-Err-Cycle.field-0-is (λ e. absurd (cc)))) in
    subst (IsRecursion c.args.core.now) (sym (c.recursion.ensures n)) (record {
      functions = c.in-Err-Cycle.ring;
      ring = is_ring c.args.core.now c.in-Err-Cycle.ring (subst (λ base. IsCycle (Reads base) c.in-Err-Cycle.ring) (c.in_ok-base.ensures
          ∙ ap calls_base c.as_slice.ensures) shown.0);
      first = shown.1;
      shown = rw c.as_slice-in-Err-Cycle.ensures (rw c.as_slice-in-Err-Cycle-2.ensures (cc));
    })
