use Rattle.std.proofs.Common.{◌≡◌, ℕ, ◌≤◌, List, length}
use Rattle.input_reads.specs.inner.Masks.{IsSpread}
use Rattle.input_reads.proofs.spread.spread_back.Given as goal

abbrev pub invariant-loop-p : goal.invariant-loop-p
invariant-loop-p l = record {
  within : l.p ≤ length l.nodes;
  masks : length l.masks ≡ length l.nodes;
  found : length l.found ≡ length l.initial.found;
  spread : (wanted : List ℕ) → IsSpread l.known l.nodes wanted (length l.nodes) l.initial.masks l.initial.found
      → IsSpread l.known l.nodes wanted l.p l.masks l.found;
}

abbrev pub decreases-loop-p : goal.decreases-loop-p
decreases-loop-p l = l.p
