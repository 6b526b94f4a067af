use Rattle.std.proofs.Common.{◌≡◌, ℕ, length}
use Rattle.common_terms.specs.inner.Chains.{link_at, AreChained}
use Rattle.common_terms.proofs.chains.chain_all.Given as goal

abbrev pub invariant-loop-i : goal.invariant-loop-i
invariant-loop-i l = record {
  chained : AreChained l.links l.heads l.i;
  links : length l.links ≡ length l.initial.links;
  heads : length l.heads ≡ length l.initial.heads;
  hashes : (j : ℕ) → (link_at l.links j).hash ≡ (link_at l.initial.links j).hash;
}
