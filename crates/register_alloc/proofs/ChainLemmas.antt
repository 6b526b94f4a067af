-- The outputs of each node as linked lists.
use Rattle.std.proofs.Common.{◌≡◌, ◌≢◌, ℕ, zero, suc, ◌+◌, ◌-◌, ◌<◌, ◌≤◌, List, length, get_or, Option, ap, ◌∙◌, subst, arith}
use Rattle.flat_code.specs.declared.program.Flat.{Flat}
use Rattle.reg_machine.specs.Flow.{Listing}
use Rattle.register_alloc.specs.inner.Sound.{Sound, given_part}
use Rattle.register_alloc.specs.inner.OutputChain.{IsNext}
use Rattle.register_alloc.proofs.OutputLemmas.{part-other}

-- outputs of other nodes are skipped
part-skip : (p d k j : ℕ) (outputs : List ℕ) → k + d ≡ j → j ≤ length outputs → ((i : ℕ) → k ≤ i → i < j → get_or outputs i 0 ≢ p)
    → given_part p k outputs ≡ given_part p j outputs
part-skip p zero k j outputs e le others = ap (λ m. given_part p m outputs) (let z : k ≡ j = omega arith in z)
part-skip p (suc d) k j outputs e le others =
    let lt : k < length outputs = omega arith in
    let first : k < j = omega arith in
    part-other p k outputs lt (others k (omega arith) first)
    ∙ part-skip p d (suc k) j outputs (omega arith) le (λ i from below. others i (omega arith) below)

pub part-next-output : (p k j : ℕ) (outputs : List ℕ) → IsNext outputs p k j → given_part p k outputs ≡ given_part p j outputs
part-next-output p k j outputs h =
    let from : k ≤ j = h.from in
    part-skip p (j - k) k j outputs (omega arith) h.within h.between

-- the next output of a node
pub sound-skip : {flat : Flat} {made read checked : ℕ} {code : Listing} {r s : ℕ → Option ℕ} {n : ℕ} (p k j : ℕ) (outputs : List ℕ)
    → Sound flat made read checked (given_part p k outputs) code r s n → IsNext outputs p k j → Sound flat made read checked (given_part p j outputs) code r s n
sound-skip {flat} {made} {read} {checked} {code} {r} {s} {n} p k j outputs h next =
    subst (λ (given : List (Option ℕ)). Sound flat made read checked given code r s n) (part-next-output p k j outputs next) h
