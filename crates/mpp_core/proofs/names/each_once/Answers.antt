use Rattle.std.proofs.Common.{◌∙◌}
use Rattle.std.proofs.lemmas.List.Filters.{dedup_is}
use Rattle.std.proofs.lemmas.List.Kept.{AllPairs-from_increasing, Contains-dedup_nat, Contains-from_dedup}
use Rattle.std.proofs.lemmas.List.Sorted.{Contains-permutation, IsPermutation-sym}
use Rattle.std.proofs.lemmas.Map.Keys.{IsStrictlyIncreasing-dedup}
use Rattle.mpp_core.proofs.OnceLemmas.{is-once}
use Rattle.mpp_core.proofs.names.each_once.Goals as goal

pub returns : goal.returns
returns c =
    let is = dedup_is _ _ _ c.dedup.ensures.filtered in
    let moved = c.sort_unstable.ensures.permutation in
    c.from_vec.ensures
    ∙ is-once _ _
    (rw is (AllPairs-from_increasing _ (IsStrictlyIncreasing-dedup _ c.sort_unstable.ensures.sorted)))
    (λ z h. Contains-permutation _ _ z (IsPermutation-sym _ _ moved) (Contains-from_dedup _ _ z (rw is at h)))
    (λ z h. rw is (Contains-dedup_nat _ z (Contains-permutation _ _ z moved h)))
