use Rattle.std.proofs.Common.{◌≡◌, ℕ, ◌-◌, ◌<◌, false, length}
use Rattle.dirty_set.specs.Members.{is_member}
use Rattle.dirty_set.proofs.set.Bits.clear.Given as goal

abbrev pub invariant-loop-k : goal.invariant-loop-k
invariant-loop-k l = record {
  so_many : length l.self ≡ length l.initial.self;
  below : (i : ℕ) → i < l.p → is_member l.self i ≡ false;
}

abbrev pub decreases-loop-k : goal.decreases-loop-k
decreases-loop-k l = length l.self - l.p
