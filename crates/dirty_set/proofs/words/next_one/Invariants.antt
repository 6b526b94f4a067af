use Rattle.std.proofs.Common.{◌≡◌, ℕ, ◌+◌, ◌*◌, ◌<◌, ◌≤◌, false}
use Rattle.dirty_set.specs.inner.Words.{has}
use Rattle.dirty_set.proofs.words.next_one.Given as goal

abbrev pub invariant-loop-w : goal.invariant-loop-w
invariant-loop-w l = record {
  small : l.from < 64;
  start : l.p ≤ 64 * l.w + l.from;
  past : (i : ℕ) → l.p ≤ i → i < 64 * l.w + l.from → has l.words i ≡ false;
}
