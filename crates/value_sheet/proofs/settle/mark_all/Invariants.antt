use Rattle.std.proofs.Common.{◌≡◌, ℕ, ◌||◌, take, length}
use Rattle.dirty_set.specs.Members.{is_member}
use Rattle.value_sheet.specs.inner.Readers.{has}
use Rattle.value_sheet.proofs.settle.mark_all.Given as goal

abbrev pub invariant-loop-k : goal.invariant-loop-k
invariant-loop-k l = record {
  marks : (k : ℕ) → is_member l.marks k ≡ (is_member l.initial.marks k || has (take l.k-index l.row) k);
  many : length l.marks ≡ length l.initial.marks;
}
