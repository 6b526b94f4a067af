use Rattle.std.proofs.Common.{◌≡◌, ℕ, ◌<◌, ◌-◌, true, length, slice_index_or, []}
use Rattle.dirty_set.specs.Members.{is_member}
use Rattle.value_sheet.specs.inner.Readers.{has}
use Rattle.value_sheet.proofs.settle.mark_put.Given as goal

abbrev pub invariant-loop-input : goal.invariant-loop-input
invariant-loop-input l = record {
  sound : (k : ℕ) → is_member l.marks k ≡ true → (p : ℕ) × (p < length l.puts) × (is_member l.puts p ≡ true)
      × (has (slice_index_or l.input_rows p []) k ≡ true);
  complete : (p k : ℕ) → p < l.p → is_member l.puts p ≡ true → has (slice_index_or l.input_rows p []) k ≡ true → is_member l.marks k ≡ true;
  many : length l.marks ≡ length l.initial.marks;
}

abbrev pub decreases-loop-input : goal.decreases-loop-input
decreases-loop-input l = length l.puts - l.p
