use Rattle.std.proofs.Common.{◌≡◌, ℕ, [], length}
use Rattle.input_reads.specs.inner.Lists.{lists_in, list_at}
use Rattle.input_reads.proofs.lists.empty_lists.Given as goal

abbrev pub invariant-loop : goal.invariant-loop
invariant-loop l = record {
  many : length l.lists.items ≡ l.counter;
  empty : (k : ℕ) → list_at (lists_in l.lists.items) k ≡ [];
}
