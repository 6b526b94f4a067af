use Rattle.std.proofs.Common.{◌≡◌, drop}
use Rattle.std.specs.List.{list_any}
use Rattle.loop_values.specs.Values.{is_bad_span}
use Rattle.loop_values.proofs.values.has_bad_span.Given as goal

abbrev pub invariant-loop-span : goal.invariant-loop-span
invariant-loop-span l = list_any is_bad_span (drop l.span-index l.index.values) ≡ list_any is_bad_span l.index.values
