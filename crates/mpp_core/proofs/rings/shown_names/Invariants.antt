use Rattle.std.proofs.Common.{◌≡◌, [], take, slice_get}
use Rattle.std.specs.Prelude.{map}
use Rattle.std.specs.Option.{unwrap_or}
use Rattle.mpp_core.proofs.rings.shown_names.Given as goal

abbrev pub invariant-loop-function : goal.invariant-loop-function
invariant-loop-function l = l.shown.items ≡ map (λ f. unwrap_or (slice_get l.names f) []) (take l.function-index l.functions)
