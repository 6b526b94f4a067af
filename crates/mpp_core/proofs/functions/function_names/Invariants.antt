use Rattle.std.proofs.Common.{◌≡◌, [], drop}
use Rattle.mpp_core.specs.Names.{resolved_names}
use Rattle.mpp_core.proofs.functions.function_names.Given as goal

abbrev pub invariant-loop-function : goal.invariant-loop-function
invariant-loop-function l = resolved_names l.names (drop l.function-index l.functions) ≡ resolved_names [] l.functions
