use Rattle.std.proofs.Common.{◌≡◌, ◌++◌, drop, []}
use Rattle.why_report.specs.Starts.{start_among, start_env}
use Rattle.why_report.proofs.starts.start_env.Given as goal

abbrev pub invariant-loop-number : goal.invariant-loop-number
invariant-loop-number l = l.env.items ++ start_among [] 0 (drop l.number l.symbols.variables) ≡ start_env l.symbols []
