use Rattle.std.proofs.Common.{◌≡◌, length}
use Rattle.micro_m.specs.Values.{environment}
use Rattle.why_report.proofs.PartLemmas.{IsRun}
use Rattle.why_report.proofs.evaluate.evaluate.Given as goal

abbrev pub invariant-loop-part : goal.invariant-loop-part
invariant-loop-part l = IsRun (environment l.values) l.parts l.stack l.depth l.part-index × (length l.stack ≡ length l.initial.stack)
