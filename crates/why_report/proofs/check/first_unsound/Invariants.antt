use Rattle.std.proofs.Common.{ℕ, ◌<◌, take}
use Rattle.micro_m.specs.Values.{environment}
use Rattle.why_report.specs.Derivations.{IsDerivedAt}
use Rattle.why_report.specs.inner.Checked.{Keeps}
use Rattle.why_report.proofs.check.first_unsound.Given as goal

abbrev pub invariant-loop-position : goal.invariant-loop-position
invariant-loop-position l =
    Keeps l.base.cells (take l.position l.lines) l.checked
    × ((p : ℕ) → p < l.position → IsDerivedAt l.base (environment l.env) l.lines p)
