use Rattle.std.proofs.Common.{◌≡◌, length}
use Rattle.micro_m.specs.Values.{environment}
use Rattle.why_report.proofs.FillLemmas.{IsFill}
use Rattle.why_report.proofs.lines.fill_lines.Given as goal

abbrev pub invariant-loop-position : goal.invariant-loop-position
invariant-loop-position l =
    IsFill l.ordered.value.base (environment l.env) l.cells l.values l.lines l.position
    × (length l.values ≡ length l.initial.values)
    × (length l.lines ≡ length l.initial.lines)
    × (length l.stack ≡ length l.initial.stack)
