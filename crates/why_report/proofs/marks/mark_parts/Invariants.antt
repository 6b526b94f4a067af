use Rattle.std.proofs.Common.{length, drop}
use Rattle.why_report.specs.inner.Parts.{ArePartsWithin, parts_read}
use Rattle.why_report.specs.inner.Plans.{IsMarking}
use Rattle.why_report.proofs.MarkLemmas.{MarksOn}
use Rattle.why_report.proofs.marks.mark_parts.Given as goal

abbrev pub invariant-loop-part : goal.invariant-loop-part
invariant-loop-part l =
    IsMarking l.spots l.marked l.known
    × ArePartsWithin (length l.spots) (drop l.part-index l.parts)
    × MarksOn l.spots l.initial.marked l.marked (parts_read (drop l.part-index l.parts)) (parts_read l.parts)
