use Rattle.why_report.proofs.PartLemmas.{IsHeight}
use Rattle.why_report.proofs.evaluate.height_of.Given as goal

abbrev pub invariant-loop-part : goal.invariant-loop-part
invariant-loop-part l = IsHeight l.parts l.depth l.most l.part-index
