use Rattle.std.proofs.Common.{List, length, ap, subst, sym, ◌∙◌, arith}
use Rattle.why_report.specs.declared.part.Part.{Part}
use Rattle.why_report.specs.inner.Parts.{ArePartsWithin, parts_read}
use Rattle.why_report.proofs.MarkLemmas.{marks-same}
use Rattle.why_report.proofs.PartLemmas.{cell-reads, cell-within}
use Rattle.why_report.proofs.marks.mark_read.Goals as goal

pub of-requires-clause-within : goal.of-requires-clause-within
of-requires-clause-within c = let size = c.requires.terms.size in omega (arith, c.requires.cell)

pub of-requires-clause-span : goal.of-requires-clause-span
of-requires-clause-span c = c.requires.terms.spans c.args.cell c.requires.cell

pub mark_parts-requires-clause-within : goal.mark_parts-requires-clause-within
mark_parts-requires-clause-within c =
    subst (λ (ps : List Part). ArePartsWithin (length c.args.spots.now) ps) (sym (c.of.ensures ∙ c.requires.terms.rows c.args.cell c.requires.cell))
    (cell-within c.args.ordered.now.value.base c.args.cell (length c.args.spots.now) c.requires.valid c.requires.size)

pub returns-clause-marks : goal.returns-clause-marks
returns-clause-marks c =
    let base = c.args.ordered.now.value.base in
    let is = c.of.ensures ∙ c.requires.terms.rows c.args.cell c.requires.cell in
    marks-same c.args.spots.now c.args.marked.now c.mark_parts.new.marked _ _
    (λ d. ap (λ (ps : List Part). parts_read ps d) is ∙ cell-reads base c.args.cell d) c.mark_parts.ensures.marks
