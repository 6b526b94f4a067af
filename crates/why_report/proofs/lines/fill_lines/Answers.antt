use Rattle.std.proofs.Common.{◌≡◌, ◌<◌, ◌+◌, List, length, get_or, set, refl, ap, sym, ◌∙◌, subst, arith}
use Rattle.std.proofs.lemmas.List.{length-set, get_or-set_same}
use Rattle.m_fixed.specs.declared.amount.Value.{Value}
use Rattle.micro_m.specs.Values.{environment}
use Rattle.why_report.specs.declared.line.ReportLine.{ReportLine}
use Rattle.why_report.proofs.FillLemmas.{IsFill, fill-turn}
use Rattle.why_report.proofs.lines.fill_lines.Goals as goal

pub loop-position-preserved : goal.loop-position-preserved
loop-position-preserved c =
    let i = c.loop-position.position in
    let cells = c.args.cells.now in
    let values = c.loop-position.values in
    let lines = c.loop-position.lines in
    let x = get_or cells i 0 in
    let v = c.cell_value.result in
    let size = c.loop-position.invariant.1 in
    let long = c.loop-position.invariant.2 in
    let below = c.requires.cells i 0 c.loop-position-test.true in
    let within : x < length values = omega (arith, c.requires.values) in
    let same : c.index-values-cell.result ≡ v = c.index-values-cell.is ∙ get_or-set_same values x v c.index-values-cell.result within in
    let put : c.put_line.new.lines ≡ set lines i (record { cell = x; value = v }) = c.put_line.ensures
    ∙ ap (λ (w : Value). set lines i (record { cell = x; value = w })) same in (
      subst (λ (ls : List ReportLine). IsFill c.args.ordered.now.value.base (environment c.args.env.now) cells (set values x v) ls (i + 1)) (sym put)
          (fill-turn c.args.ordered.now.value.base (environment c.args.env.now) cells values lines i x v c.loop-position-test.true
          (omega (arith, c.loop-position-test.true, c.requires.lines)) refl within c.cell_value.ensures.value c.loop-position.invariant.0),
      length-set values x v ∙ size,
      ap length put ∙ length-set lines i (record { cell = x; value = v }) ∙ long,
      c.cell_value.ensures.stack_size ∙ c.loop-position.invariant.3,
    )
