use Rattle.std.proofs.Common.{◌<◌, length, sym, ◌∙◌, arith}
use Rattle.why_report.specs.Starts.{input_cells}
use Rattle.why_report.proofs.StartLemmas.{cells-taken, cells-passed}
use Rattle.why_report.proofs.starts.input_cells.Goals as goal
use Rattle.why_report.proofs.starts.input_cells.Goals.{then-is_input+in_ok-push, else-is_input}

pub loop-number-preserved : goal.loop-number-preserved
loop-number-preserved c =
    let v = c.variable-variable.result.now in
    let n = c.loop-number.number in
    let vs = c.args.symbols.now.variables in
    let cells = c.loop-number.cells.items in
    let whole = input_cells c.args.symbols.now in
    let low : n < length vs = omega (arith, c.loop-number-test.true, c.loop-number.auto.number-end, c.count-number-end.ensures) in
    elim c.if-is_input.branch [
      | then-is_input+in_ok-push w ↦
          rw w.cells-is (rw w.in_ok-push.ensures.items (cells-taken vs n v cells whole low c.variable-variable.ensures (sym c.is_input.ensures
          ∙ w.if-is_input.true) c.loop-number.invariant))
      | else-is_input w ↦
          rw w.cells-is (cells-passed vs n v cells whole low c.variable-variable.ensures (sym c.is_input.ensures ∙ w.if-is_input.false) c.loop-number.invariant)
    ]
