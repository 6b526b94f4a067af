use Rattle.std.proofs.Common.{◌≡◌, ◌≤◌, ◌++◌, drop}
use Rattle.driver_core.specs.Answers.{start_from, start_of}
use Rattle.rule_answers.proofs.start.first_cells.Given as goal

abbrev pub invariant-loop-number : goal.invariant-loop-number
invariant-loop-number l = record {
  cells : l.env.items ++ start_from l.inputs l.next (drop l.number l.symbols.variables) ≡ start_of l.symbols l.inputs;
  few : l.next ≤ l.number;
}
