use Rattle.m_lint.proofs.PrintLemmas.{input-at, gives-text}
use Rattle.m_lint.proofs.print.print_finding.Goals as goal

pub returns-in-Unused : goal.returns-in-Unused
returns-in-Unused g c =
    rw c.in-Unused.is (gives-text _ _ _ _ _ _ _ (input-at c.args.symbols.now c.in-Unused.n c.input.result c.variable-in-Unused.result.now c.input.ensures.input
    c.variable-in-Unused.ensures) c.print_input.ensures)
