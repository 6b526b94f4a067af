use Rattle.std.proofs.Common.{◌≡◌, ◌∙◌, None, rules, ap}
use Rattle.m_ast.specs.Items.{size_in, variable_size}
use Rattle.m_lint.specs.Lines.{cell_line}
use Rattle.m_lint.proofs.PrintLemmas.{plain-cell, gives-text}
use Rattle.m_lint.proofs.print.print_cell.Goals as goal

pub returns-in-Computed-None : goal.returns-in-Computed-None
returns-in-Computed-None g c =
    let none : variable_size c.args.variable.now.item ≡ None = search rules in
    gives-text _ _ _ _ _ _ _ (ap cell_line (c.bytes-name.ensures ∙ plain-cell c.args.cell c.args.variable.now none)) c.give_pieces.ensures

pub returns-in-Input : goal.returns-in-Input
returns-in-Input g c = gives-text _ _ _ _ _ _ _ (ap cell_line (c.bytes-name.ensures ∙ plain-cell c.args.cell c.args.variable.now (ap size_in c.in-Input.is)))
    c.give_pieces-in-Input.ensures

pub returns-in-Constant : goal.returns-in-Constant
returns-in-Constant g c = gives-text _ _ _ _ _ _ _
    (ap cell_line (c.bytes-name.ensures ∙ plain-cell c.args.cell c.args.variable.now (ap size_in c.in-Constant.is))) c.give_pieces-in-Constant.ensures
