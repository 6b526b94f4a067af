use Rattle.std.proofs.Common.{ℕ, List, [], ◌∷◌, ◌++◌, ap, ◌∙◌, arith}
use Rattle.m_symbols.specs.Declarations.{name_of}
use Rattle.why_report.proofs.NameLemmas.{mapped-more}
use Rattle.why_report.proofs.cell_names.names_in.Goals as goal

pub loop-number-preserved : goal.loop-number-preserved
loop-number-preserved c =
    mapped-more name_of c.args.symbols.now.variables c.loop-number.number c.variable.result.now c.loop-number.names.items _
    (omega (arith, c.loop-number-test.true, c.loop-number.auto.number-end, c.count-number-end.ensures)) c.variable.ensures c.loop-number.invariant
    (c.in_ok-push.ensures.items ∙ ap (λ (x : List ℕ). c.loop-number.names.items ++ x ∷ []) c.in_ok-name.ensures)
