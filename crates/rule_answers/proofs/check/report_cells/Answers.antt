use Rattle.std.proofs.Common.{length, sym, ap, ◌∙◌}
use Rattle.m_compile.proofs.Distinct.{many_inputs}
use Rattle.rule_answers.proofs.check.report_cells.Goals as goal

pub read_given-requires-clause-count : goal.read_given-requires-clause-count
read_given-requires-clause-count c = c.inputs.ensures ∙ sym (many_inputs c.args.symbols.now) ∙ ap length (sym c.requires.stated)
