use Rattle.std.proofs.Common.{sym, ◌∙◌, ap}
use Rattle.definedness.specs.Facts.{is_number}
use Rattle.flat_code.specs.Tidy.{is_made_by, is_test}
use Rattle.fold_terms.proofs.StandLemmas.{denoted-truth}
use Rattle.fold_terms.proofs.parts.Parts.simple_truth.Goals as goal

pub returns-then-is_number-clause-some : goal.returns-then-is_number-clause-some
returns-then-is_number-clause-some c =
    denoted-truth c.args.self.now.inputs c.args.self.now.nodes c.args.a c.args.b c.args.c c.requires.built.valid c.requires.node.0
    (sym (ap (is_made_by is_test) c.node_at.ensures) ∙ sym c.is_test_node.ensures ∙ c.if-is_test_node.true)
    (sym (ap is_number c.fact_at.ensures) ∙ sym c.is_number.ensures ∙ c.if-is_number.true)
