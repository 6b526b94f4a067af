use Rattle.std.proofs.Common.{sym, ◌∙◌, ap}
use Rattle.flat_code.specs.Runs.{is_one}
use Rattle.flat_code.specs.Tidy.{is_literal_of}
use Rattle.fold_terms.proofs.StandLemmas.{denoted-product, denoted-product-right}
use Rattle.fold_terms.proofs.parts.Parts.simple_product.Goals as goal

pub returns-then-is_unit_literal-clause-some : goal.returns-then-is_unit_literal-clause-some
returns-then-is_unit_literal-clause-some c =
    let h = c.requires.node in
    denoted-product c.args.self.now.inputs c.args.self.now.nodes c.args.a c.args.b c.args.c c.requires.built.valid h.0 h.1
    (sym (ap (is_literal_of is_one) c.node_at.ensures) ∙ sym c.is_unit_literal.ensures ∙ c.if-is_unit_literal.true)
    (c.requires.built.possible c.args.a h.0)

pub returns-then-is_unit_literal-2-clause-some : goal.returns-then-is_unit_literal-2-clause-some
returns-then-is_unit_literal-2-clause-some c =
    let h = c.requires.node in
    denoted-product-right c.args.self.now.inputs c.args.self.now.nodes c.args.a c.args.b c.args.c c.requires.built.valid h.0 h.1
    (sym (ap (is_literal_of is_one) c.node_at-2.ensures) ∙ sym c.is_unit_literal-2.ensures ∙ c.if-is_unit_literal-2.true)
    (c.requires.built.possible c.args.b h.1)
