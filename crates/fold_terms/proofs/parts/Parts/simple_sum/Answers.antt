use Rattle.std.proofs.Common.{sym, ◌∙◌, ap}
use Rattle.definedness.specs.Facts.{Possible}
use Rattle.flat_code.specs.Tidy.{is_literal_of, is_null}
use Rattle.fold_terms.proofs.StandLemmas.{not-true, denoted-sum, denoted-sum-right}
use Rattle.fold_terms.proofs.parts.Parts.simple_sum.Goals as goal

pub returns-then-not-fact_at-clause-some : goal.returns-then-not-fact_at-clause-some
returns-then-not-fact_at-clause-some c =
    let h = c.requires.node in
    denoted-sum c.args.self.now.inputs c.args.self.now.nodes c.args.a c.args.b c.args.c c.requires.built.valid h.0 h.1
    (sym (ap (is_literal_of is_null) c.node_at.ensures) ∙ sym c.is_zero_literal.ensures ∙ c.if-is_zero_literal.true)
    (sym (ap (λ (f : Possible). f.undef) (c.fact_at-then-is_zero_literal.view_is ∙ c.fact_at.ensures))
    ∙ not-true c.fact_at-then-is_zero_literal.inside.undef c.if-not-fact_at.true)
    (c.requires.built.possible c.args.a h.0)

pub returns-then-not-fact_at-2-clause-some : goal.returns-then-not-fact_at-2-clause-some
returns-then-not-fact_at-2-clause-some c =
    let h = c.requires.node in
    denoted-sum-right c.args.self.now.inputs c.args.self.now.nodes c.args.a c.args.b c.args.c c.requires.built.valid h.0 h.1
    (sym (ap (is_literal_of is_null) c.node_at-2.ensures) ∙ sym c.is_zero_literal-2.ensures ∙ c.if-is_zero_literal-2.true)
    (sym (ap (λ (f : Possible). f.undef) (c.fact_at-then-is_zero_literal-2-2.view_is ∙ c.fact_at-then-is_zero_literal-2.ensures))
    ∙ not-true c.fact_at-then-is_zero_literal-2-2.inside.undef c.if-not-fact_at-2.true)
    (c.requires.built.possible c.args.b h.1)
