use Rattle.std.proofs.Common.{eqb, sym, ◌∙◌, ap, subst}
use Rattle.m_fixed.specs.declared.operator.Op.TheVariants.{Choose}
use Rattle.flat_code.specs.declared.program.Node.TheVariants.{Do}
use Rattle.fold_terms.specs.Drafts.{Denotes}
use Rattle.fold_terms.specs.inner.Built.{is_decided}
use Rattle.fold_terms.proofs.StandLemmas.{denoted-literal-choice, denoted-decided}
use Rattle.fold_terms.proofs.parts.Parts.simple_choice.Goals as goal

pub returns-in-Some-clause-some : goal.returns-in-Some-clause-some
returns-in-Some-clause-some c =
    let nodes = c.args.self.now.nodes in
    let h = c.requires.node in
    subst (Denotes nodes (Do Choose c.args.a c.args.b c.args.c)) (sym c.choice_of.ensures)
    (denoted-literal-choice c.args.self.now.inputs nodes c.args.a c.args.b c.args.c c.in-Some.value c.requires.built.valid h.0 h.1 h.2 (sym c.node_at.ensures
    ∙ c.in-Some.ensures.some))

pub returns-then-is_decided-clause-some : goal.returns-then-is_decided-clause-some
returns-then-is_decided-clause-some c =
    let h = c.requires.node in
    denoted-decided c.args.self.now.inputs c.args.self.now.nodes c.args.a c.args.b c.args.c c.requires.built.valid h.0 h.1
    (ap (λ f. is_decided f (eqb c.args.b c.args.c)) (sym c.fact_at.ensures) ∙ sym c.is_decided.ensures ∙ c.if-is_decided.true)
