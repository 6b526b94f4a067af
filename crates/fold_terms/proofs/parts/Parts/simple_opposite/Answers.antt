use Rattle.std.proofs.Common.{subst}
use Rattle.std.proofs.lemmas.Option.{IfSome_then}
use Rattle.fold_terms.specs.inner.Built.{IsOpposite}
use Rattle.fold_terms.proofs.StandLemmas.{denoted-opposite}
use Rattle.fold_terms.proofs.parts.Parts.simple_opposite.Goals as goal

pub returns-clause-some : goal.returns-clause-some
returns-clause-some c =
    IfSome_then c.opposite_of.result c.opposite_of.ensures.some
    (λ x n. denoted-opposite c.args.self.now.inputs c.args.self.now.nodes c.args.a c.args.b c.args.c x c.requires.built.valid c.requires.node.0
    (subst (λ node. IsOpposite node x) c.node_at.ensures n) c.requires.built.possible)
