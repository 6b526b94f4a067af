use Rattle.std.proofs.Common.{◌<◌, length, arith, get_or, ◌∙◌, ap, sym, subst}
use Rattle.definedness.specs.Facts.{IsFact, fact_of_input}
use Rattle.fold_terms.proofs.GrowLemmas.{known-length}
use Rattle.fold_terms.proofs.parts.Parts.fact_at.Goals as goal

pub at-requires-clause-within : goal.at-requires-clause-within
at-requires-clause-within c =
    let size = known-length c.args.self.now.inputs c.args.self.now.nodes c.args.self.now.facts c.requires.built in
    let lt : c.args.k < length c.args.self.now.nodes = c.requires.within in
    omega arith

pub at-requires-clause-fact : goal.at-requires-clause-fact
at-requires-clause-fact c =
    subst (λ known. IsFact (get_or known c.args.k fact_of_input)) (sym c.requires.built.noted) (c.requires.built.possible c.args.k c.requires.within)

pub returns : goal.returns
returns c = c.at.ensures ∙ ap (λ known. get_or known c.args.k fact_of_input) c.requires.built.noted
