use Rattle.std.proofs.Common.{◌≡◌, ap, subst}
use Rattle.std.specs.Prelude.{IfOk}
use Rattle.m_ast.specs.Syntax.{Syntax}
use Rattle.index_expand.proofs.definitions.instance_term.Goals as goal

pub returns-clause-term : goal.returns-clause-term
returns-clause-term c =
    let P : Syntax → Type 0 = λ s. IfOk c.expanded.result (λ t. t ≡ s) in
    subst P (ap (λ m. m c.args.cell c.args.letters.now) c.requires.same) c.expanded.ensures.term
