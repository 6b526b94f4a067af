use Rattle.std.proofs.Common.{◌≡◌, ap, subst, ◌∙◌}
use Rattle.std.specs.Prelude.{IfOk, None}
use Rattle.m_ast.specs.Syntax.{Syntax}
use Rattle.loop_values.specs.Letters.{no_letters}
use Rattle.index_expand.specs.Terms.{expanded}
use Rattle.index_expand.proofs.items.expanded_joined.Goals as goal

pub returns-clause-term : goal.returns-clause-term
returns-clause-term c =
    let P : Syntax → Type 0 = λ s. IfOk c.expanded.result (λ t. t ≡ s) in
    subst P ((λ i. expanded None (c.requires i) c.deref.result.now) ∙ ap (expanded None no_letters) c.deref.ensures
    ∙ ap (λ m. m None no_letters) c.in_ok-whole.ensures) c.expanded.ensures.term
