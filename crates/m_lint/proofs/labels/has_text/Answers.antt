use Rattle.std.proofs.Common.{◌∙◌, ap}
use Rattle.m_names.specs.Names.{has}
use Rattle.m_lint.proofs.CodeLemmas.{has-number}
use Rattle.m_lint.proofs.labels.has_text.Goals as goal

pub returns : goal.returns
returns c =
    c.is_some.ensures ∙ has-number c.deref.result.now c.args.names.now c.find.result c.find.ensures.number
    ∙ ap (λ code. has code c.args.names.now) (c.deref.ensures.value ∙ c.in_ok-code.ensures)
