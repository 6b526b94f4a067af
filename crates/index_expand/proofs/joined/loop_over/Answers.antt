use Rattle.std.proofs.Common.{◌≡◌, ℕ, subst}
use Rattle.std.specs.Prelude.{IfOk, Option}
use Rattle.m_ast.specs.Syntax.{Syntax}
use Rattle.m_ast.specs.View.{syntax_of}
use Rattle.loop_values.specs.Letters.{Letters}
use Rattle.index_expand.specs.inner.Meanings.{meaning}
use Rattle.index_expand.proofs.JoinedLemmas.{loop_same}
use Rattle.index_expand.proofs.joined.loop_over.Goals as goal

pub returns-in_ok-body-in_default : goal.returns-in_ok-body-in_default
returns-in_ok-body-in_default c =
    let P : (Option ℕ → Letters → Syntax) → Type 0 = λ m. IfOk c.loop_with.result (λ made. meaning made.value ≡ m) in
    subst P (loop_same c.args.header.now c.in_ok-body-in_default.body.value (syntax_of c.args.body) c.in_ok-body-in_default.ensures) c.loop_with.ensures
