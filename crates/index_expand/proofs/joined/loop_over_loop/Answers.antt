use Rattle.std.proofs.Common.{◌≡◌, ℕ, subst}
use Rattle.std.specs.Prelude.{IfOk, Option}
use Rattle.m_ast.specs.Syntax.{Syntax, loop}
use Rattle.loop_values.specs.Letters.{Letters}
use Rattle.index_expand.specs.inner.Meanings.{meaning}
use Rattle.index_expand.proofs.JoinedLemmas.{loop_same, loop_joined}
use Rattle.index_expand.proofs.joined.loop_over_loop.Goals as goal

pub returns-in-Ok : goal.returns-in-Ok
returns-in-Ok c =
    let P : (Option ℕ → Letters → Syntax) → Type 0 = λ m. IfOk c.in_box.result (λ made. meaning made.value ≡ m) in
    subst P (loop_joined c.args.header.now c.args.inner c.in-Ok.header c.args.body.value c.if-is_one.ensures c.in-Ok.ensures) c.in_box.ensures

pub returns : goal.returns
returns c =
    let P : (Option ℕ → Letters → Syntax) → Type 0 = λ m. IfOk c.loop_with.result (λ made. meaning made.value ≡ m) in
    subst P (loop_same c.args.header.now c.in_ok-body.body.value (loop c.args.inner c.args.body.value) c.in_ok-body.ensures) c.loop_with.ensures
