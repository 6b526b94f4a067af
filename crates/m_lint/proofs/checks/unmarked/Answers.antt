use Rattle.std.proofs.Common.{true, false, sym, ap, ◌∙◌, append-nil}
use Rattle.m_lint.specs.inner.Loud.{is_unmarked}
use Rattle.m_lint.proofs.NumberLemmas.{numbers-next}
use Rattle.m_lint.proofs.checks.unmarked.Goals.{then-branch+in_ok-push, else-branch}
use Rattle.m_lint.proofs.checks.unmarked.Goals as goal

pub loop-k-preserved : goal.loop-k-preserved
loop-k-preserved c =
    let test = is_unmarked c.args.base.now c.args.marks.now c.args.names.now in
    elim c.if-branch.branch [
      | then-branch+in_ok-push w ↦ numbers-next test c.loop-k.found.items c.if-branch.found.items c.loop-k.k true c.loop-k.invariant
          (sym w.if-branch.true ∙ c.in_ok-is_unmarked.ensures) (ap (λ v. v.items) w.found-is ∙ w.in_ok-push.ensures.items)
      | else-branch w ↦ numbers-next test
          c.loop-k.found.items c.if-branch.found.items c.loop-k.k false c.loop-k.invariant (sym w.if-branch.false ∙ c.in_ok-is_unmarked.ensures)
          (ap (λ v. v.items) w.found-is ∙ sym (append-nil c.loop-k.found.items))
    ]
