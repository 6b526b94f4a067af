use Rattle.std.proofs.Common.{◌∙◌, ◌<◌, ap, length, sym, subst}
use Rattle.std.specs.List.{AllByRecursion}
use Rattle.flat_code.specs.Runs.{IsCheck}
use Rattle.m_lint.proofs.loud.loud_marks.Goals as goal

pub mark_checks-requires-clause-valid : goal.mark_checks-requires-clause-valid
mark_checks-requires-clause-valid c =
    rw c.as_slice-2.ensures (subst (λ n. AllByRecursion (IsCheck n) c.args.flat.now.checks) (sym c.requires.known) c.requires.valid.checks)

pub mark_checks-requires-clause-labels : goal.mark_checks-requires-clause-labels
mark_checks-requires-clause-labels c =
    rw c.as_slice-2.ensures (subst (λ n. AllByRecursion (λ check. check.label < n) c.args.flat.now.checks)
    (sym (c.deref_mut.ensures.len ∙ c.in_ok-marks.ensures.len ∙ ap length c.as_slice.ensures)) c.requires.shown.labels)

pub mark_notes-requires-clause-nodes : goal.mark_notes-requires-clause-nodes
mark_notes-requires-clause-nodes c =
    rw c.as_slice-4.ensures (subst (λ n. AllByRecursion (λ p. p < n) c.args.flat.now.outputs) (sym c.requires.known) c.requires.valid.outputs)
