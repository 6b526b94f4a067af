use Rattle.std.proofs.Common.{List, ℕ, ◌++◌, ap, sym, ◌∙◌}
use Rattle.why_report.specs.Reasons.{bare_below}
use Rattle.why_report.proofs.PlanLemmas.{targets-append}
use Rattle.why_report.proofs.plan.cells_of.Goals as goal

pub returns : goal.returns
returns c =
    let base = c.args.ordered.now.base in
    c.in_ok-add_bare.ensures
    ∙ ap (λ (xs : List ℕ). xs ++ bare_below base base.cells) c.in_ok-add_targets.ensures
    ∙ sym (targets-append base c.args.ordered.now.sequence (bare_below base base.cells))
