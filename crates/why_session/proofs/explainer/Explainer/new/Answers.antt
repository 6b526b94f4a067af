use Rattle.std.proofs.Common.{ap, sym, ◌∙◌, subst}
use Rattle.rule_order.specs.declared.ordered.Ordered.{Ordered}
use Rattle.why_report.specs.Starts.{Reporting}
use Rattle.why_session.specs.inner.Parts.{AreJoined}
use Rattle.why_session.proofs.explainer.Explainer.new.Goals as goal

pub put_inputs-requires-clause-many : goal.put_inputs-requires-clause-many
put_inputs-requires-clause-many c = c.requires.many ∙ sym c.in_ok-reporter.ensures.start.size

pub invariant_of-result : goal.invariant_of-result
invariant_of-result c = subst (AreJoined c.args.session c.put_inputs.new.reporter) (sym c.in_ok-names.ensures) (record {
  start = c.put_inputs.ensures.start c.args.symbols c.in_ok-reporter.ensures.start;
  same = c.put_inputs.ensures.inputs;
  values = c.requires.values;
  cells = ap (λ (o : Ordered). o.base.cells) (c.put_inputs.ensures.ordered ∙ ap (λ (r : Reporting). r.ordered) c.in_ok-reporter.ensures.begun)
      ∙ c.requires.cells;
})
