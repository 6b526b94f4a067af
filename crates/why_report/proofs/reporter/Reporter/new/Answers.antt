use Rattle.std.proofs.Common.{◌≡◌, length, replicate, rules, ap, sym, ◌∙◌, subst, arith}
use Rattle.m_fixed.specs.declared.amount.Value.TheVariants.{Undef}
use Rattle.rule_order.specs.declared.ordered.Ordered.{Ordered}
use Rattle.why_report.specs.Starts.{IsStart}
use Rattle.why_report.specs.inner.Held.{IsReady}
use Rattle.why_report.proofs.StartLemmas.{begun-is, begun-start, begun-within, held}
use Rattle.why_report.proofs.reporter.Reporter.new.Goals as goal

pub invariant_of-result : goal.invariant_of-result
invariant_of-result c = (
  subst (λ (o : Ordered). IsReady o c.in_ok-terms.terms c.in_ok-plan.plan c.in_ok-room.room c.in_ok-input_cells.input_cells.items
      (length c.in_ok-inputs.inputs.items) (length c.in_ok-env.env.items)) (sym c.of-kept.ensures)
      (record {
        valid = c.requires.valid;
        order = c.requires.order;
        terms_of = c.in_ok-terms.ensures;
        plan_of = c.in_ok-plan.ensures;
        room_for = c.in_ok-room.ensures;
        each = search rules;
        within = begun-within c.args.symbols.now c.in_ok-input_cells.input_cells.items c.in_ok-env.env.items c.requires.placed c.in_ok-input_cells.ensures
            c.in_ok-env.ensures;
      }),
  omega arith,
)

pub returns-clause-begun : goal.returns-clause-begun
returns-clause-begun c =
    let inputs : c.in_ok-inputs.inputs.items ≡ replicate (length c.in_ok-input_cells.input_cells.items) Undef = search rules in
    ap (λ (o : Ordered). held o c.in_ok-input_cells.input_cells.items c.in_ok-inputs.inputs.items c.in_ok-env.env.items) c.of-kept.ensures
    ∙ begun-is c.args.ordered c.args.symbols.now c.in_ok-input_cells.input_cells.items c.in_ok-inputs.inputs.items c.in_ok-env.env.items c.requires.placed
    c.in_ok-input_cells.ensures inputs c.in_ok-env.ensures

pub returns-clause-start : goal.returns-clause-start
returns-clause-start c =
    subst (IsStart c.args.symbols.now) (sym (returns-clause-begun c)) (begun-start c.args.ordered c.args.symbols.now c.requires.placed)
