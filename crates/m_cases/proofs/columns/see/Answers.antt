use Rattle.std.proofs.Common.{Bool, List, length, arith, not, ap, sym, subst, refl, ◌∷◌, ◌++◌, [], ◌∙◌, ◌≡◌}
use Rattle.std.specs.List.{list_any}
use Rattle.std.specs.Vec.{with_items}
use Rattle.std.proofs.lemmas.List.{with_items_is}
use Rattle.household.specs.Marks.{Marks}
use Rattle.m_cases.specs.Columns.{column_inputs, is_same_column}
use Rattle.m_cases.specs.inner.Outputs.{column_outputs}
use Rattle.m_cases.proofs.SeenLemmas.{any_input, any_output, sees_input, sees_output}
use Rattle.m_cases.proofs.columns.see.Goals as goal

pub returns-in-Input-clause-fresh : goal.returns-in-Input-clause-fresh
returns-in-Input-clause-fresh c = λ columns seen.
    c.mark.ensures.fresh (column_inputs columns) (subst (λ (m : List Bool). Marks m (column_inputs columns)) (sym c.deref_mut.ensures.value) seen.inputs)
    ∙ ap not (any_input c.in-Input.input columns) ∙ ap (λ x. not (list_any (is_same_column x) columns)) (sym c.in-Input.is)

pub returns-in-Input-clause-seen : goal.returns-in-Input-clause-seen
returns-in-Input-clause-seen c = λ columns seen.
    let old = c.args.seen.now.inputs in
    let same : length c.deref_mut.result.now ≡ length old.items = ap (λ (m : List Bool). length m) c.deref_mut.ensures.value in
    let long : length c.mark.new.marked ≡ old.len = omega (arith, c.mark.auto.marked, same, old.ok.0) in
    sees_input c.args.seen.now (record { inputs = with_items old c.mark.new.marked; outputs = c.args.seen.now.outputs }) columns c.args.column c.in-Input.input
    c.in-Input.is
    (subst (λ (m : List Bool). Marks m (column_inputs columns ++ c.in-Input.input ∷ [])) (sym (with_items_is old c.mark.new.marked long))
    (c.mark.ensures.marks (column_inputs columns) (subst (λ (m : List Bool). Marks m (column_inputs columns)) (sym c.deref_mut.ensures.value) seen.inputs)))
    refl seen

pub returns-in-Output-clause-fresh : goal.returns-in-Output-clause-fresh
returns-in-Output-clause-fresh c = λ columns seen.
    c.mark-in-Output.ensures.fresh (column_outputs columns)
    (subst (λ (m : List Bool). Marks m (column_outputs columns)) (sym c.deref_mut-in-Output.ensures.value) seen.outputs)
    ∙ ap not (any_output c.in-Output.output columns) ∙ ap (λ x. not (list_any (is_same_column x) columns)) (sym c.in-Output.is)

pub returns-in-Output-clause-seen : goal.returns-in-Output-clause-seen
returns-in-Output-clause-seen c = λ columns seen.
    let old = c.args.seen.now.outputs in
    let same : length c.deref_mut-in-Output.result.now ≡ length old.items = ap (λ (m : List Bool). length m) c.deref_mut-in-Output.ensures.value in
    let long : length c.mark-in-Output.new.marked ≡ old.len = omega (arith, c.mark-in-Output.auto.marked, same, old.ok.0) in
    sees_output c.args.seen.now (record { inputs = c.args.seen.now.inputs; outputs = with_items old c.mark-in-Output.new.marked }) columns c.args.column
    c.in-Output.output c.in-Output.is
    (subst (λ (m : List Bool). Marks m (column_outputs columns ++ c.in-Output.output ∷ [])) (sym (with_items_is old c.mark-in-Output.new.marked long))
    (c.mark-in-Output.ensures.marks (column_outputs columns)
    (subst (λ (m : List Bool). Marks m (column_outputs columns)) (sym c.deref_mut-in-Output.ensures.value) seen.outputs)))
    refl seen
