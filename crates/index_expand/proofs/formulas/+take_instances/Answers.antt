use Rattle.std.proofs.Common.{List, ℕ, ap, subst, sym, ◌∙◌}
use Rattle.std.proofs.Math.ListN.{set}
use Rattle.std.specs.List.{flat_map}
use Rattle.std.proofs.lemmas.Result.{err_from_is_err_and}
use Rattle.loop_values.specs.Headers.{instances}
use Rattle.loop_values.specs.Letters.{Letters, bind}
use Rattle.loop_values.proofs.SingleLemmas.{single_first}
use Rattle.m_places.specs.Refusals.{Outcome}
use Rattle.index_expand.specs.declared.fault.ExpandFault.TheVariants.{Memory}
use Rattle.index_expand.specs.Expansion.{definitions_at}
use Rattle.index_expand.specs.inner.Taken.{IsTaken, IsTooMuch, weighed}
use Rattle.index_expand.proofs.TermLemmas.{put_back}
use Rattle.index_expand.proofs.TakenLemmas.{taken_next, too_much_next}
use Rattle.index_expand.proofs.formulas.+take_instances.Goals as goal

pub take_bound-returns-clause-letters : goal.take_bound-returns-clause-letters
take_bound-returns-clause-letters t c =
    ap (λ ls. set ls c.args.binding.now.letter c.replace-outer.result) c.in_ok-count.ensures.letters
    ∙ put_back c.args.letters.now c.args.binding.now.letter _ c.replace-outer.result c.index-letters-binding.result c.replace-outer.ensures.value

pub take_index-loop-value-preserved : goal.take_index-loop-value-preserved
take_index-loop-value-preserved t c =
    let d = definitions_at c.args.template.now.symbols.now c.args.template.now.formula.now c.args.template.now.formula.now.slot in
    let g = λ (value : List ℕ). instances c.args.indexes.now (bind c.args.letters.now c.args.index.now.letter value) in
    let P : Letters → Type 0 = λ ls.
    let these = flat_map d (instances c.args.indexes.now (bind ls c.args.index.now.letter c.value-item.result)) in
    IsTaken c.loop-value.definitions.items c.take_bound.new.definitions.items these (weighed these c.args.template.now.weight) c.loop-value.count
    c.in_ok-count.count in
    record {
      letters = c.in_ok-count.ensures.letters ∙ c.loop-value.invariant.letters;
      taken =
          taken_next d g c.deref-value-items.result.now c.loop-value.value-index c.value-item.result c.args.template.now.weight c.args.total c.loop-value.count
          c.in_ok-count.count
          c.args.definitions.now.items c.loop-value.definitions.items _ c.loop-value-test.true c.value-item.is c.loop-value.invariant.taken
          (subst P c.loop-value.invariant.letters c.in_ok-count.ensures.outcome);
    }

pub take_index-returns-in_err-count-clause-outcome : goal.take_index-returns-in_err-count-clause-outcome
take_index-returns-in_err-count-clause-outcome t c =
    let d = definitions_at c.args.template.now.symbols.now c.args.template.now.formula.now c.args.template.now.formula.now.slot in
    let g = λ (value : List ℕ). instances c.args.indexes.now (bind c.args.letters.now c.args.index.now.letter value) in
    let P : Letters → Type 0 = λ ls.
    IsTooMuch (weighed (flat_map d (instances c.args.indexes.now (bind ls c.args.index.now.letter c.value-item.result))) c.args.template.now.weight)
    c.loop-value.count c.args.template.now.rule c.in_err-count.field-0.0 in
    let Q : List (List ℕ) → Type 0 = λ values.
    IsTooMuch (weighed (flat_map d (flat_map g values)) c.args.template.now.weight) c.args.total c.args.template.now.rule c.in_err-count.field-0.0 in
    let p = err_from_is_err_and c.from_residual-in_err-count.result c.from_residual-in_err-count.ensures.1 in
    rw (p.1, p.2) (λ n.
    subst Q (c.deref-value-items.ensures.value ∙ c.in_ok-values.ensures)
    (too_much_next d g c.deref-value-items.result.now c.loop-value.value-index c.value-item.result c.args.template.now.weight c.args.total c.loop-value.count
    c.args.template.now.rule c.in_err-count.field-0.0
    c.args.definitions.now.items c.loop-value.definitions.items c.loop-value-test.true c.value-item.is c.loop-value.invariant.taken
    (subst P c.loop-value.invariant.letters (c.in_err-count.ensures.outcome n))))

pub take_single-returns-clause-outcome : goal.take_single-returns-clause-outcome
take_single-returns-clause-outcome t c =
    let d = definitions_at c.args.template.now.symbols.now c.args.template.now.formula.now c.args.template.now.formula.now.slot in
    let w = c.args.template.now.weight in
    let P : List Letters → Type 0 = λ all.
    Outcome Memory c.take_bound.result
    (λ after. IsTaken c.args.definitions.now.items c.take_bound.new.definitions.items (flat_map d all) (weighed (flat_map d all) w) c.args.total after)
    (λ fault. IsTooMuch (weighed (flat_map d all) w) c.args.total c.args.template.now.rule fault) in
    subst P (sym (single_first c.args.index.now c.args.indexes.now c.args.letters.now c.in_ok-value.value c.in_ok-value.ensures)) c.take_bound.ensures.outcome
