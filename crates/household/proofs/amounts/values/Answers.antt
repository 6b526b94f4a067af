use Rattle.std.proofs.Common.{length, sym, ap, ◌∙◌, []}
use Rattle.std.proofs.lemmas.List.{length-replicate}
use Rattle.m_fixed.specs.declared.amount.Value.TheVariants.{Undef}
use Rattle.household.specs.Household.{values_of}
use Rattle.household.proofs.ValueLemmas.{values_of-none}
use Rattle.household.proofs.amounts.values.Goals as goal

pub put_amounts-requires-clause-empty : goal.put_amounts-requires-clause-empty
put_amounts-requires-clause-empty c =
    let items = c.deref_mut.ensures.value ∙ c.in_ok-values.ensures.items_if_clones_equal (λ y h. h) in
    items ∙ values_of-none c.args.inputs ∙ ap (values_of []) (sym (ap length items ∙ length-replicate c.args.inputs Undef))
