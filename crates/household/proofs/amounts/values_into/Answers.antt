use Rattle.std.proofs.Common.{length, sym, ap, ◌∙◌, []}
use Rattle.std.proofs.lemmas.List.{length-replicate}
use Rattle.m_fixed.specs.declared.amount.Value.TheVariants.{Undef}
use Rattle.household.specs.Household.{values_of}
use Rattle.household.proofs.ValueLemmas.{values_of-none}
use Rattle.household.proofs.amounts.values_into.Goals as goal

pub put_amounts-requires-clause-empty : goal.put_amounts-requires-clause-empty
put_amounts-requires-clause-empty c =
    let n = length c.args.values.now in
    let empty = c.fill.ensures.after (λ y h. h) in
    empty ∙ values_of-none n ∙ ap (values_of []) (sym (ap length empty ∙ length-replicate n Undef))
