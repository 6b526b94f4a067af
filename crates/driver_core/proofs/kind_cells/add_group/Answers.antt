use Rattle.std.proofs.Common.{◌++◌, ℤ, sym, ap, ◌∙◌}
use Rattle.std.proofs.lemmas.List.{append-nil}
use Rattle.std.specs.BTreeMap.{get}
use Rattle.driver_core.specs.Groups.{key_order, cells_of}
use Rattle.driver_core.proofs.GroupLemmas.{amount-kept}
use Rattle.driver_core.proofs.kind_cells.add_group.Goals as goal

pub returns-in_ok-extend_from_slice : goal.returns-in_ok-extend_from_slice
returns-in_ok-extend_from_slice c =
    let key = ap (λ (v : ℤ). cells_of (get key_order c.args.index.now.groups (c.args.attribute, v))) (amount-kept c.millionths.result c.millionths.ensures.bound
    ∙ c.millionths.ensures.value) in
    c.in_ok-extend_from_slice.ensures.items ∙ ap (λ l. c.args.cells.now.items ++ l) (c.deref.ensures.value ∙ ap cells_of c.in-Some.ensures.value ∙ key)

pub returns-in_default : goal.returns-in_default
returns-in_default c =
    let key = ap (λ (v : ℤ). cells_of (get key_order c.args.index.now.groups (c.args.attribute, v))) (amount-kept c.millionths.result c.millionths.ensures.bound
    ∙ c.millionths.ensures.value) in
    sym (ap (λ l. c.args.cells.now.items ++ l) (sym (ap cells_of c.in_default.ensures.value ∙ key)) ∙ append-nil c.args.cells.now.items)
