use Rattle.std.proofs.Common.{◌++◌, ℤ, length, sym, ap, ◌∙◌, length-append, arith}
use Rattle.std.proofs.lemmas.List.{append-nil}
use Rattle.std.specs.BTreeMap.{get}
use Rattle.driver_core.specs.Groups.{key_order, cells_of, joined}
use Rattle.driver_core.proofs.GroupLemmas.{joined-push, amount-kept}
use Rattle.driver_core.proofs.kind_cells.keep.Goals as goal

pub returns-in_default-clause-kept : goal.returns-in_default-clause-kept
returns-in_default-clause-kept c =
    let key = ap (λ (v : ℤ). cells_of (get key_order c.args.index.now.groups (c.args.attribute, v))) (amount-kept c.millionths.result c.millionths.ensures.bound
    ∙ c.millionths.ensures.value) in
    let before = joined c.args.index.now c.args.attribute c.args.kept.now.items in
    sym (ap (λ l. before ++ l) (sym (ap cells_of c.in_default.ensures.value ∙ key)) ∙ append-nil before)

pub returns-clause-kept : goal.returns-clause-kept
returns-clause-kept c =
    ap (joined c.args.index.now c.args.attribute) c.in_ok-push.ensures.items ∙ joined-push c.args.index.now c.args.attribute c.args.kept.now.items c.args.value

pub returns-clause-count : goal.returns-clause-count
returns-clause-count c =
    let key = ap (λ (v : ℤ). cells_of (get key_order c.args.index.now.groups (c.args.attribute, v))) (amount-kept c.millionths.result c.millionths.ensures.bound
    ∙ c.millionths.ensures.value) in
    let before = joined c.args.index.now c.args.attribute c.args.kept.now.items in
    let group = c.in-Some.group.now.items in
    let there = ap cells_of c.in-Some.ensures.value ∙ key in
    let all = ap length (ap (joined c.args.index.now c.args.attribute) c.in_ok-push.ensures.items
    ∙ joined-push c.args.index.now c.args.attribute c.args.kept.now.items c.args.value ∙ ap (λ l. before ++ l) (sym there)) in
    let two = length-append before group in
    omega (arith, c.requires, c.saturating_add.ensures, c.len.ensures, c.in-Some.group.now.ok.0, all, two)
