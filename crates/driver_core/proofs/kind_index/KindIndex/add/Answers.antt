use Rattle.std.proofs.Common.{◌≡◌, ◌++◌, ◌∷◌, [], ℕ, ℤ, false, subst, ◌∙◌}
use Rattle.std.specs.Ordering.{is_eq}
use Rattle.std.specs.BTreeMap.{get}
use Rattle.driver_core.specs.Groups.{key_order, cells_of}
use Rattle.driver_core.proofs.Adding.{added, still-numbered}
use Rattle.driver_core.proofs.GroupLemmas.{amount-kept}
use Rattle.driver_core.proofs.kind_index.KindIndex.add.Goals as goal

pub returns-clause-added : goal.returns-clause-added
returns-clause-added c =
    let e = amount-kept c.millionths.result c.millionths.ensures.bound ∙ c.millionths.ensures.value in
    let n = c.in_ok-number.number in
    let old = c.args.self.now.groups in
    let new = c.add_cell.new.groups in
    added c.args.self.now.attributes c.number_of.new.attributes old new c.args.attribute.now n c.args.value c.args.cell c.in_ok-number.ensures
    (subst (λ (x : ℤ). cells_of (get key_order new (n, x)) ≡ cells_of (get key_order old (n, x)) ++ c.args.cell ∷ []) e c.in_ok-add_cell.ensures.here)
    (subst (λ (x : ℤ). (m : ℕ) (v : ℤ) → is_eq (key_order (n, x) (m, v)) ≡ false → get key_order new (m, v) ≡ get key_order old (m, v)) e
    c.in_ok-add_cell.ensures.others)
    c.requires

pub returns-clause-numbered : goal.returns-clause-numbered
returns-clause-numbered c =
    let e = amount-kept c.millionths.result c.millionths.ensures.bound ∙ c.millionths.ensures.value in
    let n = c.in_ok-number.number in
    let old = c.args.self.now.groups in
    let new = c.add_cell.new.groups in
    still-numbered c.args.self.now.attributes c.number_of.new.attributes old new c.args.attribute.now n c.args.value c.args.cell c.in_ok-number.ensures
    (subst (λ (x : ℤ). cells_of (get key_order new (n, x)) ≡ cells_of (get key_order old (n, x)) ++ c.args.cell ∷ []) e c.in_ok-add_cell.ensures.here)
    (subst (λ (x : ℤ). (m : ℕ) (v : ℤ) → is_eq (key_order (n, x) (m, v)) ≡ false → get key_order new (m, v) ≡ get key_order old (m, v)) e
    c.in_ok-add_cell.ensures.others)
    c.requires
