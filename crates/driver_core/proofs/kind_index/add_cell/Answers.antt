use Rattle.std.proofs.Common.{◌≡◌, ◌++◌, ◌∷◌, [], ℤ, ℕ, Global, Vec, sym, ap, ◌∙◌}
use Rattle.std.proofs.lemmas.Int.{to_z-of_z}
use Rattle.std.specs.Ordering.{is_eq}
use Rattle.std.specs.BTreeMap.{get}
use Rattle.driver_core.specs.Groups.{key_order, cells_of}
use Rattle.driver_core.proofs.kind_index.add_cell.Goals as goal
use Rattle.driver_core.proofs.kind_index.add_cell.Goals.{in-Some, in-None}

pub returns-clause-here : goal.returns-clause-here
returns-clause-here c =
    let e = to_z-of_z _ c.args.value c.ranges.value in
    let old = ap (λ (v : ℤ). cells_of (get key_order c.args.groups.now (c.args.attribute, v))) e in
    let new = ap (λ (v : ℤ). cells_of (get key_order c.insert.new.self (c.args.attribute, v))) e in
    let held : c.match-remove.cells.items ≡ cells_of (get key_order c.args.groups.now (c.args.attribute, c.args.value)) =
    elim c.match-remove.branch [
      | in-Some w ↦ ap (λ (v : Vec ℕ Global). v.items) w.cells-is ∙ ap cells_of w.in-Some.ensures.value ∙ old
      | in-None w ↦ ap (λ (v : Vec ℕ Global). v.items) w.cells-is ∙ w.new-cells.ensures.items ∙ ap cells_of w.in-None.ensures.value ∙ old
    ] in
    sym new ∙ ap cells_of c.in_ok-insert.ensures.updates.1 ∙ c.in_ok-push.ensures.items ∙ ap (λ l. l ++ c.args.cell ∷ []) held

pub returns-clause-others : goal.returns-clause-others
returns-clause-others c =
    λ n v h.
    let e = ap (λ (x : ℤ). is_eq (key_order (c.args.attribute, x) (n, v))) (to_z-of_z _ c.args.value c.ranges.value) ∙ h in
    c.in_ok-insert.ensures.updates.2 (n, v) e ∙ c.remove.ensures.updates.2 (n, v) e
