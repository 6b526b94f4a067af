use Rattle.std.proofs.Common.{◌≡◌, ℕ, ◌≤◌, ◌-◌, List, length, get_or, take, drop, refl, ap, sym, subst, arith}
use Rattle.std.proofs.Math.ListN.{length-map}
use Rattle.std.specs.List.{All}
use Rattle.micro_m.specs.Reads.{Reads, IsCycle, BeginsWithLeast}
use Rattle.rule_order.specs.declared.search.Frame.{Frame}
use Rattle.rule_order.specs.inner.Marks.{cells_of}
use Rattle.rule_order.proofs.CycleLemmas.{shown, shown-least, gathered, ring-cells}
use Rattle.rule_order.proofs.cycle.shown_cycle.Goals as goal

pub returns-clause-cycle : goal.returns-clause-cycle
returns-clause-cycle c = λ base distinct next last.
    let path = c.args.path.now in
    let j = c.place_of.result in
    let l = c.place_of_least-least.result in
    let is = gathered path _ j l c.from_vec.result _ _ _ refl c.from_vec.ensures c.in_ok-add_cells-2.ensures c.in_ok-add_cells.ensures
    c.new-cells.ensures.items in
    let cells : length (cells_of path) ≡ length path = length-map path (λ (f : Frame). f.cell) in
    let ring : length (cells_of (take (length path - j) (drop j path))) ≡ length (take (length path - j) (drop j path)) = length-map
    (take (length path - j) (drop j path)) (λ (f : Frame). f.cell) in
    let same : length (cells_of (take (length path - j) (drop j path))) ≡ length (drop j (cells_of path)) = ap length (ring-cells path j) in
    let low = c.place_of.ensures.within in
    let within = c.place_of_least-least.ensures.within in
    subst (λ (cs : List ℕ). IsCycle (Reads base) cs) (sym is)
    (shown base (cells_of path) c.args.cell j l distinct next last (omega arith) c.place_of.ensures.here (omega arith))

pub returns-clause-least : goal.returns-clause-least
returns-clause-least c =
    let path = c.args.path.now in
    let j = c.place_of.result in
    let l = c.place_of_least-least.result in
    let is = gathered path _ j l c.from_vec.result _ _ _ refl c.from_vec.ensures c.in_ok-add_cells-2.ensures c.in_ok-add_cells.ensures
    c.new-cells.ensures.items in
    let ring : length (cells_of (take (length path - j) (drop j path))) ≡ length (take (length path - j) (drop j path)) = length-map
    (take (length path - j) (drop j path)) (λ (f : Frame). f.cell) in
    let same : length (cells_of (take (length path - j) (drop j path))) ≡ length (drop j (cells_of path)) = ap length (ring-cells path j) in
    let within = c.place_of_least-least.ensures.within in
    subst (λ (cs : List ℕ). BeginsWithLeast cs) (sym is)
    (shown-least (drop j (cells_of path)) l (omega arith)
    (subst (λ (cs : List ℕ). All (λ n. get_or cs l 0 ≤ n) cs) (ring-cells path j) c.place_of_least-least.ensures.least))
