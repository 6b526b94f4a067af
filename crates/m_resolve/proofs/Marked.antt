-- Marked cells.
use Rattle.std.proofs.Common.{◌≡◌, ℕ, Bool, true, false, cond, List, Result, Ok, Err, ap, ◌∙◌, not}
use Rattle.m_places.specs.declared.place.Place.{Place}
use Rattle.m_symbols.specs.Declarations.{Declared}
use Rattle.micro_m.specs.Bases.{is_among}
use Rattle.m_symbols.specs.Cells.{cell_name}
use Rattle.m_resolve.specs.Terms.{if_resolved}
use Rattle.m_resolve.specs.Bases.{new_target}
use Rattle.m_resolve.specs.declared.fault.ResolveFault.{ResolveFault}
use Rattle.m_resolve.specs.declared.fault.ResolveFault.TheVariants.{DefinedTwice}

was_marked : (b : Bool) → false ≡ not b → b ≡ true
was_marked true e = cc
was_marked false e = absurd (cc)

was_new : (b : Bool) → true ≡ not b → b ≡ false
was_new true e = absurd (cc)
was_new false e = cc

-- a cell that an earlier definition defines
pub twice : (d : Declared) (place : Place) (earlier : List ℕ) (cell : ℕ) (stated : Result ℕ ResolveFault) → stated ≡ Ok cell
    → false ≡ not (is_among cell earlier)
    → if_resolved (new_target d place earlier) stated ≡ Err (DefinedTwice (cell_name d cell) place)
twice d place earlier cell stated s m =
    ap (if_resolved (new_target d place earlier)) s ∙ ap (λ b. cond b (Err (DefinedTwice (cell_name d cell) place)) (Ok cell))
    (was_marked (is_among cell earlier) m)

-- a cell that no earlier definition defines
pub first_time : (d : Declared) (place : Place) (earlier : List ℕ) (cell : ℕ) (stated : Result ℕ ResolveFault) → stated ≡ Ok cell
    → true ≡ not (is_among cell earlier)
    → if_resolved (new_target d place earlier) stated ≡ Ok cell
first_time d place earlier cell stated s m =
    ap (if_resolved (new_target d place earlier)) s ∙ ap (λ b. cond b (Err (DefinedTwice (cell_name d cell) place)) (Ok cell))
    (was_new (is_among cell earlier) m)
