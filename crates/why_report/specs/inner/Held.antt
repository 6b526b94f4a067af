-- The invariants of a reporter.
use Rattle.std.specs.Prelude.{◌≡◌, ℕ, ◌<◌, true, false, List, [], ◌∷◌, length, replicate, slice_index_or, All}
use Rattle.micro_m.specs.Bases.{is_among, IsValidBase}
use Rattle.micro_m.specs.Reads.{Reads}
use Rattle.micro_m.specs.declared.base.Base.{Base}
use Rattle.rule_order.specs.declared.ordered.Ordered.{Ordered}
use Rattle.rule_order.specs.Orders.{IsOrder}
use Rattle.why_report.specs.declared.plan.Plan.{Plan}
use Rattle.why_report.specs.declared.room.Room.{Room}
use Rattle.why_report.specs.declared.terms.Terms.{Terms}
use Rattle.why_report.specs.inner.Plans.{IsPlanOf}
use Rattle.why_report.specs.inner.Terms.{AreTerms}

-- Buffers for the cells of a base and a stack of this height, without marks.
pub record IsRoomFor (cells height : ℕ) (room : Room) : Type 0 where
  pub marked : room.marked ≡ replicate cells false
  pub known_size : length room.known.items ≡ cells
  pub known : (c : ℕ) → slice_index_or room.known.items c 0 ≡ 0
  pub needed : length room.needed.items ≡ cells
  pub values : length room.values.items ≡ cells
  pub stack : length room.stack.items ≡ height
  pub lines : length room.lines.items ≡ cells

-- The parts of a reporter agree: the base is valid and ordered, the terms are its terms, the plan is
-- its plan, the buffers have its size, and the inputs have cells.
pub record IsReady (ordered : Ordered) (terms : Terms) (plan : Plan) (room : Room) (input_cells : List ℕ) (inputs cells : ℕ) : Type 0 where
  pub valid : IsValidBase ordered.base
  pub order : IsOrder ordered.base ordered.sequence
  pub terms_of : AreTerms ordered.base ordered.base.cells terms
  pub plan_of : IsPlanOf ordered plan
  pub room_for : IsRoomFor ordered.base.cells terms.height room
  pub each : length input_cells ≡ inputs
  pub within : All (λ c. c < cells) input_cells

-- No cell occurs twice, and each comes after all that it reads, where those of `front` come first.
abbrev pub AreFollowing : Base → List ℕ → List ℕ → Type 0
AreFollowing base front [] = Unit {0}
AreFollowing base front (x ∷ cells) =
    (is_among x front ≡ false) × ((c : ℕ) → Reads base x c → is_among c front ≡ true) × AreFollowing base (x ∷ front) cells
