use Rattle.std.proofs.Common.{◌≡◌, ℕ, true, length, get_or, drop}
use Rattle.micro_m.specs.Bases.{is_among}
use Rattle.why_report.proofs.needed.forget.Given as goal

abbrev pub invariant-loop-cell : goal.invariant-loop-cell
invariant-loop-cell l = (length l.known ≡ length l.initial.known) × ((d : ℕ) → (get_or l.known d 0 ≡ 0 → ⊥) → is_among d (drop l.cell-index l.cells) ≡ true)
