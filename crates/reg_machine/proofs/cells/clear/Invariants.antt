use Rattle.std.proofs.Common.{◌≡◌, ℕ, ◌<◌, get_or}
use Rattle.m_fixed.specs.declared.amount.Value.TheVariants.{Undef}
use Rattle.reg_machine.proofs.cells.clear.Given as goal

abbrev pub invariant-loop-value : goal.invariant-loop-value
invariant-loop-value l = (k : ℕ) → k < l.value-index → get_or l.values k Undef ≡ Undef
