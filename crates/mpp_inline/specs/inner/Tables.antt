-- Tables that are read at an index.
use Rattle.std.specs.Prelude.{ℕ, zero, suc, ◌+◌, ◌*◌, pos, negsuc}
use Rattle.m_fixed.specs.declared.amount.Value.{Value}
use Rattle.m_fixed.specs.declared.amount.Value.TheVariants.{Undef, Num}
use Rattle.m_fixed.specs.declared.operator.Op.TheVariants.{At, Le}
use Rattle.m_fixed.specs.Operators.{op_value, chosen}
use Rattle.micro_m.specs.Values.{Environment}

-- the value of the cell that the index selects among the first cells of a table, otherwise the
-- given value; the last cell is tested first
abbrev pub among_cells : Environment → ℕ → Value → ℕ → Value → Value
among_cells values first index zero other = other
among_cells values first index (suc n) other =
    among_cells values first index n (chosen (op_value At index (Num (pos (n * 1000000))) Undef) (values (first + n)) other)

-- the value of a table at an index that selects no cell: 0 for a negative index, undefined past the
-- last cell
abbrev pub outside : Value → Value
outside index = chosen (op_value Le index (Num (negsuc 999999)) Undef) (Num (pos 0)) Undef
