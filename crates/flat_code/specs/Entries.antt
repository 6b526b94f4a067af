-- Nodes by number, and the entries that a reading computes for them.
use Rattle.std.specs.Prelude.{ℕ, List, slice_index_or}
use Rattle.m_fixed.specs.declared.amount.Value.TheVariants.{Undef}
use Rattle.flat_code.specs.declared.program.Node.{Node}
use Rattle.flat_code.specs.declared.program.Node.TheVariants.{Lit}
use Rattle.flat_code.specs.Runs.{Reading, entry, entries_of}

-- the node with this number
abbrev pub node_at : List Node → ℕ → Node
node_at nodes p = slice_index_or nodes p (Lit Undef)

-- the entry of the node with this number
abbrev pub entry_at : {X : Type 0} → Reading X → List Node → ℕ → X
entry_at reading nodes p = entry reading (entries_of reading nodes) p
