-- What a node feeds to a hasher.
use Rattle.std.specs.Prelude.{ℕ, List, ◌++◌}
use Rattle.std.specs.Hash as fed
use denote.Enum.Declared.{tag_of}
use Rattle.m_fixed.specs.contracts.operator.Op.{the_type}
use Rattle.m_fixed.specs.declared.operator.Op.{Op}
use Rattle.m_fixed.specs.declared.amount.Value.{Value}
use Rattle.m_fixed.specs.declared.amount.Value.TheVariants.{Undef, Num, Over}
use Rattle.flat_code.specs.declared.program.Node.{Node}
use Rattle.flat_code.specs.declared.program.Node.TheVariants.{Input, Lit, Do}

abbrev pub value_fed : Value → List (List ℕ)
value_fed Undef = fed.u8 1
value_fed Over = fed.u8 2
value_fed (Num z) = fed.u8 3 ++ fed.i128 z

-- the discriminant of an operator, from 0
abbrev pub place_of : Op → ℕ
place_of op = tag_of the_type op

abbrev pub node_fed : Node → List (List ℕ)
node_fed (Input n) = fed.u8 0 ++ fed.u32 n
node_fed (Lit v) = value_fed v
node_fed (Do op a b c) = fed.u8 4 ++ fed.u8 (place_of op) ++ fed.u32 a ++ fed.u32 b ++ fed.u32 c
