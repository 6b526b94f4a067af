-- The tidy form of a flat program.
use Rattle.std.specs.Prelude.{◌≡◌, ℕ, ◌<◌, ◌==◌, Bool, true, false, not, ◌&&◌, ◌||◌, ◌⊎◌, List, length, slice_index_or, None}
use Rattle.m_fixed.specs.declared.amount.Value.{Value}
use Rattle.m_fixed.specs.declared.amount.Value.TheVariants.{Num}
use Rattle.m_fixed.specs.declared.operator.Op.{Op}
use Rattle.m_fixed.specs.declared.operator.Op.TheVariants.{Add, Sub, Mul, Neg, Eq, Ne, Lt, Le, Gt, Ge, And, Or, Not, Present, Positive, PositiveOrNull, Null}
use Rattle.m_fixed.specs.declared.operator.Op.TheVariants.{Truth, Choose, At}
use Rattle.m_fixed.specs.Operators.{arity_of, is_zero}
use Rattle.definedness.specs.Facts.{Possible, one_value, is_number, lacks_zero}
use Rattle.flat_code.specs.declared.program.Node.{Node}
use Rattle.flat_code.specs.declared.program.Node.TheVariants.{Input, Lit, Do}
use Rattle.flat_code.specs.declared.program.Check.{Check}
use Rattle.flat_code.specs.declared.program.Flat.{Flat}
use Rattle.flat_code.specs.Runs.{is_one}
use Rattle.flat_code.specs.Entries.{node_at, entry_at}
use Rattle.flat_code.specs.Facts.{facts}

-- ---- a node alone

-- arguments past the operator's arity are equal to the first
abbrev pub IsNormal : Node → Type 0
IsNormal (Input n) = Unit {0}
IsNormal (Lit v) = Unit {0}
IsNormal (Do op a b c) = (arity_of op < 2 → b ≡ a) × (arity_of op < 3 → c ≡ a)

-- more than one value is possible of the node, or it is a literal
abbrev pub IsOpen : Node → Possible → Type 0
IsOpen (Lit v) fact = Unit {0}
IsOpen _ fact = one_value fact ≡ None

-- the number 0
abbrev pub is_null : Value → Bool
is_null (Num x) = is_zero x
is_null _ = false

-- a literal whose value passes the test
abbrev pub is_literal_of : (Value → Bool) → Node → Bool
is_literal_of test (Lit v) = test v
is_literal_of test _ = false

abbrev pub is_literal : Node → Bool
is_literal node = is_literal_of (λ v. true) node

-- an operator node whose operator passes the test
abbrev pub is_made_by : (Op → Bool) → Node → Bool
is_made_by kind (Do op a b c) = kind op
is_made_by kind _ = false

abbrev pub is_neg : Op → Bool
is_neg Neg = true
is_neg _ = false

-- an operator whose result is 1 or 0 whenever it is a number
abbrev pub is_test : Op → Bool
is_test Eq = true
is_test Ne = true
is_test Lt = true
is_test Le = true
is_test Gt = true
is_test Ge = true
is_test And = true
is_test Or = true
is_test Not = true
is_test Present = true
is_test Positive = true
is_test PositiveOrNull = true
is_test Null = true
is_test At = true
is_test Truth = true
is_test _ = false

-- ---- forms

-- The seven forms of an operator node that folding removes. They depend on the first two arguments,
-- on the facts of these, and on whether the second argument equals the third:
-- - a sum with 0, if the other term is never undefined;
-- - a difference that subtracts 0, if the other term is never undefined;
-- - a product with 1;
-- - the opposite of an opposite;
-- - the truth of a test that is always a number;
-- - a choice between equal branches, if its condition is always a number;
-- - a choice whose condition is a literal, or always a number other than 0.
abbrev pub form : Op → Node → Node → Possible → Possible → Bool → Bool
form Add x y f g same = (is_literal_of is_null y && not f.undef) || (is_literal_of is_null x && not g.undef)
form Sub x y f g same = is_literal_of is_null y && not f.undef
form Mul x y f g same = is_literal_of is_one y || is_literal_of is_one x
form Neg x y f g same = is_made_by is_neg x
form Truth x y f g same = is_made_by is_test x && is_number f
form Choose x y f g same = is_literal x || (is_number f && (same || lacks_zero f))
form _ x y f g same = false

-- whether a node, with arguments among these nodes, has one of the forms
abbrev pub has_form : List Node → Node → Bool
has_form nodes (Do op a b c) = form op (node_at nodes a) (node_at nodes b) (entry_at facts nodes a) (entry_at facts nodes b) (b == c)
has_form nodes _ = false

-- ---- all nodes

-- Folded and shared nodes: arguments past the arity equal the first, only literals have a single
-- possible value, no two nodes are equal, and no node has one of the seven forms.
pub record IsFolded (nodes : List Node) : Type 0 where
  pub normal : (p : ℕ) → p < length nodes → IsNormal (node_at nodes p)
  pub unfixed : (p : ℕ) → p < length nodes → IsOpen (node_at nodes p) (entry_at facts nodes p)
  pub apart : (p q : ℕ) → p < length nodes → q < length nodes → node_at nodes p ≡ node_at nodes q → p ≡ q
  pub formless : (p : ℕ) → p < length nodes → has_form nodes (node_at nodes p) ≡ false

-- ---- what is read

-- a node reads another
abbrev pub Reads : Node → ℕ → Type 0
Reads (Input n) x = ⊥
Reads (Lit v) x = ⊥
Reads (Do op a b c) x = (x ≡ a) ⊎ ((x ≡ b) ⊎ (x ≡ c))

-- the check with this number
abbrev pub check_at : List Check → ℕ → Check
check_at checks j = slice_index_or checks j (record { guard = 0; condition = 0; over_only = false; label = 0 })

-- a check reads a node
abbrev pub ReadsCheck : Check → ℕ → Type 0
ReadsCheck check x = (x ≡ check.guard) ⊎ (x ≡ check.condition)

-- an output or a check reads a node
abbrev pub IsRoot : Flat → ℕ → Type 0
IsRoot flat x = ((j : ℕ) × (j < length flat.outputs) × (x ≡ slice_index_or flat.outputs j 0)) ⊎ ((j : ℕ) × (j < length flat.checks)
    × ReadsCheck (check_at flat.checks j) x)

-- a node that an output or a check reads, directly or through other nodes
pub data IsReached (flat : Flat) : ℕ → Type 0 where
  root : {x : ℕ} → IsRoot flat x → IsReached flat x
  argument : {p x : ℕ} → IsReached flat p → p < length flat.nodes → Reads (node_at flat.nodes p) x → IsReached flat x

-- no two checks are equal
abbrev pub AreUnlike : List Check → Type 0
AreUnlike checks = (i j : ℕ) → i < length checks → j < length checks → check_at checks i ≡ check_at checks j → i ≡ j

-- The tidy form: the nodes are folded and shared, every node is reached, and no two checks are
-- equal.
pub record IsTidy (flat : Flat) : Type 0 where
  pub folded : IsFolded flat.nodes
  pub reached : (p : ℕ) → p < length flat.nodes → IsReached flat p
  pub unlike : AreUnlike flat.checks
