-- The state of a builder, and its simplifications.
use Rattle.std.specs.Prelude.{◌≡◌, ℕ, ◌<◌, nat_lt, Bool, ◌&&◌, ◌||◌, ◌⊎◌, List, [], ◌∷◌, ◌++◌, length, if◌then◌else◌}
use Rattle.m_fixed.specs.declared.amount.Value.{Value}
use Rattle.m_fixed.specs.declared.amount.Value.TheVariants.{Undef, Num, Over}
use Rattle.m_fixed.specs.declared.operator.Op.TheVariants.{Neg}
use Rattle.m_fixed.specs.Operators.{arity_of, is_zero}
use Rattle.definedness.specs.Facts.{Possible, IsFact, is_number, lacks_zero}
use Rattle.flat_code.specs.declared.program.Node.{Node}
use Rattle.flat_code.specs.declared.program.Node.TheVariants.{Input, Lit, Do}
use Rattle.flat_code.specs.Runs.{entries_of}
use Rattle.flat_code.specs.Entries.{entry_at}
use Rattle.flat_code.specs.Facts.{facts}
use Rattle.flat_code.specs.Tidy.{IsFolded}
use Rattle.flat_code.specs.inner.Renumber.{AreValid}

-- The invariant of a builder, for its nodes and their facts.
pub record IsBuilt (inputs : ℕ) (nodes : List Node) (known : List Possible) : Type 0 where
  pub valid : AreValid inputs nodes
  pub folded : IsFolded nodes
  pub noted : known ≡ entries_of facts nodes
  pub possible : (p : ℕ) → p < length nodes → IsFact (entry_at facts nodes p)

-- at most one node is appended
abbrev pub Longer : List Node → List Node → Type 0
Longer old new = (new ≡ old) ⊎ ((node : Node) × (new ≡ old ++ node ∷ []))

-- nothing or x is appended
abbrev pub Extends : {X : Type 0} → List X → List X → X → Type 0
Extends old new x = (new ≡ old) ⊎ (new ≡ old ++ x ∷ [])

-- the node, with each argument past the arity replaced by the first
abbrev pub normalised : Node → Node
normalised (Input n) = Input n
normalised (Lit v) = Lit v
normalised (Do op a b c) = Do op a (if nat_lt (arity_of op) 2 then a else b) (if nat_lt (arity_of op) 3 then a else c)

-- the node is the opposite of node x
pub record IsOpposite (node : Node) (x : ℕ) : Type 0 where
  pub second : ℕ
  pub third : ℕ
  pub is : node ≡ Do Neg x second third

-- the branch that a choice with a literal condition takes
abbrev pub choice_of : Value → ℕ → ℕ → ℕ → ℕ
choice_of Undef a b c = a
choice_of Over a b c = a
choice_of (Num x) a b c = if is_zero x then c else b

-- whether a choice always takes its first branch, by the fact of its condition and whether its
-- branches are equal
abbrev pub is_decided : Possible → Bool → Bool
is_decided f same = is_number f && (same || lacks_zero f)
