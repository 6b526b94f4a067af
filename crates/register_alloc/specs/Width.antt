-- The width of a flat program: the greatest number of nodes that must be held at once.
use Rattle.std.specs.Prelude.{◌≡◌, ◌<◌, ◌≤◌, ℕ, zero, suc, ◌+◌, ◌==◌, nat_lt, nat_le, max, Bool, true, false, slice_index_or, ◌&&◌, ◌||◌, List, [], ◌∷◌, length}
use Rattle.std.specs.Prelude.{drop}
use Rattle.std.specs.List.{list_any, sum_by}
use Rattle.m_fixed.specs.Operators.{arity_of}
use Rattle.flat_code.specs.declared.program.Node.{Node}
use Rattle.flat_code.specs.declared.program.Node.TheVariants.{Do}
use Rattle.flat_code.specs.declared.program.Check.{Check}
use Rattle.flat_code.specs.declared.program.Flat.{Flat}

-- whether a node reads node x
abbrev pub reads : ℕ → Node → Bool
reads x (Do op a b c) = (a == x) || ((b == x) || (c == x))
reads x _ = false

-- whether a check reads node x
abbrev pub check_reads : ℕ → Check → Bool
check_reads x check = (check.guard == x) || (check.condition == x)

-- the greatest of m, the guard and the condition of a check
abbrev pub later : ℕ → Check → ℕ
later m check = max m (max check.guard check.condition)

-- The moment of check j, the node after which it can be done: the greatest of m and the guards and
-- conditions of checks 0 to j.
abbrev pub moment_from : ℕ → List Check → ℕ → ℕ
moment_from m [] j = m
moment_from m (check ∷ checks) zero = later m check
moment_from m (check ∷ checks) (suc j) = moment_from (later m check) checks j

-- whether node x is read by a check whose moment is at least p; m is the moment of the check before
-- the first
abbrev pub read_late : ℕ → ℕ → ℕ → List Check → Bool
read_late p x m [] = false
read_late p x m (check ∷ checks) = (nat_le p (later m check) && check_reads x check) || read_late p x (later m check) checks

-- Whether node x is held at node p: it is p, or it is below p and is read by a node above p or by a
-- check whose moment is at least p.
abbrev pub is_held : Flat → ℕ → ℕ → Bool
is_held flat p x = (x == p) || (nat_lt x p && (list_any (reads x) (drop (suc p) flat.nodes) || read_late p x 0 flat.checks))

abbrev pub one_if : Bool → ℕ
one_if true = 1
one_if false = 0

-- how many numbers below n pass a test
abbrev pub count_below : (ℕ → Bool) → ℕ → ℕ
count_below test zero = 0
count_below test (suc n) = one_if (test n) + count_below test n

-- the greatest number of nodes held at one of the first n nodes
abbrev pub width_below : Flat → ℕ → ℕ
width_below flat zero = 0
width_below flat (suc p) = max (count_below (is_held flat p) (length flat.nodes)) (width_below flat p)

-- The greatest number of nodes held at one node; 0 for a program without nodes. For two inputs and
-- their sum, read by an output, it is 2: at the second input both inputs are held, at the sum only
-- the sum.
abbrev pub width_of : Flat → ℕ
width_of flat = width_below flat (length flat.nodes)

-- how often a node reads node x by arguments within the arity
abbrev pub reads_by : ℕ → Node → ℕ
reads_by x (Do op a b c) = one_if (a == x) + (one_if (nat_lt 1 (arity_of op) && (b == x)) + one_if (nat_lt 2 (arity_of op) && (c == x)))
reads_by x _ = 0

-- how often a check reads node x
abbrev pub tests_by : ℕ → Check → ℕ
tests_by x check = one_if (check.guard == x) + one_if (check.condition == x)

-- how often arguments within the arity, guards and conditions read node x
abbrev pub reads_of : ℕ → Flat → ℕ
reads_of x flat = sum_by (reads_by x) flat.nodes + sum_by (tests_by x) flat.checks
