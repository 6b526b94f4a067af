-- Lists of numbers in ascending order.
use Rattle.std.specs.Prelude.{ℕ, ◌+◌, ◌≤◌, ◌==◌, nat_le, List, [], ◌∷◌, if◌then◌else◌}

-- inserts a number into an ascending list
abbrev pub placed : ℕ → List ℕ → List ℕ
placed n [] = n ∷ []
placed n (m ∷ ms) = if nat_le n m then n ∷ m ∷ ms else m ∷ placed n ms

-- The numbers in ascending order: 3, 1, 3 becomes 1, 3, 3.
abbrev pub ascending : List ℕ → List ℕ
ascending [] = []
ascending (n ∷ ns) = placed n (ascending ns)

-- how many times a number occurs in a list
abbrev pub times : ℕ → List ℕ → ℕ
times c [] = 0
times c (n ∷ ns) = (if c == n then 1 else 0) + times c ns

-- each number is at least the one before it, and the first at least this
abbrev pub Ascends : ℕ → List ℕ → Type 0
Ascends least [] = Unit {0}
Ascends least (n ∷ ns) = (least ≤ n) × Ascends n ns
