-- The parts of a list, and the results of workers on them.
use Rattle.std.specs.Prelude.{◌≡◌, ℕ, ◌+◌, ◌*◌, ◌<◌, ◌≤◌, List, [], ◌∷◌, ◌++◌, length, take, drop, Result, Ok, Err, Vec, slice_index_or}
use Rattle.std.specs.declared.alloc.Global.{Global}
use denote.Ref.{Bor}
use denote.Param.Members.{Shared}

-- the part of at most `size` items that begins at a position
abbrev pub part_at : {X : Type 0} → List X → ℕ → ℕ → List X
part_at items size at = take size (drop at items)

-- a nonempty part that begins at this position, within the list
pub record IsPart {X : Type 0} (items : List X) (size at : ℕ) (part : List X) : Type 0 where
  pub value : part ≡ part_at items size at
  pub some : 0 < length part
  pub within : at + length part ≤ length items

module _ {F X R : Type 0} (g : Shared F (ℕ × (Bor (List X) × Unit {0})) R) (f : F) where
  -- f may be called with each part of a list and the position of its first item
  abbrev pub AcceptsParts : ℕ → List X → Type 0
  AcceptsParts size items = (at : ℕ) (lent : Bor (List X)) → IsPart items size at lent.now → g.pre f (at, (lent, tt))

  -- a result that f may return for this part, whose first item has this position
  abbrev pub MayGive : ℕ → List X → R → Type 0
  MayGive at part result = (lent : Bor (List X)) × (lent.now ≡ part) × g.post f (at, (lent, tt)) result

-- The results of the parts of a list, in the order of the parts. Each part has `size` items, and
-- the last one perhaps fewer. `gives` relates the position of a part's first item, the part and its
-- result.
pub record MadeOfParts {X U : Type 0} (gives : ℕ → List X → U → Type 0) (size : ℕ) (items : List X) (made : List U) : Type 0 where
  pub each : (n : ℕ) (d : U) → n < length made → gives (n * size) (part_at items size (n * size)) (slice_index_or made n d)
  pub inside : (n : ℕ) → n < length made → n * size < length items
  pub reach : length items ≤ length made * size

-- the same, part after part, where the list's first item has the position `at`
abbrev pub AreOfParts : {X U : Type 0} → (ℕ → List X → U → Type 0) → ℕ → ℕ → List X → List U → Type 0
AreOfParts gives size at items [] = items ≡ []
AreOfParts gives size at items (u ∷ made) = (0 < length items) × gives at (take size items) u × AreOfParts gives size (at + size) (drop size items) made

-- a list before the rest, or the error of the rest
abbrev pub behind : {U E : Type 0} → List U → Result (List U) E → Result (List U) E
behind first (Ok rest) = Ok (first ++ rest)
behind first (Err fault) = Err fault

-- the lists appended in order, or the error of the first that failed
abbrev pub joined : {U E : Type 0} → List (Result (Vec U Global) E) → Result (List U) E
joined [] = Ok []
joined (Err fault ∷ parts) = Err fault
joined (Ok part ∷ parts) = behind part.items (joined parts)

-- a result whose vector is seen as a list
abbrev pub all_items : {U E : Type 0} → Result (Vec U Global) E → Result (List U) E
all_items (Ok all) = Ok all.items
all_items (Err fault) = Err fault

-- the parts' results, joined
pub record IsJoined {X U E : Type 0} (gives : ℕ → List X → Result (Vec U Global) E → Type 0) (size : ℕ) (items : List X) (all : Result (List U) E) : Type 0
  where
    pub parts : List (Result (Vec U Global) E)
    pub made : MadeOfParts gives size items parts
    pub all_is : all ≡ joined parts
