-- The effect of a call that appends instances to a list and counts their parts, or its error.
use Rattle.std.specs.Prelude.{◌≡◌, ℕ, ◌+◌, ◌*◌, ◌<◌, ◌≤◌, List, ◌++◌, length, Option, None}
use Rattle.m_places.specs.declared.limits.TheConstants.{PARTS}
use Rattle.m_places.specs.declared.place.Place.{Place}
use Rattle.index_expand.specs.declared.fault.ExpandFault.{ExpandFault}
use Rattle.index_expand.specs.declared.fault.ExpandFault.TheVariants.{TooManyParts}

-- new is old with these appended, and their parts were added to those before, at most 2,000,000 in
-- all
pub record IsTaken {A : Type 0} (old new : List A) (these : List A) (parts before after : ℕ) : Type 0 where
  pub list : new ≡ old ++ these
  pub sum : after ≡ before + parts
  pub few : after ≤ PARTS

-- this many more parts are too many, and the fault has the place of the item
pub record IsTooMuch (parts before : ℕ) (item : Place) (fault : ExpandFault) : Type 0 where
  pub reported : fault ≡ TooManyParts item
  pub many : PARTS < before + parts

-- the parts of instances of equal weight
abbrev pub weighed : {A : Type 0} → List A → ℕ → ℕ
weighed these weight = length these * weight

-- the definitions and conditions of items were appended, and there is no fault
pub record AreTaken {A B : Type 0} (old new these : List A) (before after those : List B) (fault : Option ExpandFault) : Type 0 where
  pub definitions : new ≡ old ++ these
  pub conditions : after ≡ before ++ those
  pub none : fault ≡ None
