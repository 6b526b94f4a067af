-- Reading a list in order, where each element depends on those before it.
use Rattle.std.specs.Prelude.{◌≡◌, List, [], ◌∷◌, ◌++◌, Result, Ok, Err}

-- what is read after a value; a fault is passed on
abbrev pub if_read : {B C F : Type 0} → (B → Result C F) → Result B F → Result C F
if_read next (Ok value) = next value
if_read next (Err fault) = Err fault

-- Reads elements in order, each after the values of those before it: all values, or the fault of
-- the first faulty element. `before` are the values so far. If a number must be greater than all
-- before it, 3 and 5 are read as 3 and 5, and 5, 3 and 1 have the fault of 3.
abbrev pub in_turn : {A B F : Type 0} → (List B → A → Result B F) → List B → List A → Result (List B) F
in_turn read before [] = Ok before
in_turn read before (thing ∷ things) = if_read (λ value. in_turn read (before ++ value ∷ []) things) (read before thing)

-- The first fault of reading in order: the elements before it are read as `values` after `before`,
-- and after these it has the fault. What follows it can be anything.
pub record IsFirstFault {A B F : Type 0} (read : List B → A → Result B F) (before : List B) (things : List A) (fault : F) : Type 0 where
  pub front : List A
  pub thing : A
  pub behind : List A
  pub values : List B
  pub split : things ≡ front ++ thing ∷ behind
  pub good : in_turn read before front ≡ Ok values
  pub bad : read values thing ≡ Err fault
