-- A formula with more instances than the maximal number of parts has too many parts.
use Rattle.std.proofs.Common.{◌≡◌, ◌≢◌, ℕ, zero, suc, ◌+◌, ◌*◌, ◌<◌, ◌≤◌, Bool, true, false, cond, List, [], ◌∷◌, length, length-append, Option, Some, None}
use Rattle.std.proofs.Common.{refl, min, arith}
use Rattle.std.specs.Prelude.{All}
use Rattle.std.specs.List.{flat_map}
use Rattle.std.specs.Str.{bytes_eq}
use Rattle.std.proofs.lemmas.List.Elements.{All-head, All-tail}
use Rattle.std.proofs.lemmas.List.FromFn.{length-map-range_with_len}
use Rattle.m_places.specs.declared.limits.TheConstants.{PARTS}
use Rattle.m_places.specs.declared.place.Place.{Place}
use Rattle.m_ast.specs.Items.{variable_size}
use Rattle.m_ast.specs.declared.item.Formula.{Formula}
use Rattle.m_ast.specs.declared.item.Slot.{Slot}
use Rattle.m_ast.specs.declared.item.Slot.TheVariants.{Whole, Cell, Every}
use Rattle.m_symbols.specs.declared.variable.Variable.{Variable}
use Rattle.m_symbols.specs.Declarations.{Declared}
use Rattle.m_symbols.specs.TableSizes.{HasACell, TablesHaveCells, size_among, table_size}
use Rattle.loop_values.specs.Letters.{Letters, no_letters, replaced}
use Rattle.loop_values.specs.Headers.{instances, instance_count, all_indexes}
use Rattle.loop_values.proofs.Counts.{length_instances}
use Rattle.index_expand.specs.declared.fault.ExpandFault.{ExpandFault}
use Rattle.index_expand.specs.declared.fault.ExpandFault.TheVariants.{TooManyParts}
use Rattle.index_expand.specs.Expansion.{defined_cell, each_cell, definitions_at, formula_definitions}
use Rattle.index_expand.specs.Faults.{formula_parts}
use Rattle.index_expand.specs.Parts.{parts}
use Rattle.index_expand.specs.inner.Taken.{IsTooMuch}

least_each : {A B : Type 0} (f : A → List B) (xs : List A) → ((x : A) → 1 ≤ length (f x)) → length xs ≤ length (flat_map f xs)
least_each f [] h = omega arith
least_each f (x ∷ xs) h = omega (arith, length-append (f x) (flat_map f xs), h x, least_each f xs h)

-- a declared table has a cell
either_not : (b : Bool) (x y : Option ℕ) → x ≢ Some 0 → y ≢ Some 0 → cond b x y ≢ Some 0
either_not true x y h k = h
either_not false x y h k = k

has_cell : (variables : List Variable) (name : List ℕ) → All HasACell variables → size_among variables name ≢ Some 0
has_cell [] name all = λ e. cc
has_cell (v ∷ vs) name all =
    either_not (bytes_eq name v.item.name) (variable_size v.item) (size_among vs name) (All-head HasACell v vs all)
    (has_cell vs name (All-tail HasACell v vs all))

some_cell : (formula : Formula) (letters : Letters) (size : Option ℕ) → size ≢ Some 0 → 1 ≤ length (each_cell formula letters size)
some_cell formula letters None h = omega arith
some_cell formula letters (Some zero) h = absurd (h refl)
some_cell formula letters (Some (suc n)) h = omega (arith, length-map-range_with_len (defined_cell formula letters) 0 (suc n))

-- each instance has a definition
a_definition : (declared : Declared) (formula : Formula) (slot : Slot) (letters : Letters) → TablesHaveCells declared
    → 1 ≤ length (definitions_at declared formula slot letters)
a_definition declared formula Whole letters tables = omega arith
a_definition declared formula (Cell k) letters tables = omega arith
a_definition declared formula Every letters tables =
    some_cell formula letters (table_size declared (replaced letters formula.target)) (has_cell declared.variables (replaced letters formula.target) tables)

at_least : (n p : ℕ) → n ≤ n * (p + 1)
at_least n p = omega arith

too_many : (declared : Declared) (formula : Formula) (item : Place) → PARTS < length (formula_definitions declared formula)
    → IsTooMuch (formula_parts declared formula) 0 item (TooManyParts item)
too_many declared formula item many = record {
  reported = refl;
  many = omega
      (arith, at_least (length (formula_definitions declared formula)) (parts formula.term));
}

counted : (formula : Formula) (n : ℕ) → n ≡ min (instance_count (all_indexes formula.loops)) (PARTS + 1) → PARTS < n
    → PARTS < length (instances (all_indexes formula.loops) no_letters)
counted formula n e h = omega (arith, length_instances (all_indexes formula.loops) no_letters)

pub refused : (declared : Declared) (formula : Formula) (item : Place) (n : ℕ) → TablesHaveCells declared
    → n ≡ min (instance_count (all_indexes formula.loops)) (PARTS + 1) → PARTS < n
    → IsTooMuch (formula_parts declared formula) 0 item (TooManyParts item)
refused declared formula item n tables e h =
    let bounds = instances (all_indexes formula.loops) no_letters in
    let least = least_each (definitions_at declared formula formula.slot) bounds (λ letters. a_definition declared formula formula.slot letters tables) in
    too_many declared formula item (omega (arith, counted formula n e h, least))

-- too many parts are too many after any others
pub later : (parts before : ℕ) (item : Place) (fault : ExpandFault) → IsTooMuch parts 0 item fault → IsTooMuch parts before item fault
later parts before item fault h = record { reported = h.reported; many = let m = h.many in omega arith }
