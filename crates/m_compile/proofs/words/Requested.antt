-- The requested cells are declared ones.
use Rattle.std.proofs.Common.{◌≡◌, ◌≤◌, ◌<◌, ◌+◌, ◌==◌, ℕ, zero, suc, Bool, true, false, cond, nat_lt, List, [], ◌∷◌, ◌++◌, length, Option, Some, None, Result}
use Rattle.std.proofs.Common.{Ok, Err, refl, subst, arith, slice_get}
use Rattle.std.specs.Prelude.{IfSome, codes}
use Rattle.std.specs.List.{AllByRecursion, flat_map, range_with_len}
use Rattle.std.specs.Option.{option_map_or, option_and_then}
use Rattle.m_places.specs.declared.limits.TheConstants.{REQUESTS}
use Rattle.m_text.specs.Lines.{lines_of}
use Rattle.m_names.specs.Names.{has, index_of}
use Rattle.m_ast.specs.Items.{variable_size}
use Rattle.m_symbols.specs.declared.variable.Variable.{Variable}
use Rattle.m_symbols.specs.Declarations.{Declared, names_of, owners_from}
use Rattle.m_symbols.specs.Cells.{cell_by, request_cell, returned_by, returned_cells, split_at_bracket}
use Rattle.m_symbols.specs.Placed.{IsPlaced}
use Rattle.m_symbols.specs.Requests.{parsed_lines, few, parsed_requests}
use Rattle.m_symbols.specs.declared.request_fault.RequestFault.{RequestFault}
use Rattle.m_symbols.specs.declared.request_fault.RequestFault.TheVariants.{BadRequest, TooManyRequests}
use Rattle.m_symbols.proofs.Placing.{placed_ends, known_by}
use Rattle.m_compile.proofs.words.Items.{all_append}

abbrev AreCells : Declared → List ℕ → Type 0
AreCells declared cells = AllByRecursion (λ c. c < length (owners_from 0 declared.variables)) cells

-- ---- lines

abbrev IsCell : Declared → Option ℕ → Type 0
IsCell declared cell = IfSome cell (λ c. c < length (owners_from 0 declared.variables))

at_variable : (declared : Declared) (i : ℕ) (index : Option (List ℕ)) (o : Option Variable) → IsPlaced declared → slice_get declared.variables i ≡ o
    → IsCell declared (option_and_then (λ (v : Variable). cell_by index (variable_size v.item) v.first_cell) o)
at_variable declared i index None p e = tt
at_variable declared i index (Some v) p e = known_by declared i v index _ p e refl

at_number : (declared : Declared) (index : Option (List ℕ)) (n : Option ℕ) → IsPlaced declared
    → IsCell declared (option_and_then (λ (v : Variable). cell_by index (variable_size v.item) v.first_cell) (option_and_then (slice_get declared.variables) n))
at_number declared index None p = tt
at_number declared index (Some i) p = at_variable declared i index (slice_get declared.variables i) p refl

request_known : (declared : Declared) (line : List ℕ) → IsPlaced declared → IsCell declared (request_cell declared line)
request_known declared line p = at_number declared (split_at_bracket line).1 (index_of (split_at_bracket line).0 (names_of declared.variables)) p

line_known : (declared : Declared) (number : ℕ) (before cells : List ℕ) (lines : List (List ℕ)) (o : Option ℕ) → IsCell declared o → AreCells declared before
    → ((more : List ℕ) → AreCells declared more → parsed_lines declared (number + 1) more lines ≡ Ok cells → AreCells declared cells)
    → option_map_or (λ cell. parsed_lines declared (number + 1) (before ++ cell ∷ []) lines) o (Err (BadRequest number)) ≡ Ok cells → AreCells declared cells
line_known declared number before cells lines None i b rest e = absurd (cc)
line_known declared number before cells lines (Some cell) i b rest e = rest (before ++ cell ∷ []) (all_append _ before (cell ∷ []) b (i, tt)) e

by : (declared : Declared) (number : ℕ) (before cells : List ℕ) (lines : List (List ℕ)) (o : Option ℕ) (empty : Bool) → IsCell declared o
    → AreCells declared before
    → ((more : List ℕ) → AreCells declared more → parsed_lines declared (number + 1) more lines ≡ Ok cells → AreCells declared cells)
    → cond empty (parsed_lines declared (number + 1) before lines) (option_map_or (λ cell. parsed_lines declared (number + 1) (before ++ cell ∷ []) lines) o
    (Err (BadRequest number))) ≡ Ok cells → AreCells declared cells
by declared number before cells lines o true i b rest e = rest before b e
by declared number before cells lines o false i b rest e = line_known declared number before cells lines o i b rest e

lines_known : (declared : Declared) (number : ℕ) (before cells : List ℕ) (lines : List (List ℕ)) → IsPlaced declared → AreCells declared before
    → parsed_lines declared number before lines ≡ Ok cells → AreCells declared cells
lines_known declared number before cells [] p b e = let same : before ≡ cells = cc in subst (AreCells declared) same b
lines_known declared number before cells (line ∷ lines) p b e =
    by declared number before cells lines (request_cell declared line) (length line == 0) (request_known declared line p) b
    (λ more m g. lines_known declared (number + 1) more cells lines p m g) e

-- ---- the cells that rules return

range_known : (first n most : ℕ) → first + n ≤ most → AllByRecursion (λ c. c < most) (range_with_len first n)
range_known first zero most h = tt
range_known first (suc n) most h = (omega (arith, h), range_known (first + 1) n most (omega (arith, h)))

variable_known : (v : Variable) (most : ℕ) (b : Bool) → v.first_cell + v.cells ≤ most
    → AllByRecursion (λ c. c < most) (cond b (range_with_len v.first_cell v.cells) [])
variable_known v most true h = range_known v.first_cell v.cells most h
variable_known v most false h = tt

returned_known : (most : ℕ) (vs : List Variable) → AllByRecursion (λ (v : Variable). v.first_cell + v.cells ≤ most) vs
    → AllByRecursion (λ c. c < most) (flat_map returned_by vs)
returned_known most [] a = tt
returned_known most (v ∷ vs) a = all_append _ (returned_by v) (flat_map returned_by vs) (variable_known v most (has (codes "restituee") v.item.words) a.0)
    (returned_known most vs a.1)

each : (P : Variable → Type 0) (vs : List Variable) → ((i : ℕ) (v : Variable) → slice_get vs i ≡ Some v → P v) → AllByRecursion P vs
each P [] h = tt
each P (v ∷ vs) h = (h 0 v refl, each P vs (λ i w e. h (suc i) w e))

all_returned_known : (declared : Declared) → IsPlaced declared → AreCells declared (returned_cells declared)
all_returned_known declared p =
    returned_known (length (owners_from 0 declared.variables)) declared.variables
    (each _ declared.variables (λ i v e. let k = placed_ends declared i v p e in omega (arith, k.ends)))

-- ---- requests

few_of : (all cells : List ℕ) (many : Bool) → cond many (Err TooManyRequests) (Ok all) ≡ Ok cells → all ≡ cells
few_of all cells true e = absurd (cc)
few_of all cells false e = cc

kept : (declared : Declared) (stated : Result (List ℕ) RequestFault) (cells : List ℕ) → ((all : List ℕ) → stated ≡ Ok all → AreCells declared all)
    → few stated ≡ Ok cells → AreCells declared cells
kept declared (Ok all) cells h e = subst (AreCells declared) (few_of all cells (nat_lt REQUESTS (length all)) e) (h all refl)
kept declared (Err fault) cells h e = absurd (cc)

pub requests_known : (declared : Declared) (given : Option (List ℕ)) (cells : List ℕ) → IsPlaced declared → parsed_requests given declared ≡ Ok cells
    → AllByRecursion (λ c. c < length (owners_from 0 declared.variables)) cells
requests_known declared None cells p e = kept declared (Ok (returned_cells declared)) cells
    (λ all f. let same : returned_cells declared ≡ all = cc in subst (AreCells declared) same (all_returned_known declared p)) e
requests_known declared (Some bytes) cells p e = kept declared (parsed_lines declared 1 [] (lines_of bytes)) cells
    (λ all f. lines_known declared 1 [] all (lines_of bytes) p tt f) e
