-- A driver whose names resolve has its numbers in range.
use Rattle.std.proofs.Common.{◌≡◌, ◌≤◌, ◌<◌, ◌+◌, ◌^◌, ℕ, ℤ, suc, Bool, true, false, cond, nat_lt, List, [], ◌∷◌, ◌++◌, length, map, length-append, All, Option}
use Rattle.std.proofs.Common.{None, Some, Result, Ok, Err, refl, ap, ◌∙◌, subst, arith, slice_get}
use Rattle.std.specs.Prelude.{◌&&◌, codes, ◌==◌}
use Rattle.std.specs.List.{AllByRecursion, flat_map}
use Rattle.std.specs.Option.{ok_or, option_and_then, option_map_or, option_map}
use Rattle.std.specs.Str.{bytes_eq}
use Rattle.std.proofs.lemmas.Bool.{ltb-true}
use Rattle.std.proofs.lemmas.List.{length-map}
use Rattle.std.proofs.lemmas.List.Elements.{All-nil, All-cons}
use Rattle.m_names.specs.Names.{index_of}
use Rattle.m_ast.specs.declared.variable.Role.{Role}
use Rattle.m_ast.specs.declared.variable.Role.TheVariants.{Input, Computed, Constant}
use Rattle.m_ast.specs.Items.{cells_in, size_in, is_input, variable_cells, variable_size}
use Rattle.m_symbols.specs.declared.variable.Variable.{Variable}
use Rattle.m_symbols.specs.Declarations.{Declared, owners_from}
use Rattle.m_symbols.specs.Kinds.{is_of_kind, is_one_of, last_value}
use Rattle.m_symbols.specs.Cells.{variable_named}
use Rattle.m_symbols.specs.Placed.{IsPlaced}
use Rattle.m_symbols.proofs.Placing.{placed_ends}
use Rattle.mpp_parser.specs.Trees.{Term, lit, named, apply, chain, exists, Terms, no_terms, a_term, Links, no_links, a_link}
use Rattle.mpp_parser.specs.Commands.{Act, set, del, when, partition, call, Acts, no_acts, an_act}
use Rattle.mpp_parser.specs.CommandView.{block_of as acts_of}
use Rattle.mpp_parser.specs.declared.term.CellName.{CellName}
use Rattle.mpp_parser.specs.declared.term.Kind.{Kind}
use Rattle.mpp_parser.specs.declared.term.Kind.TheVariants.{Attribute}
use Rattle.mpp_parser.specs.declared.command.Function.{Function}
use Rattle.mpp_parser.specs.declared.command.Driver.{Driver}
use Rattle.driver_core.specs.declared.program.Core.{Core}
use Rattle.micro_m.specs.Bases.{IsWithin, AreWithin, StepsAreWithin}
use Rattle.micro_m.specs.Trees.{Tree, lit as lit_tree, cell as cell_tree, apply as apply_tree, chain as chain_tree}
use Rattle.micro_m.specs.Views.{trees_of, steps_of}
use Rattle.micro_m.specs.declared.term.Step.{Step}
use Rattle.driver_core.specs.Kinds.{of_kind}
use Rattle.driver_core.specs.Leaves.{then_present, any_present}
use Rattle.driver_core.specs.Actions.{Action, assign, clear, branch, partition as partition_action, call as call_action, solve}
use Rattle.driver_core.specs.ActionView.{block_of}
use Rattle.driver_core.specs.Valid.{ActionIsWithin, BlockIsWithin, IsInRange}
use Rattle.mpp_core.specs.declared.fault.CoreFault.{CoreFault}
use Rattle.mpp_core.specs.declared.fault.CoreFault.TheVariants.{FunctionTwice, BadTargetInDriver}
use Rattle.mpp_core.specs.Names.{if_resolved, cell_at, resolved_cell, is_a_constant, resolved_target}
use Rattle.mpp_core.specs.Names.{resolved_each, with_cell, each_once, kind_cells, resolved_name, resolved_names}
use Rattle.mpp_core.specs.Names.{resolved_main, resolved_function, rules_name}
use Rattle.mpp_core.specs.Bodies.{resolved_term, resolved_terms, resolved_links, resolved_call, resolved_act, resolved_acts}
use Rattle.mpp_core.specs.Cores.{core_of}
use Rattle.mpp_core.proofs.NameLemmas.{named_at}

-- ---- results

resolved_by : {A B : Type 0} (next : A → Result B CoreFault) (r : Result A CoreFault) (b : B) → if_resolved next r ≡ Ok b
    → (a : A) × (r ≡ Ok a) × (next a ≡ Ok b)
resolved_by next (Ok a) b e = (a, refl, e)
resolved_by next (Err fault) b e = absurd (cc)

value_of_ok : {A : Type 0} (a b : A) → ◌≡◌ {A = Result A CoreFault} (Ok a) (Ok b) → a ≡ b
value_of_ok a b e = cc

option_cases : {X : Type 0} (o : Option X) {P : Type 0} → (o ≡ None → P) → ((x : X) → o ≡ Some x → P) → P
option_cases None n s = n refl
option_cases (Some x) n s = s x refl

all_push : {X : Type 0} (P : X → Type 0) (xs : List X) (x : X) → AllByRecursion P xs → P x → AllByRecursion P (xs ++ x ∷ [])
all_push P [] x h p = (p, tt)
all_push P (y ∷ ys) x h p = (h.0, all_push P ys x h.1 p)

all_of : {X : Type 0} (P : X → Type 0) (xs : List X) → AllByRecursion P xs → All P xs
all_of P [] h = All-nil P
all_of P (x ∷ xs) h = All-cons P x xs h.0 (all_of P xs h.1)

-- ---- cells

in_table : (first size k c all : ℕ) (b : Bool) → nat_lt k size ≡ b → first + size ≤ all → cond b (Some (first + k)) None ≡ Some c → c < all
in_table first size k c all true t h e = let s : first + k ≡ c = cc in omega (arith, h, ltb-true k size t, s)
in_table first size k c all false t h e = absurd (cc)

at_within : (first cells all c : ℕ) (index size : Option ℕ) → cells ≡ cells_in size → first + cells ≤ all → cell_at first index size ≡ Some c → c < all
at_within first cells all c None None e h s = let k : first ≡ c = cc in omega (arith, e, h, k)
at_within first cells all c None (Some size) e h s = absurd (cc)
at_within first cells all c (Some k) None e h s = absurd (cc)
at_within first cells all c (Some k) (Some size) e h s = in_table first size k c all (nat_lt k size) refl (omega (arith, e, h)) s

given_by : {A : Type 0} (o : Option A) (fault : CoreFault) (a : A) → ok_or o fault ≡ Ok a → o ≡ Some a
given_by None fault a e = absurd (cc)
given_by (Some b) fault a e = ap Some (value_of_ok b a e)

cell_within : (d : Declared) (line c : ℕ) (cell : CellName) → IsPlaced d → resolved_cell d line cell ≡ Ok c → c < length (owners_from 0 d.variables)
cell_within d line c cell p e = by_variable (variable_named d cell.name) refl (given_by _ _ c e)
  where
    by_variable : (o : Option Variable) → variable_named d cell.name ≡ o
        → option_and_then (λ v. cell_at v.first_cell cell.index (variable_size v.item)) o ≡ Some c → c < length (owners_from 0 d.variables)
    by_variable None n s = absurd (cc)
    by_variable (Some v) n s =
        let at = named_at d cell.name v n in
        let m = placed_ends d at.0 v p at.1 in
        at_within v.first_cell v.cells (length (owners_from 0 d.variables)) c cell.index (variable_size v.item) m.cells (omega (arith, m.ends)) s

no_constant : (is : Bool) (fault : CoreFault) (a c : ℕ) → cond is (Err fault) (Ok a) ≡ Ok c → a ≡ c
no_constant true fault a c e = absurd (cc)
no_constant false fault a c e = value_of_ok a c e

target_within : (d : Declared) (line c : ℕ) (cell : CellName) → IsPlaced d → resolved_target d line cell ≡ Ok c → c < length (owners_from 0 d.variables)
target_within d line c cell p e =
    let constant = is_a_constant (variable_named d cell.name) in
    let k = resolved_by (λ a. cond constant (Err (BadTargetInDriver cell.name line)) (Ok a)) (resolved_cell d line cell) c e in
    cell_within d line c cell p (k.1 ∙ ap Ok (no_constant constant _ k.0 c k.2))

targets_within : (d : Declared) (line : ℕ) (before : List ℕ) (cells : List CellName) (stated : List ℕ) → IsPlaced d
    → AllByRecursion (λ c. c < length (owners_from 0 d.variables)) before
    → resolved_each (resolved_target d line) before cells ≡ Ok stated → AllByRecursion (λ c. c < length (owners_from 0 d.variables)) stated
targets_within d line before [] stated p h e = subst (AllByRecursion (λ c. c < length (owners_from 0 d.variables))) (value_of_ok before stated e) h
targets_within d line before (cell ∷ cells) stated p h e =
    let k = resolved_by (λ c. resolved_each (resolved_target d line) (before ++ c ∷ []) cells) (resolved_target d line cell) stated e in
    targets_within d line (before ++ k.0 ∷ []) cells stated p (all_push _ before k.0 h (target_within d line k.0 cell p k.1)) k.2

put_within : (n c d : ℕ) (ds : List ℕ) (less same : Bool) → c < n → d < n → AllByRecursion (λ x. x < n) ds → AllByRecursion (λ x. x < n) (with_cell c ds)
    → AllByRecursion (λ x. x < n) (cond less (c ∷ d ∷ ds) (cond same (d ∷ ds) (d ∷ with_cell c ds)))
put_within n c d ds true same h k a b = (h, (k, a))
put_within n c d ds false true h k a b = (k, a)
put_within n c d ds false false h k a b = (k, b)

with_within : (n c : ℕ) (ds : List ℕ) → c < n → AllByRecursion (λ x. x < n) ds → AllByRecursion (λ x. x < n) (with_cell c ds)
with_within n c [] h a = (h, tt)
with_within n c (d ∷ ds) h a = put_within n c d ds (nat_lt c d) (c == d) h a.0 a.1 (with_within n c ds h a.1)

once_within : (n : ℕ) (cs : List ℕ) → AllByRecursion (λ x. x < n) cs → AllByRecursion (λ x. x < n) (each_once cs)
once_within n [] a = tt
once_within n (c ∷ cs) a = with_within n c (each_once cs) a.0 (once_within n cs a.1)

-- ---- kinds

-- a variable's cells are below a count
abbrev IsWithinCount : ℕ → Variable → Type 0
IsWithinCount n v = (v.cells ≡ variable_cells v.item) × (v.first_cell + v.cells ≤ n)

from_each : {X : Type 0} (P : X → Type 0) (xs : List X) → ((i : ℕ) (x : X) → slice_get xs i ≡ Some x → P x) → AllByRecursion P xs
from_each P [] h = tt
from_each P (x ∷ xs) h = (h 0 x refl, from_each P xs (λ i y e. h (suc i) y e))

all_stand : (d : Declared) → IsPlaced d → AllByRecursion (IsWithinCount (length (owners_from 0 d.variables))) d.variables
all_stand d p = from_each (IsWithinCount (length (owners_from 0 d.variables))) d.variables
    (λ i v e. let m = placed_ends d i v p e in (m.cells, omega (arith, m.ends)))

both : (a b : Bool) → (a && b) ≡ true → a ≡ true
both true b e = refl
both false b e = absurd (cc)

input_cells : (role : Role) → is_input role ≡ true → cells_in (size_in role) ≡ 1
input_cells (Input code) e = refl
input_cells (Computed size) e = absurd (cc)
input_cells (Constant amount) e = absurd (cc)

one_within : (n cell : ℕ) (b : Bool) (rest : List ℕ) → (b ≡ true → cell < n) → AllByRecursion (λ c. c < n) rest
    → AllByRecursion (λ c. c < n) (cond b (cell ∷ []) [] ++ rest)
one_within n cell true rest h a = (h refl, a)
one_within n cell false rest h a = a

kinds_within : (n : ℕ) (attribute : List ℕ) (values : List ℤ) (vs : List Variable) → AllByRecursion (IsWithinCount n) vs
    → AllByRecursion (λ c. c < n) (flat_map (of_kind attribute values) vs)
kinds_within n attribute values [] h = tt
kinds_within n attribute values (v ∷ vs) h =
    one_within n v.first_cell (is_of_kind v attribute values) (flat_map (of_kind attribute values) vs)
    (λ e. let one = input_cells v.item.role (both (is_input v.item.role) (is_one_of (last_value attribute v.item.pairs) values) e) in
    let cells = h.0.0 in let room = h.0.1 in omega (arith, one, cells, room))
    (kinds_within n attribute values vs h.1)

kind_within : (d : Declared) (kind : Kind) → IsPlaced d → AllByRecursion (λ c. c < length (owners_from 0 d.variables)) (kind_cells d kind)
kind_within d (Attribute attribute values) p = kinds_within (length (owners_from 0 d.variables)) attribute values d.variables (all_stand d p)

-- ---- terms

trees_within : (n : ℕ) (ts : List Tree) → AllByRecursion (IsWithin n) ts → AreWithin n (trees_of ts)
trees_within n [] h = tt
trees_within n (t ∷ ts) h = (h.0, trees_within n ts h.1)

abbrev StepIsWithin : ℕ → Step ℕ → Type 0
StepIsWithin n s = IsWithin n s.term

steps_within : (n : ℕ) (ss : List (Step ℕ)) → AllByRecursion (StepIsWithin n) ss → StepsAreWithin n (steps_of ss)
steps_within n [] h = tt
steps_within n (s ∷ ss) h = (h.0, steps_within n ss h.1)

then_within : (n : ℕ) (cs : List ℕ) → AllByRecursion (λ c. c < n) cs → StepsAreWithin n (then_present cs)
then_within n [] h = (tt, tt)
then_within n (c ∷ cs) h = (h.0, then_within n cs h.1)

present_within : (n : ℕ) (cs : List ℕ) → AllByRecursion (λ c. c < n) cs → IsWithin n (any_present cs)
present_within n [] h = tt
present_within n (c ∷ cs) h = (h.0, then_within n cs h.1)

mutual
  term_within : (d : Declared) (line : ℕ) (s : Term) (t : Tree) → IsPlaced d → resolved_term d line s ≡ Ok t
      → IsWithin (length (owners_from 0 d.variables)) t
  term_within d line (lit value) t p e = subst (IsWithin (length (owners_from 0 d.variables))) (value_of_ok (lit_tree value) t e) tt
  term_within d line (named cell) t p e =
      let k = resolved_by (λ c. Ok (cell_tree c)) (resolved_cell d line cell) t e in
      subst (IsWithin (length (owners_from 0 d.variables))) (value_of_ok (cell_tree k.0) t k.2) (cell_within d line k.0 cell p k.1)
  term_within d line (apply op all) t p e =
      let k = resolved_by (λ arguments. Ok (apply_tree op (trees_of arguments))) (resolved_terms d line [] all) t e in
      subst (IsWithin (length (owners_from 0 d.variables))) (value_of_ok (apply_tree op (trees_of k.0)) t k.2)
      (trees_within _ k.0 (terms_within d line [] all k.0 p tt k.1))
  term_within d line (chain first links) t p e =
      let k = resolved_by (λ f. if_resolved (λ steps. Ok (chain_tree f (steps_of steps))) (resolved_links d line [] links)) (resolved_term d line first) t
      e in
      let m = resolved_by (λ steps. Ok (chain_tree k.0 (steps_of steps))) (resolved_links d line [] links) t k.2 in
      subst (IsWithin (length (owners_from 0 d.variables))) (value_of_ok (chain_tree k.0 (steps_of m.0)) t m.2)
      (term_within d line first k.0 p k.1, steps_within _ m.0 (links_within d line [] links m.0 p tt m.1))
  term_within d line (exists kind) t p e =
      subst (IsWithin (length (owners_from 0 d.variables))) (value_of_ok (any_present (kind_cells d kind)) t e)
      (present_within (length (owners_from 0 d.variables)) (kind_cells d kind) (kind_within d kind p))

  terms_within : (d : Declared) (line : ℕ) (before : List Tree) (all : Terms) (ts : List Tree) → IsPlaced d
      → AllByRecursion (IsWithin (length (owners_from 0 d.variables))) before
      → resolved_terms d line before all ≡ Ok ts → AllByRecursion (IsWithin (length (owners_from 0 d.variables))) ts
  terms_within d line before no_terms ts p h e = subst (AllByRecursion (IsWithin (length (owners_from 0 d.variables)))) (value_of_ok before ts e) h
  terms_within d line before (a_term a rest) ts p h e =
      let k = resolved_by (λ t. resolved_terms d line (before ++ t ∷ []) rest) (resolved_term d line a) ts e in
      terms_within d line (before ++ k.0 ∷ []) rest ts p (all_push _ before k.0 h (term_within d line a k.0 p k.1)) k.2

  links_within : (d : Declared) (line : ℕ) (before : List (Step ℕ)) (all : Links) (ss : List (Step ℕ)) → IsPlaced d
      → AllByRecursion (StepIsWithin (length (owners_from 0 d.variables))) before
      → resolved_links d line before all ≡ Ok ss → AllByRecursion (StepIsWithin (length (owners_from 0 d.variables))) ss
  links_within d line before no_links ss p h e = subst (AllByRecursion (StepIsWithin (length (owners_from 0 d.variables)))) (value_of_ok before ss e) h
  links_within d line before (a_link op a rest) ss p h e =
      let k = resolved_by (λ t. resolved_links d line (before ++ record { op = op; term = t } ∷ []) rest) (resolved_term d line a) ss e in
      links_within d line (before ++ record { op = op; term = k.0 } ∷ []) rest ss p
      (all_push _ before (record { op = op; term = k.0 }) h (term_within d line a k.0 p k.1)) k.2

-- ---- functions

index_by : (b : Bool) (o : Option ℕ) (n i : ℕ) → ((j : ℕ) → o ≡ Some j → j < n) → cond b (Some 0) (option_map (λ j. j + 1) o) ≡ Some i → i < suc n
index_by true o n i h e = let z : 0 ≡ i = cc in omega arith
index_by false None n i h e = absurd (cc)
index_by false (Some j) n i h e = let z : j + 1 ≡ i = cc in omega (arith, h j refl)

index_within : (name : List ℕ) (names : List (List ℕ)) (i : ℕ) → index_of name names ≡ Some i → i < length names
index_within name [] i e = absurd (cc)
index_within name (n ∷ ns) i e = index_by (bytes_eq name n) (index_of name ns) (length ns) i (index_within name ns) e

number_within : (o : Option ℕ) (fault : CoreFault) (n f : ℕ) → ((j : ℕ) → o ≡ Some j → j < n) → option_map_or (λ j. Ok j) o (Err fault) ≡ Ok f → f < n
number_within None fault n f h e = absurd (cc)
number_within (Some j) fault n f h e = subst (λ k. k < n) (value_of_ok j f e) (h j refl)

-- ---- commands

call_by : (n functions line f : ℕ) (received : List ℕ) (action : Action) → AllByRecursion (λ c. c < n) received → f < functions
    → ◌≡◌ {A = Result Action CoreFault} (Ok (call_action line (length received) (each_once received) f)) (Ok action) → ActionIsWithin n functions action
call_by n functions line f received action h k e =
    subst (ActionIsWithin n functions) (value_of_ok _ action e) (all_of (λ c. c < n) (each_once received) (once_within n received h), k)

call_cases : (n line : ℕ) (names : List (List ℕ)) (name received : List ℕ) (action : Action) (b : Bool) → AllByRecursion (λ c. c < n) received
    → cond b (Ok (solve line (length received) (each_once received))) (if_resolved (λ f. Ok (call_action line (length received) (each_once received) f))
    (resolved_function names line name)) ≡ Ok action
    → ActionIsWithin n (length names) action
call_cases n line names name received action true h e = subst (ActionIsWithin n (length names)) (value_of_ok _ action e)
    (all_of (λ c. c < n) (each_once received) (once_within n received h))
call_cases n line names name received action false h e =
    let k = resolved_by (λ f. Ok (call_action line (length received) (each_once received) f)) (resolved_function names line name) action e in
    call_by n (length names) line k.0 received action h (number_within (index_of name names) _ (length names) k.0 (index_within name names) k.1) k.2

block_within : (n functions : ℕ) (actions : List Action) → AllByRecursion (ActionIsWithin n functions) actions → BlockIsWithin n functions (block_of actions)
block_within n functions [] h = tt
block_within n functions (a ∷ rest) h = (h.0, block_within n functions rest h.1)

mutual
  act_within : (d : Declared) (names : List (List ℕ)) (a : Act) (action : Action) → IsPlaced d → resolved_act d names a ≡ Ok action
      → ActionIsWithin (length (owners_from 0 d.variables)) (length names) action
  act_within d names (set line c term) action p e =
      let k = resolved_by (λ cell. if_resolved (λ t. Ok (assign line cell t)) (resolved_term d line term)) (resolved_target d line c) action e in
      let m = resolved_by (λ t. Ok (assign line k.0 t)) (resolved_term d line term) action k.2 in
      subst (ActionIsWithin (length (owners_from 0 d.variables)) (length names)) (value_of_ok (assign line k.0 m.0) action m.2)
      (target_within d line k.0 c p k.1, term_within d line term m.0 p m.1)
  act_within d names (del line c) action p e =
      let k = resolved_by (λ cell. Ok (clear line cell)) (resolved_target d line c) action e in
      subst (ActionIsWithin (length (owners_from 0 d.variables)) (length names)) (value_of_ok (clear line k.0) action k.2) (target_within d line k.0 c p k.1)
  act_within d names (when line condition first second) action p e =
      let k = resolved_by (λ t. if_resolved (λ a. if_resolved (λ b. Ok (branch line t (block_of a) (block_of b))) (resolved_acts d names [] second))
      (resolved_acts d names [] first)) (resolved_term d line condition) action e in
      let m = resolved_by (λ a. if_resolved (λ b. Ok (branch line k.0 (block_of a) (block_of b))) (resolved_acts d names [] second))
      (resolved_acts d names [] first) action k.2 in
      let q = resolved_by (λ b. Ok (branch line k.0 (block_of m.0) (block_of b))) (resolved_acts d names [] second) action m.2 in
      subst (ActionIsWithin (length (owners_from 0 d.variables)) (length names)) (value_of_ok (branch line k.0 (block_of m.0) (block_of q.0)) action q.2) (
        term_within d line condition k.0 p k.1,
        block_within _ _ m.0 (acts_within d names [] first m.0 p tt m.1),
        block_within _ _ q.0
            (acts_within d names [] second q.0 p tt q.1),
      )
  act_within d names (partition line kind block) action p e =
      let k = resolved_by (λ a. Ok (partition_action line (kind_cells d kind) (block_of a))) (resolved_acts d names [] block) action e in
      subst (ActionIsWithin (length (owners_from 0 d.variables)) (length names)) (value_of_ok (partition_action line (kind_cells d kind) (block_of k.0)) action
      k.2) (
        all_of (λ c. c < length (owners_from 0 d.variables)) (kind_cells d kind) (kind_within d kind p),
        block_within _ _ k.0
            (acts_within d names [] block k.0 p tt k.1),
      )
  act_within d names (call line cs name) action p e =
      let k = resolved_by (resolved_call names line name) (resolved_each (resolved_target d line) [] cs) action e in
      call_cases (length (owners_from 0 d.variables)) line names name k.0 action (bytes_eq name rules_name) (targets_within d line [] cs k.0 p tt k.1) k.2

  acts_within : (d : Declared) (names : List (List ℕ)) (before : List Action) (all : Acts) (stated : List Action) → IsPlaced d
      → AllByRecursion (ActionIsWithin (length (owners_from 0 d.variables)) (length names)) before → resolved_acts d names before all ≡ Ok stated
      → AllByRecursion (ActionIsWithin (length (owners_from 0 d.variables)) (length names)) stated
  acts_within d names before no_acts stated p h e = subst (AllByRecursion (ActionIsWithin (length (owners_from 0 d.variables)) (length names)))
      (value_of_ok before stated e) h
  acts_within d names before (an_act a rest) stated p h e =
      let k = resolved_by (λ action. resolved_acts d names (before ++ action ∷ []) rest) (resolved_act d names a) stated e in
      acts_within d names (before ++ k.0 ∷ []) rest stated p (all_push _ before k.0 h (act_within d names a k.0 p k.1)) k.2

-- ---- whole drivers

-- the body of a function, and its name
abbrev stated_body : Declared → List (List ℕ) → Function → Result (List Action) CoreFault
stated_body d names f = resolved_acts d names [] (acts_of f.body)

abbrev name_in : Function → List ℕ
name_in f = f.name

abbrev BodyIsWithin : ℕ → ℕ → List Action → Type 0
BodyIsWithin n functions commands = BlockIsWithin n functions (block_of commands)

bodies_within : (d : Declared) (names : List (List ℕ)) (before : List (List Action)) (fs : List Function) (bodies : List (List Action)) → IsPlaced d
    → AllByRecursion (BodyIsWithin (length (owners_from 0 d.variables)) (length names)) before → resolved_each (stated_body d names) before fs ≡ Ok bodies
    → AllByRecursion (BodyIsWithin (length (owners_from 0 d.variables)) (length names)) bodies
bodies_within d names before [] bodies p h e = subst (AllByRecursion (BodyIsWithin (length (owners_from 0 d.variables)) (length names)))
    (value_of_ok before bodies e) h
bodies_within d names before (f ∷ fs) bodies p h e =
    let k = resolved_by (λ body. resolved_each (stated_body d names) (before ++ body ∷ []) fs) (resolved_acts d names [] (acts_of f.body)) bodies e in
    bodies_within d names (before ++ k.0 ∷ []) fs bodies p
    (all_push _ before k.0 h (block_within _ _ k.0 (acts_within d names [] (acts_of f.body) k.0 p tt k.1))) k.2

bodies_count : (d : Declared) (names : List (List ℕ)) (before : List (List Action)) (fs : List Function) (bodies : List (List Action))
    → resolved_each (stated_body d names) before fs ≡ Ok bodies
    → length bodies ≡ length before + length fs
bodies_count d names before [] bodies e = let s = ap length (value_of_ok before bodies e) in omega (arith, s)
bodies_count d names before (f ∷ fs) bodies e =
    let k = resolved_by (λ body. resolved_each (stated_body d names) (before ++ body ∷ []) fs) (resolved_acts d names [] (acts_of f.body)) bodies e in
    omega (arith, bodies_count d names (before ++ k.0 ∷ []) fs bodies k.2, length-append before (k.0 ∷ []))

name_count : (b : Bool) (fault : CoreFault) (before stated : List (List ℕ)) (name : List ℕ) → cond b (Err fault) (Ok (before ++ name ∷ [])) ≡ Ok stated
    → length stated ≡ length before + 1
name_count true fault before stated name e = absurd (cc)
name_count false fault before stated name e = let s = ap length (value_of_ok (before ++ name ∷ []) stated e) in omega
    (arith, s, length-append before (name ∷ []))

names_count : (before : List (List ℕ)) (fs : List Function) (names : List (List ℕ)) → resolved_names before fs ≡ Ok names
    → length names ≡ length before + length fs
names_count before [] names e = let s = ap length (value_of_ok before names e) in omega (arith, s)
names_count before (f ∷ fs) names e =
    let k = resolved_by (λ stated. resolved_names stated fs) (resolved_name before f) names e in
    omega (arith, names_count k.0 fs names k.2, name_count _ (FunctionTwice f.name f.line) before k.0 f.name k.1)

-- a number that counts the functions counts their names
pub few_names : (fs : List Function) (names : List (List ℕ)) → resolved_names [] fs ≡ Ok names → length fs < 2 ^ 32 → length names < 2 ^ 32
few_names fs names e few = omega (arith, names_count [] fs names e, few)

-- a driver whose names resolve has its numbers in range
pub core_in_range : (driver : Driver) (d : Declared) (core : Core) → IsPlaced d → core_of driver d ≡ Ok core → IsInRange core
core_in_range driver d core p e =
    let cells = length (owners_from 0 d.variables) in
    let k = resolved_by (λ names. if_resolved
    (λ main. if_resolved (λ bodies. Ok (record { cells = cells; names = map name_in driver.functions; bodies = bodies; main = main }))
    (resolved_each (stated_body d names) [] driver.functions)) (resolved_main names)) (resolved_names [] driver.functions) core e in
    let m = resolved_by (λ main. if_resolved (λ bodies. Ok (record { cells = cells; names = map name_in driver.functions; bodies = bodies; main = main }))
    (resolved_each (stated_body d k.0) [] driver.functions)) (resolved_main k.0) core k.2 in
    let b = resolved_by (λ bodies. Ok (record { cells = cells; names = map name_in driver.functions; bodies = bodies; main = m.0 }))
    (resolved_each (stated_body d k.0) [] driver.functions) core m.2 in
    let count = bodies_count d k.0 [] driver.functions b.0 b.1 in
    let named = names_count [] driver.functions k.0 k.1 in
    let same : length k.0 ≡ length b.0 = omega (arith, count, named) in
    let main = number_within (index_of (codes "main") k.0) _ (length k.0) m.0 (index_within (codes "main") k.0) m.1 in
    subst IsInRange (value_of_ok _ core b.2) (record {
      names = omega (arith, count, length-map driver.functions name_in);
      main = omega (arith, main, same);
      bodies = all_of (BodyIsWithin cells (length b.0)) b.0
          (subst (λ n. AllByRecursion (BodyIsWithin cells n) b.0) same (bodies_within d k.0 [] driver.functions b.0 p tt b.1));
    })

-- there are as many names as functions
pub functions_count : (driver : Driver) (d : Declared) (core : Core) (names : List (List ℕ)) → core_of driver d ≡ Ok core
    → resolved_names [] driver.functions ≡ Ok names → length names ≡ length core.bodies
functions_count driver d core names e stated =
    let cells = length (owners_from 0 d.variables) in
    let k = resolved_by (λ names. if_resolved
    (λ main. if_resolved (λ bodies. Ok (record { cells = cells; names = map name_in driver.functions; bodies = bodies; main = main }))
    (resolved_each (stated_body d names) [] driver.functions)) (resolved_main names)) (resolved_names [] driver.functions) core e in
    let m = resolved_by (λ main. if_resolved (λ bodies. Ok (record { cells = cells; names = map name_in driver.functions; bodies = bodies; main = main }))
    (resolved_each (stated_body d k.0) [] driver.functions)) (resolved_main k.0) core k.2 in
    let b = resolved_by (λ bodies. Ok (record { cells = cells; names = map name_in driver.functions; bodies = bodies; main = m.0 }))
    (resolved_each (stated_body d k.0) [] driver.functions) core m.2 in
    let count = bodies_count d k.0 [] driver.functions b.0 b.1 in
    let named = names_count [] driver.functions names stated in
    let same : length names ≡ length b.0 = omega (arith, count, named) in
    subst (λ (c : Core). length names ≡ length c.bodies) (value_of_ok _ core b.2) same
