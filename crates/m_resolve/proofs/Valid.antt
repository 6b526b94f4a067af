-- The base of expanded rules is valid.
use Rattle.std.proofs.Common.{◌≡◌, ◌≤◌, ◌<◌, ◌+◌, ℕ, ℤ, Bool, true, false, cond, List, [], ◌∷◌, ◌++◌, length, map, All, Option, None, Some, Result}
use Rattle.std.proofs.Common.{Ok, Err, refl, sym, ap, ◌∙◌, subst, arith, nat_eq, replicate, length-append}
use mathlib.Core.Bool.{◌||◌}
use Rattle.std.specs.List.{AllByRecursion, filter_map, cons_option}
use Rattle.std.proofs.lemmas.Bool.{eqb-true}
use Rattle.std.proofs.lemmas.List.{map_push, length-replicate}
use Rattle.std.proofs.lemmas.List.Elements.{All-nil, All-cons}
use Rattle.std.specs.Option.{ok_or, option_map_or}
use Rattle.m_places.specs.declared.place.Place.{Place}
use Rattle.m_fixed.specs.declared.operator.Op.TheVariants.{Or}
use Rattle.m_ast.specs.Syntax.{Syntax, lit, named, the_x, cell, apply, chain, among, loop, Terms, no_terms, a_term, Links, no_links, a_link, Members}
use Rattle.m_ast.specs.Syntax.{no_members, a_member}
use Rattle.m_ast.specs.Items.{cells_in, size_in, variable_size, variable_cells}
use Rattle.m_ast.specs.declared.variable.VariableItem.{VariableItem}
use Rattle.m_ast.specs.declared.variable.Role.{Role}
use Rattle.m_ast.specs.declared.variable.Role.TheVariants.{Input, Computed, Constant}
use Rattle.m_symbols.specs.declared.variable.Variable.{Variable}
use Rattle.m_symbols.specs.Declarations.{Declared, owners_from, placed_from}
use Rattle.micro_m.specs.Trees.{Tree, lit as lit_tree, cell as cell_tree, pick, apply as apply_tree, chain as chain_tree}
use Rattle.micro_m.specs.Views.{trees_of, steps_of}
use Rattle.micro_m.specs.declared.term.Step.{Step}
use Rattle.micro_m.specs.Bases.{Definition as CellDefinition, is_among, AreDistinctCells, IsWithin, AreWithin, StepsAreWithin, IsValidBase}
use Rattle.micro_m.specs.Failures.{Check}
use Rattle.micro_m.proofs.NumberLemmas.{AreDistinct-push}
use Rattle.m_symbols.specs.Cells.{variable_named}
use Rattle.m_symbols.specs.Placed.{IsPlaced, items_of}
use Rattle.m_symbols.proofs.Placing.{placed_ends}
use Rattle.m_ast.specs.Members.{is_single}
use Rattle.m_ast.specs.declared.plain_rules.Plain.{Plain}
use Rattle.m_ast.specs.declared.plain_rules.Definition.{Definition}
use Rattle.m_ast.specs.declared.plain_rules.Condition.{Condition}
use Rattle.m_resolve.specs.Terms.{if_resolved, resolved_cell, resolved_table, member_by, any_of}
use Rattle.m_resolve.specs.Terms.{membership, resolved_term, resolved_terms, resolved_links, resolved_members}
use Rattle.m_resolve.specs.Bases.{resolved_target, new_target, cells_of, resolved_definition, resolved_definitions, Checks, with_condition, resolved_conditions}
use Rattle.m_resolve.specs.Bases.{resolved_label, error_named, constant_in, constants_of, base_with}
use Rattle.m_resolve.specs.declared.fault.ResolveFault.{ResolveFault}
use Rattle.m_resolve.specs.declared.fault.ResolveFault.TheVariants.{UnknownName, NotATable, IsATable}
use Rattle.m_resolve.proofs.TargetLemmas.{named_at, resolved_target_within}

-- ---- results

-- if the whole is resolved, so is the first part
pub resolved_by : {A B : Type 0} (next : A → Result B ResolveFault) (r : Result A ResolveFault) (b : B) → if_resolved next r ≡ Ok b
    → (a : A) × (r ≡ Ok a) × (next a ≡ Ok b)
resolved_by next (Ok a) b e = (a, refl, e)
resolved_by next (Err fault) b e = absurd (cc)

value_of_ok : {A : Type 0} (a b : A) → ◌≡◌ {A = Result A ResolveFault} (Ok a) (Ok b) → a ≡ b
value_of_ok a b e = cc

all_push : {X : Type 0} (P : X → Type 0) (xs : List X) (x : X) → AllByRecursion P xs → P x → AllByRecursion P (xs ++ x ∷ [])
all_push P [] x h p = (p, tt)
all_push P (y ∷ ys) x h p = (h.0, all_push P ys x h.1 p)

all_of : {X : Type 0} (P : X → Type 0) (xs : List X) → AllByRecursion P xs → All P xs
all_of P [] h = All-nil P
all_of P (x ∷ xs) h = All-cons P x xs h.0 (all_of P xs h.1)

-- ---- names

option_cases : {X : Type 0} (o : Option X) {P : Type 0} → (o ≡ None → P) → ((x : X) → o ≡ Some x → P) → P
option_cases None n s = n refl
option_cases (Some x) n s = s x refl

-- the cell and the table of a name, given its variable
abbrev whole_cell : List ℕ → Place → ℕ → Option ℕ → Result ℕ ResolveFault
whole_cell name place first size = option_map_or (λ size. Err (IsATable name place)) size (Ok first)

abbrev cell_of_variable : List ℕ → Place → Option Variable → Result ℕ ResolveFault
cell_of_variable name place o = if_resolved (λ v. whole_cell name place v.first_cell (variable_size v.item)) (ok_or o (UnknownName name place))

abbrev table_cells : List ℕ → Place → ℕ → Option ℕ → Result (ℕ × ℕ) ResolveFault
table_cells name place first size = option_map_or (λ size. Ok (first, size)) size (Err (NotATable name place))

abbrev table_of_variable : List ℕ → Place → Option Variable → Result (ℕ × ℕ) ResolveFault
table_of_variable name place o = if_resolved (λ v. table_cells name place v.first_cell (variable_size v.item)) (ok_or o (UnknownName name place))

whole_known : (name : List ℕ) (place : Place) (first cells all c : ℕ) (size : Option ℕ) → cells ≡ cells_in size → first + cells ≤ all
    → whole_cell name place first size ≡ Ok c → c < all
whole_known name place first cells all c None e h w = let s = value_of_ok first c w in omega (arith, e, h, s)
whole_known name place first cells all c (Some size) e h w = absurd (cc)

cell_known : (d : Declared) (name : List ℕ) (place : Place) (c : ℕ) → IsPlaced d → resolved_cell d name place ≡ Ok c → c < length (owners_from 0 d.variables)
cell_known d name place c p e = option_cases (variable_named d name)
    (λ (none : variable_named d name ≡ None). let s = sym (ap (cell_of_variable name place) none) ∙ e in absurd (cc))
    (λ (v : Variable) (some : variable_named d name ≡ Some v).
    let at = named_at d name v some in
    let m = placed_ends d at.0 v p at.1 in
    whole_known name place v.first_cell v.cells (length (owners_from 0 d.variables)) c (variable_size v.item) m.cells (omega (arith, m.ends))
    (sym (ap (cell_of_variable name place) some) ∙ e))

table_ends : (name : List ℕ) (place : Place) (first cells all : ℕ) (t : ℕ × ℕ) (size : Option ℕ) → cells ≡ cells_in size → first + cells ≤ all
    → table_cells name place first size ≡ Ok t → t.0 + t.1 ≤ all
table_ends name place first cells all t None e h w = absurd (cc)
table_ends name place first cells all t (Some size) e h w = let s = value_of_ok (first, size) t w in omega
    (arith, e, h, ap (λ (q : ℕ × ℕ). q.0) s, ap (λ (q : ℕ × ℕ). q.1) s)

table_known : (d : Declared) (name : List ℕ) (place : Place) (t : ℕ × ℕ) → IsPlaced d → resolved_table d name place ≡ Ok t
    → t.0 + t.1 ≤ length (owners_from 0 d.variables)
table_known d name place t p e = option_cases (variable_named d name)
    (λ (none : variable_named d name ≡ None). let s = sym (ap (table_of_variable name place) none) ∙ e in absurd (cc))
    (λ (v : Variable) (some : variable_named d name ≡ Some v).
    let at = named_at d name v some in
    let m = placed_ends d at.0 v p at.1 in
    table_ends name place v.first_cell v.cells (length (owners_from 0 d.variables)) t (variable_size v.item) m.cells (omega (arith, m.ends))
    (sym (ap (table_of_variable name place) some) ∙ e))

-- ---- terms

trees_within : (n : ℕ) (ts : List Tree) → AllByRecursion (IsWithin n) ts → AreWithin n (trees_of ts)
trees_within n [] h = tt
trees_within n (t ∷ ts) h = (h.0, trees_within n ts h.1)

abbrev StepIsWithin : ℕ → Step ℕ → Type 0
StepIsWithin n s = IsWithin n s.term

steps_within : (n : ℕ) (ss : List (Step ℕ)) → AllByRecursion (StepIsWithin n) ss → StepsAreWithin n (steps_of ss)
steps_within n [] h = tt
steps_within n (s ∷ ss) h = (h.0, steps_within n ss h.1)

member_within : (n : ℕ) (single : Bool) (x low high : Tree) → IsWithin n x → IsWithin n low → IsWithin n high → IsWithin n (member_by single x low high)
member_within n true x low high a b c = (a, (b, tt))
member_within n false x low high a b c = ((a, (b, tt)), ((a, (c, tt)), tt))

any_within : (n : ℕ) (members : List (Step ℕ)) → AllByRecursion (StepIsWithin n) members → IsWithin n (any_of members)
any_within n [] h = tt
any_within n (m ∷ []) h = h.0
any_within n (m ∷ s ∷ rest) h = (h.0, steps_within n (s ∷ rest) h.1)

membership_within : (n : ℕ) (negated : Bool) (members : List (Step ℕ)) → AllByRecursion (StepIsWithin n) members → IsWithin n (membership negated members)
membership_within n false members h = any_within n members h
membership_within n true members h = (any_within n members h, tt)

mutual
  term_within : (d : Declared) (s : Syntax) (t : Tree) → IsPlaced d → resolved_term d s ≡ Ok t → IsWithin (length (owners_from 0 d.variables)) t
  term_within d (lit value) t p e = subst (IsWithin (length (owners_from 0 d.variables))) (value_of_ok (lit_tree value) t e) tt
  term_within d (named name place) t p e =
      let k = resolved_by (λ c. Ok (cell_tree c)) (resolved_cell d name place) t e in
      subst (IsWithin (length (owners_from 0 d.variables))) (value_of_ok (cell_tree k.0) t k.2) (cell_known d name place k.0 p k.1)
  term_within d (the_x place) t p e = absurd (cc)
  term_within d (cell name index place) t p e =
      let k = resolved_by (λ (table : ℕ × ℕ). if_resolved (λ i. Ok (pick table.0 table.1 i)) (resolved_term d index)) (resolved_table d name place) t e in
      let m = resolved_by (λ i. Ok (pick k.0.0 k.0.1 i)) (resolved_term d index) t k.2 in
      subst (IsWithin (length (owners_from 0 d.variables))) (value_of_ok (pick k.0.0 k.0.1 m.0) t m.2)
      (table_known d name place k.0 p k.1, term_within d index m.0 p m.1)
  term_within d (apply op all) t p e =
      let k = resolved_by (λ arguments. Ok (apply_tree op (trees_of arguments))) (resolved_terms d [] all) t e in
      subst (IsWithin (length (owners_from 0 d.variables))) (value_of_ok (apply_tree op (trees_of k.0)) t k.2)
      (trees_within _ k.0 (terms_within d [] all k.0 p tt k.1))
  term_within d (chain first links) t p e =
      let k = resolved_by (λ f. if_resolved (λ steps. Ok (chain_tree f (steps_of steps))) (resolved_links d [] links)) (resolved_term d first) t e in
      let m = resolved_by (λ steps. Ok (chain_tree k.0 (steps_of steps))) (resolved_links d [] links) t k.2 in
      subst (IsWithin (length (owners_from 0 d.variables))) (value_of_ok (chain_tree k.0 (steps_of m.0)) t m.2)
      (term_within d first k.0 p k.1, steps_within _ m.0 (links_within d [] links m.0 p tt m.1))
  term_within d (among negated x all) t p e =
      let k = resolved_by (λ y. if_resolved (λ members. Ok (membership negated members)) (resolved_members d y [] all)) (resolved_term d x) t e in
      let m = resolved_by (λ members. Ok (membership negated members)) (resolved_members d k.0 [] all) t k.2 in
      subst (IsWithin (length (owners_from 0 d.variables))) (value_of_ok (membership negated m.0) t m.2)
      (membership_within _ negated m.0 (members_within d k.0 [] all m.0 p (term_within d x k.0 p k.1) tt m.1))
  term_within d (loop header body) t p e = let s = value_of_ok _ t e in subst (IsWithin (length (owners_from 0 d.variables))) s tt

  terms_within : (d : Declared) (before : List Tree) (all : Terms) (ts : List Tree) → IsPlaced d
      → AllByRecursion (IsWithin (length (owners_from 0 d.variables))) before → resolved_terms d before all ≡ Ok ts
      → AllByRecursion (IsWithin (length (owners_from 0 d.variables))) ts
  terms_within d before no_terms ts p h e = subst (AllByRecursion (IsWithin (length (owners_from 0 d.variables)))) (value_of_ok before ts e) h
  terms_within d before (a_term a rest) ts p h e =
      let k = resolved_by (λ t. resolved_terms d (before ++ t ∷ []) rest) (resolved_term d a) ts e in
      terms_within d (before ++ k.0 ∷ []) rest ts p (all_push _ before k.0 h (term_within d a k.0 p k.1)) k.2

  links_within : (d : Declared) (before : List (Step ℕ)) (all : Links) (ss : List (Step ℕ)) → IsPlaced d
      → AllByRecursion (StepIsWithin (length (owners_from 0 d.variables))) before → resolved_links d before all ≡ Ok ss
      → AllByRecursion (StepIsWithin (length (owners_from 0 d.variables))) ss
  links_within d before no_links ss p h e = subst (AllByRecursion (StepIsWithin (length (owners_from 0 d.variables)))) (value_of_ok before ss e) h
  links_within d before (a_link op a rest) ss p h e =
      let k = resolved_by (λ t. resolved_links d (before ++ record { op = op; term = t } ∷ []) rest) (resolved_term d a) ss e in
      links_within d (before ++ record { op = op; term = k.0 } ∷ []) rest ss p
      (all_push _ before (record { op = op; term = k.0 }) h (term_within d a k.0 p k.1)) k.2

  members_within : (d : Declared) (x : Tree) (before : List (Step ℕ)) (all : Members) (ss : List (Step ℕ)) → IsPlaced d
      → IsWithin (length (owners_from 0 d.variables)) x → AllByRecursion (StepIsWithin (length (owners_from 0 d.variables))) before
      → resolved_members d x before all ≡ Ok ss → AllByRecursion (StepIsWithin (length (owners_from 0 d.variables))) ss
  members_within d x before no_members ss p i h e = subst (AllByRecursion (StepIsWithin (length (owners_from 0 d.variables)))) (value_of_ok before ss e) h
  members_within d x before (a_member low high rest) ss p i h e =
      let k = resolved_by (λ m. resolved_members d x (before ++ record { op = Or; term = m } ∷ []) rest)
      (if_resolved (λ l. if_resolved (λ g. Ok (member_by (is_single low high) x l g)) (resolved_term d high)) (resolved_term d low)) ss e in
      let a = resolved_by (λ l. if_resolved (λ g. Ok (member_by (is_single low high) x l g)) (resolved_term d high)) (resolved_term d low) k.0 k.1 in
      let b = resolved_by (λ g. Ok (member_by (is_single low high) x a.0 g)) (resolved_term d high) k.0 a.2 in
      let w = subst (IsWithin (length (owners_from 0 d.variables))) (value_of_ok (member_by (is_single low high) x a.0 b.0) k.0 b.2)
      (member_within _ (is_single low high) x a.0 b.0 i (term_within d low a.0 p a.1) (term_within d high b.0 p b.1)) in
      members_within d x (before ++ record { op = Or; term = k.0 } ∷ []) rest ss p i (all_push _ before (record { op = Or; term = k.0 }) h w) k.2

-- ---- definitions

differs : (a b : ℕ) → (a ≡ b → ⊥) → nat_eq a b ≡ false
differs a b n = by_test (nat_eq a b) refl
  where
    by_test : (t : Bool) → nat_eq a b ≡ t → nat_eq a b ≡ false
    by_test true e = absurd (n (eqb-true a b e))
    by_test false e = e

or_none : (a b : Bool) → a ≡ false → b ≡ false → (a || b) ≡ false
or_none a b e f = ap (λ c. c || b) e ∙ f

abbrev DefinitionIsWithin : ℕ → CellDefinition → Type 0
DefinitionIsWithin n d = (d.0 < n) × IsWithin n d.1

not_taken : (b : Bool) (c made : ℕ) (fault : ResolveFault) → cond b (Err fault) (Ok c) ≡ Ok made → (b ≡ false) × (c ≡ made)
not_taken true c made fault e = absurd (cc)
not_taken false c made fault e = (refl, value_of_ok c made e)

definition_within : (d : Declared) (before : List CellDefinition) (definition : Definition) (made : CellDefinition) → IsPlaced d
    → resolved_definition d before definition ≡ Ok made
    → DefinitionIsWithin (length (owners_from 0 d.variables)) made × (is_among made.0 (cells_of before) ≡ false)
definition_within d before definition made p e =
    let k = resolved_by (λ cell. if_resolved (λ tree. Ok (cell, tree, definition.place)) (resolved_term d definition.term))
    (if_resolved (new_target d definition.place (cells_of before)) (resolved_target d definition)) made e in
    let m = resolved_by (new_target d definition.place (cells_of before)) (resolved_target d definition) k.0 k.1 in
    let t = resolved_by (λ tree. Ok (k.0, tree, definition.place)) (resolved_term d definition.term) made k.2 in
    let n = not_taken (is_among m.0 (cells_of before)) m.0 k.0 _ m.2 in
    let w = resolved_target_within d definition m.0 p m.1 in
    subst (λ (x : CellDefinition). DefinitionIsWithin (length (owners_from 0 d.variables)) x × (is_among x.0 (cells_of before) ≡ false))
    (value_of_ok (k.0, t.0, definition.place) made t.2) (
      (subst (λ c. c < length (owners_from 0 d.variables)) n.1 w, term_within d definition.term t.0 p t.1),
      subst (λ c. is_among c (cells_of before) ≡ false) n.1
          n.0,
    )

definitions_within : (d : Declared) (before : List CellDefinition) (all : List Definition) (made : List CellDefinition) → IsPlaced d
    → AllByRecursion (DefinitionIsWithin (length (owners_from 0 d.variables))) before
    → AreDistinctCells (cells_of before) → resolved_definitions d before all ≡ Ok made
    → AllByRecursion (DefinitionIsWithin (length (owners_from 0 d.variables))) made × AreDistinctCells (cells_of made)
definitions_within d before [] made p h u e =
    subst (λ (l : List CellDefinition). AllByRecursion (DefinitionIsWithin (length (owners_from 0 d.variables))) l × AreDistinctCells (cells_of l))
    (value_of_ok before made e) (h, u)
definitions_within d before (x ∷ all) made p h u e =
    let k = resolved_by (λ stated. resolved_definitions d (before ++ stated ∷ []) all) (resolved_definition d before x) made e in
    let w = definition_within d before x k.0 p k.1 in
    definitions_within d (before ++ k.0 ∷ []) all made p (all_push _ before k.0 h w.0)
    (subst AreDistinctCells (sym (map_push (λ (y : CellDefinition). y.0) before k.0)) (AreDistinct-push (cells_of before) k.0.0 u w.1)) k.2

targets_within : (n : ℕ) (ds : List CellDefinition) → AllByRecursion (DefinitionIsWithin n) ds
    → AllByRecursion (λ c. c < n) (map (λ (d : CellDefinition). d.0) ds)
targets_within n [] h = tt
targets_within n (d ∷ ds) h = (h.0.0, targets_within n ds h.1)

bodies_within : (n : ℕ) (ds : List CellDefinition) → AllByRecursion (DefinitionIsWithin n) ds
    → AllByRecursion (IsWithin n) (map (λ (d : CellDefinition). d.1) ds)
bodies_within n [] h = tt
bodies_within n (d ∷ ds) h = (h.0.1, bodies_within n ds h.1)

-- ---- checks

abbrev CheckIsWithin : ℕ → ℕ → Check → Type 0
CheckIsWithin n labels c = IsWithin n c.0 × (c.1 < labels)

more_labels : (n k : ℕ) (cs : List Check) → AllByRecursion (CheckIsWithin n k) cs → AllByRecursion (CheckIsWithin n (k + 1)) cs
more_labels n k [] h = tt
more_labels n k (c ∷ cs) h = ((h.0.0, omega (arith, h.0.1)), more_labels n k cs h.1)

conditions_within : (d : Declared) (before : Checks) (all : List Condition) (made : Checks) → IsPlaced d
    → AllByRecursion (CheckIsWithin (length (owners_from 0 d.variables)) (length before.1)) before.0
    → resolved_conditions d before all ≡ Ok made → AllByRecursion (CheckIsWithin (length (owners_from 0 d.variables)) (length made.1)) made.0
conditions_within d before [] made p h e =
    subst (λ (m : Checks). AllByRecursion (CheckIsWithin (length (owners_from 0 d.variables)) (length m.1)) m.0) (value_of_ok before made e) h
conditions_within d before (x ∷ all) made p h e =
    let k = resolved_by (λ stated. resolved_conditions d stated all) (with_condition d before x) made e in
    let t = resolved_by (λ tree. if_resolved (λ label. Ok (before.0 ++ (tree, length before.1, x.place) ∷ [], before.1 ++ label ∷ []))
    (resolved_label x (error_named d x.error))) (resolved_term d x.term) k.0 k.1 in
    let l = resolved_by (λ label. Ok (before.0 ++ (t.0, length before.1, x.place) ∷ [], before.1 ++ label ∷ [])) (resolved_label x (error_named d x.error)) k.0
    t.2 in
    let long : length (before.1 ++ l.0 ∷ []) ≡ length before.1 + 1 = length-append before.1 (l.0 ∷ []) in
    let w = subst (λ n. AllByRecursion (CheckIsWithin (length (owners_from 0 d.variables)) n) (before.0 ++ (t.0, length before.1, x.place) ∷ [])) (sym long)
    (all_push _ before.0 (t.0, length before.1, x.place) (more_labels _ (length before.1) before.0 h) (term_within d x.term t.0 p t.1, omega arith)) in
    conditions_within d k.0 all made p (subst (λ (m : Checks). AllByRecursion (CheckIsWithin (length (owners_from 0 d.variables)) (length m.1)) m.0)
    (value_of_ok (before.0 ++ (t.0, length before.1, x.place) ∷ [], before.1 ++ l.0 ∷ []) k.0 l.2) w) k.2

terms_of_checks : (n k : ℕ) (cs : List Check) → AllByRecursion (CheckIsWithin n k) cs → AllByRecursion (λ (c : Check). IsWithin n c.0) cs
terms_of_checks n k [] h = tt
terms_of_checks n k (c ∷ cs) h = (h.0.0, terms_of_checks n k cs h.1)

labels_of_checks : (n k : ℕ) (cs : List Check) → AllByRecursion (CheckIsWithin n k) cs → AllByRecursion (λ (c : Check). c.1 < k) cs
labels_of_checks n k [] h = tt
labels_of_checks n k (c ∷ cs) h = (h.0.1, labels_of_checks n k cs h.1)

-- ---- constants

abbrev constants_in : List Variable → List (ℕ × ℤ)
constants_in vs = filter_map (λ (v : Variable). constant_in v.first_cell v.item.role) vs

abbrev Between : ℕ → ℕ → ℕ × ℤ → Type 0
Between from to c = (from ≤ c.0) × (c.0 < to)

wider : (a b from to : ℕ) (cs : List (ℕ × ℤ)) → a ≤ from → to ≤ b → AllByRecursion (Between from to) cs → AllByRecursion (Between a b) cs
wider a b from to [] h k w = tt
wider a b from to (c ∷ cs) h k w = ((omega (arith, h, w.0.0), omega (arith, k, w.0.1)), wider a b from to cs h k w.1)

not_below : (f from to : ℕ) (cs : List (ℕ × ℤ)) → f < from → AllByRecursion (Between from to) cs → is_among f (map (λ (c : ℕ × ℤ). c.0) cs) ≡ false
not_below f from to [] h w = refl
not_below f from to (c ∷ cs) h w =
    let l = w.0.0 in or_none (nat_eq f c.0) (is_among f (map (λ (x : ℕ × ℤ). x.0) cs)) (differs f c.0 (λ e. absurd (omega (arith, e, h, l))))
    (not_below f from to cs h w.1)

abbrev AreConstants : ℕ → ℕ → List (ℕ × ℤ) → Type 0
AreConstants from to cs = AllByRecursion (Between from to) cs × AreDistinctCells (map (λ (c : ℕ × ℤ). c.0) cs)

one_more : (r : Role) (f cells to : ℕ) (cs : List (ℕ × ℤ)) → cells ≡ cells_in (size_in r) → f + cells ≤ to → AreConstants (f + cells) to cs
    → AreConstants f to (cons_option (constant_in f r) cs)
one_more (Input code) f cells to cs e h w = (wider f to (f + cells) to cs (omega arith) (omega arith) w.0, w.1)
one_more (Computed size) f cells to cs e h w = (wider f to (f + cells) to cs (omega arith) (omega arith) w.0, w.1)
one_more (Constant amount) f cells to cs e h w = (
  ((omega arith, omega (arith, e, h)), wider f to (f + cells) to cs (omega arith) (omega arith) w.0),
  (not_below f (f + cells) to cs (omega (arith, e)) w.0, w.1),
)

constants_placed : (items : List VariableItem) (f number : ℕ)
    → AreConstants f (f + length (owners_from number (placed_from f items))) (constants_in (placed_from f items))
constants_placed [] f number = (tt, tt)
constants_placed (item ∷ items) f number =
    let cells = variable_cells item in
    let rest = owners_from (number + 1) (placed_from (f + cells) items) in
    let n = length-append (replicate cells number) rest in
    let r = length-replicate cells number in
    let long : f + cells + length rest ≡ f + length (replicate cells number ++ rest) = omega (arith, n, r) in
    one_more item.role f cells _ (constants_in (placed_from (f + cells) items)) refl (omega (arith, n, r))
    (subst (λ k. AreConstants (f + cells) k (constants_in (placed_from (f + cells) items))) long (constants_placed items (f + cells) (number + 1)))

below : (n : ℕ) (cs : List (ℕ × ℤ)) → AllByRecursion (Between 0 (0 + n)) cs → AllByRecursion (λ (c : ℕ × ℤ). c.0 < n) cs
below n [] h = tt
below n (c ∷ cs) h = let l = h.0.1 in (omega (arith, l), below n cs h.1)

constants_of_declared : (d : Declared) → IsPlaced d → AreConstants 0 (0 + length (owners_from 0 d.variables)) (constants_of d)
constants_of_declared d p = subst (λ (l : List Variable). AreConstants 0 (0 + length (owners_from 0 l)) (constants_in l)) (sym p)
    (constants_placed (items_of d.variables) 0 0)

-- ---- the base

made_valid : (d : Declared) (ds : List CellDefinition) (checks : Checks) → IsPlaced d → AllByRecursion (DefinitionIsWithin (length (owners_from 0 d.variables)))
    ds × AreDistinctCells (cells_of ds)
    → AllByRecursion (CheckIsWithin (length (owners_from 0 d.variables)) (length checks.1)) checks.0 → IsValidBase (base_with d ds checks)
made_valid d ds checks p w k =
    let n = length (owners_from 0 d.variables) in
    let c = constants_of_declared d p in
    record {
      constants = all_of _ (constants_of d) (below n (constants_of d) c.0);
      targets = all_of _ _ (targets_within n ds w.0);
      terms = all_of _ _ (bodies_within n ds w.0);
      conditions = all_of _ checks.0 (terms_of_checks n (length checks.1) checks.0 k);
      labels = all_of _ checks.0 (labels_of_checks n (length checks.1) checks.0 k);
      defined_once = w.1;
      constant_once = c.1;
    }

pub resolved_valid : (d : Declared) (plain : Plain) (ds : List CellDefinition) (checks : Checks) → IsPlaced d
    → resolved_definitions d [] plain.definitions ≡ Ok ds → resolved_conditions d ([], []) plain.conditions ≡ Ok checks
    → IsValidBase (base_with d ds checks)
resolved_valid d plain ds checks p e f = made_valid d ds checks p (definitions_within d [] plain.definitions ds p tt tt e)
    (conditions_within d ([], []) plain.conditions checks p tt f)
