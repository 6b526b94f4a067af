-- No declaration of the rule base of `large N` has a fault.
use Rattle.std.proofs.Common.{◌≡◌, ℕ, zero, suc, ◌+◌, ◌-◌, ◌≤◌, false, cond, List, [], ◌∷◌, ◌++◌, map, decimal, length, Option, Some, None, refl, sym, ap, ◌∙◌}
use Rattle.std.proofs.Common.{subst, append_assoc, append-nil, arith}
use Rattle.std.specs.Str.{bytes_eq}
use Rattle.std.specs.List.{filter_map}
use Rattle.std.proofs.lemmas.Bool.{le-ltb}
use Rattle.std.proofs.lemmas.List.{map-append}
use Rattle.std.proofs.lemmas.List.Elements.{filter_map-append}
use Rattle.std.specs.Option.{option_or}
use Rattle.m_places.specs.declared.place.Place.{Place}
use Rattle.m_names.specs.Names.{has}
use Rattle.m_names.proofs.NameLemmas.{or-false}
use Rattle.m_ast.specs.declared.item.Item.{Item}
use Rattle.m_ast.specs.declared.item.ErrorItem.{ErrorItem}
use Rattle.m_ast.specs.declared.variable.VariableItem.{VariableItem}
use Rattle.m_ast.specs.Items.{variable_in, error_in, variables_of, errors_of, variable_cells, variable_code}
use Rattle.m_symbols.specs.declared.variable.Variable.{Variable}
use Rattle.m_symbols.specs.declared.fault.DeclareFault.{DeclareFault}
use Rattle.m_symbols.specs.Declarations.{Declared, declared_by, placed_from, names_of, codes_of, owners_from}
use Rattle.m_symbols.specs.Faults.{paired_place, placed_name, placed_code, name_fault, code_fault, cells_fault, variable_fault, fault_at}
use Rattle.m_symbols.specs.Faults.{fault_behind, first_fault}
use Rattle.m_symbols.proofs.Faultless.{parts}
use Rattle.large_validity.proofs.Names.{names, input_name, new_input, new_second, new_code}
use Rattle.large_validity.proofs.Pieces.{after}
use Rattle.large_validity.proofs.Lines.{first_line, declared_after, rules_after, numbered_line}
use Rattle.large_validity.proofs.Items.{the_input, the_sum, input_item, sum_item, declared_items, rule_items, first_item, end_items, base_items}
use Rattle.large_validity.proofs.Variables.{sum_place, variable_items, cells_in_all, cells-append, cells_declared, length-owners, items_declared}
use Rattle.large_validity.proofs.Variables.{no_errors_declared, no_errors_ruled, names-placed, codes-placed, item_names, item_codes}

-- ---- one variable

beside-free : (n : List ℕ) (vs : List Variable) → has n (names_of vs) ≡ false → paired_place n (map placed_name vs) ≡ None
beside-free n [] h = refl
beside-free n (v ∷ vs) h =
    let k = or-false (bytes_eq n v.item.name) (has n (names_of vs)) h in
    ap (λ b. cond b (Some v.item.place) (paired_place n (map placed_name vs))) k.0 ∙ beside-free n vs k.1

code-free : (n : List ℕ) (vs : List Variable) → has n (codes_of vs) ≡ false → paired_place n (filter_map placed_code vs) ≡ None
code-free n [] h = refl
code-free n (v ∷ vs) h = by (code-free n vs) (variable_code v.item) refl
  where
    by : (has n (codes_of vs) ≡ false → paired_place n (filter_map placed_code vs) ≡ None) → (o : Option (List ℕ)) → variable_code v.item ≡ o
        → paired_place n (filter_map placed_code (v ∷ vs)) ≡ None
    by next None e = rw e (next (rw e at h))
    by next (Some c) e =
        let k = or-false (bytes_eq n c) (has n (codes_of vs)) (rw e at h) in
        rw e (ap (λ b. cond b (Some v.item.place) (paired_place n (filter_map placed_code vs))) k.0 ∙ next k.1)

abbrev with_variables : List VariableItem → List ErrorItem → Declared
with_variables vs es = record { variables = placed_from 0 vs; errors = es }

name_free : (vs : List VariableItem) (es : List ErrorItem) (v : VariableItem) → has v.name (map (λ (w : VariableItem). w.name) vs) ≡ false
    → name_fault (with_variables vs es) v ≡ None
name_free vs es v h = rw (beside-free v.name (placed_from 0 vs) (ap (has v.name) (names-placed 0 vs) ∙ h)) refl

cells_free : (vs : List VariableItem) (es : List ErrorItem) (v : VariableItem) → cells_in_all vs + variable_cells v ≤ 1000000
    → cells_fault (with_variables vs es) v ≡ None
cells_free vs es v h =
    let l = length-owners 0 0 vs in
    let few : length (owners_from 0 (placed_from 0 vs)) + variable_cells v ≤ 1000000 = omega arith in
    rw (le-ltb 1000000 (length (owners_from 0 (placed_from 0 vs)) + variable_cells v) few) refl

input_free : (vs : List VariableItem) (es : List ErrorItem) (d : List ℕ) (p : Place) → has (82 ∷ d) (map (λ (w : VariableItem). w.name) vs) ≡ false
    → has (67 ∷ d) (filter_map variable_code vs) ≡ false → cells_in_all vs + 1 ≤ 1000000
    → variable_fault (with_variables vs es) (the_input d p) ≡ None
input_free vs es d p n c k =
    let beside : paired_place (67 ∷ d) (filter_map placed_code (placed_from 0 vs)) ≡ None = code-free (67 ∷ d) (placed_from 0 vs)
    (ap (has (67 ∷ d)) (codes-placed 0 vs) ∙ c) in
    let coded : code_fault (with_variables vs es) (the_input d p) ≡ None = rw beside refl in
    ap (λ f. option_or f (option_or (code_fault (with_variables vs es) (the_input d p)) (option_or None (cells_fault (with_variables vs es) (the_input d p)))))
    (name_free vs es (the_input d p) n)
    ∙ ap (λ f. option_or f (option_or None (cells_fault (with_variables vs es) (the_input d p)))) coded
    ∙ cells_free vs es (the_input d p) k

sum_free : (vs : List VariableItem) (es : List ErrorItem) (d : List ℕ) (p : Place) → has (84 ∷ d) (map (λ (w : VariableItem). w.name) vs) ≡ false
    → cells_in_all vs + 1 ≤ 1000000
    → variable_fault (with_variables vs es) (the_sum d p) ≡ None
sum_free vs es d p n k =
    ap (λ f. option_or f (option_or None (option_or None (cells_fault (with_variables vs es) (the_sum d p))))) (name_free vs es (the_sum d p) n)
    ∙ cells_free vs es (the_sum d p) k

-- ---- one item after another

first_none : (f g : Option DeclareFault) → f ≡ None → g ≡ None → option_or f g ≡ None
first_none f g a b = ap (λ x. option_or x g) a ∙ b

pub faults-append : (e a b : List Item) → fault_behind e a ≡ None → fault_behind (e ++ a) b ≡ None → fault_behind e (a ++ b) ≡ None
faults-append e [] b h k = subst (λ x. fault_behind x b ≡ None) (append-nil e) k
faults-append e (x ∷ a) b h k =
    let l = parts (fault_at (declared_by e) x) (fault_behind (e ++ x ∷ []) a) h in
    first_none _ _ l.0 (faults-append (e ++ x ∷ []) a b l.1 (subst (λ y. fault_behind y b ≡ None) (sym (append_assoc e (x ∷ []) a)) k))

declared_free : (p : Place) (n : ℕ) → n ≤ 100000 → fault_behind [] (declared_items p n) ≡ None
declared_free p zero h = refl
declared_free p (suc k) h =
    let d = decimal k in
    let q = declared_after p k in
    let r = sum_place p k in
    let vs = variable_items p k in
    let before = declared_items p k in
    let a = input_item d q in
    let b = sum_item d r in
    let count = cells_declared p k in
    let more = cells-append vs (the_input d q ∷ []) in
    let first_vs : variables_of before ≡ vs = items_declared p k in
    let next_vs : variables_of (before ++ a ∷ []) ≡ vs ++ the_input d q ∷ [] = filter_map-append variable_in before (a ∷ [])
    ∙ ap (λ l. l ++ (the_input d q ∷ [])) first_vs in
    let one : fault_at (declared_by before) a ≡ None =
    ap (λ l. variable_fault (with_variables l (errors_of before)) (the_input d q)) first_vs
    ∙ input_free vs (errors_of before) d q (ap (has (82 ∷ d)) (item_names p k) ∙ new_input k k (omega arith) (omega arith)) (ap (has (67 ∷ d)) (item_codes p k)
    ∙ new_code k k (omega arith) (omega arith)) (omega arith) in
    let name_list : map (λ (w : VariableItem). w.name) (vs ++ the_input d q ∷ []) ≡ names k ++ (input_name k ∷ []) = map-append (λ (w : VariableItem). w.name)
    vs (the_input d q ∷ []) ∙ ap (λ l. l ++ (input_name k ∷ [])) (item_names p k) in
    let two : fault_at (declared_by (before ++ a ∷ [])) b ≡ None =
    ap (λ l. variable_fault (with_variables l (errors_of (before ++ a ∷ []))) (the_sum d r)) next_vs
    ∙ sum_free (vs ++ the_input d q ∷ []) (errors_of (before ++ a ∷ [])) d r (ap (has (84 ∷ d)) name_list ∙ new_second k (omega arith)) (omega arith) in
    faults-append [] before (a ∷ b ∷ []) (declared_free p k (omega arith)) (first_none _ _ one (first_none _ _ two refl))

ruled_free : (q : Place) (n : ℕ) (e : List Item) → fault_behind e (rule_items q n) ≡ None
ruled_free q zero e = refl
ruled_free q (suc j) e = ruled_free (after q (numbered_line j)) j _

-- No declaration has a fault.
pub base_free : (p : Place) (n : ℕ) → 1 ≤ n → n ≤ 100000 → first_fault (base_items p n) ≡ None
base_free p n some few =
    let q = declared_after p n in
    let r = rules_after q (n - 1) in
    let ruled = rule_items q (n - 1) in
    let last = end_items (decimal (n - 1)) (after r first_line) in
    let before = declared_items p n ++ ruled in
    let errors : errors_of (before ++ first_item r ∷ []) ≡ [] =
    filter_map-append error_in before (first_item r ∷ []) ∙ append-nil (errors_of before) ∙ filter_map-append error_in (declared_items p n) ruled
    ∙ ap (λ l. l ++ errors_of ruled) (no_errors_declared p n) ∙ sym (ap errors_of (append-nil ruled)) ∙ no_errors_ruled q (n - 1) [] in
    faults-append [] (declared_items p n) (ruled ++ (first_item r ∷ last)) (declared_free p n few)
    (faults-append (declared_items p n) ruled (first_item r ∷ last) (ruled_free q (n - 1) (declared_items p n)) (rw errors refl))
