-- The base of `large N` over cells.
use Rattle.std.proofs.Common.{◌≡◌, ℕ, zero, suc, ◌+◌, ◌-◌, ◌<◌, ◌≤◌, ◌==◌, false, ◌||◌, List, [], ◌∷◌, ◌++◌, codes, decimal, Ok, Err, Some, refl, sym, ap, ◌∙◌}
use Rattle.std.proofs.Common.{subst, append_assoc, append-nil, arith}
use Rattle.std.proofs.lemmas.Bool.{ne_eqb}
use Rattle.std.proofs.lemmas.Fmt.{decimal_digit}
use Rattle.std.proofs.lemmas.List.{map-append}
use Rattle.std.proofs.lemmas.List.Folds.{list_any-append}
use Rattle.std.specs.Option.{ok_or, option_map_or}
use Rattle.m_places.specs.declared.place.Place.{Place}
use Rattle.m_fixed.specs.declared.amount.Value.TheVariants.{Num}
use Rattle.m_fixed.specs.declared.operator.Op.TheVariants as ops
use Rattle.m_ast.specs.Syntax.{Syntax}
use Rattle.micro_m.specs.Trees.{Tree, lit, cell, apply, chain, none, more, end, step}
use Rattle.micro_m.specs.Bases.{Definition as CellDefinition, is_among}
use Rattle.micro_m.specs.declared.base.Base.{Base}
use Rattle.m_ast.specs.Items.{variable_size}
use Rattle.m_symbols.specs.declared.variable.Variable.{Variable}
use Rattle.m_symbols.specs.Declarations.{Declared}
use Rattle.m_symbols.specs.Cells.{variable_named}
use Rattle.m_ast.specs.declared.plain_rules.Definition.{Definition}
use Rattle.m_resolve.specs.Terms.{if_resolved, resolved_term, resolved_cell}
use Rattle.m_resolve.specs.Bases.{target_in, resolved_target, new_target, cells_of, resolved_definition, resolved_definitions, resolved_conditions, label_of}
use Rattle.m_resolve.specs.Bases.{base_with, resolved}
use Rattle.m_resolve.specs.declared.fault.ResolveFault.TheVariants.{UnknownName, IsATable}
use Rattle.large_validity.proofs.Names.{input_name, sum_name}
use Rattle.large_validity.proofs.Pieces.{amount, after}
use Rattle.large_validity.proofs.Lines.{declared_after, rules_after, numbered_line}
use Rattle.large_validity.proofs.Items.{maximum_term, sum_term, error_of}
use Rattle.large_validity.proofs.Variables.{sum_variable, declared, error_place}
use Rattle.large_validity.proofs.Found.{input_found, sum_found}
use Rattle.large_validity.proofs.Rules.{target_place, read_place, further_place, first_place, first_read, numbered_definition, first_definition}
use Rattle.large_validity.proofs.Rules.{plain_definitions, the_condition, condition_term, si_place, base_plain}

-- the maximum of 0 and input k less 1000
abbrev pub maximum_tree : ℕ → Tree
maximum_tree k = apply ops.Max (more (lit (Num (amount (codes "0")))) (more (chain (cell (k + k)) (step ops.Sub (lit (Num (amount (codes "1000")))) end)) none))

-- the same plus sum j
abbrev pub sum_tree : ℕ → ℕ → Tree
sum_tree k j = chain (maximum_tree k) (step ops.Add (cell (j + j + 1)) end)

abbrev pub numbered_cell : Place → ℕ → CellDefinition
numbered_cell q j = (suc j + suc j + 1, sum_tree (suc j) j, target_place q j)

abbrev pub first_cell : Place → CellDefinition
first_cell r = (1, maximum_tree 0, first_place r)

abbrev pub cell_definitions : Place → ℕ → List CellDefinition
cell_definitions q zero = []
cell_definitions q (suc j) = numbered_cell q j ∷ cell_definitions (after q (numbered_line j)) j

-- the condition that sum k is below 0
abbrev pub check_tree : ℕ → Tree
check_tree k = apply ops.Lt (more (cell (k + k + 1)) (more (lit (Num (amount (codes "0")))) none))

abbrev pub base_of : Place → ℕ → Base
base_of p n =
    base_with (declared p n) (cell_definitions (declared_after p n) (n - 1) ++ (first_cell (rules_after (declared_after p n) (n - 1)) ∷ []))
    ((check_tree (n - 1), 0, si_place (error_place p n)) ∷ [], label_of (codes "1") (error_of (error_place p n)) ∷ [])

-- ---- one definition

abbrev maximum_of : ℕ → Place → Syntax
maximum_of k at = maximum_term (decimal k) at

abbrev sum_of : ℕ → ℕ → Place → Place → Syntax
sum_of k j at other = sum_term (decimal k) (decimal j) at other

-- the cell and the target of a name, given its variable
cell_by : (d : Declared) (name : List ℕ) (at : Place) (v : Variable) → variable_named d name ≡ Some v
    → resolved_cell d name at ≡ option_map_or (λ size. Err (IsATable name at)) (variable_size v.item) (Ok v.first_cell)
cell_by d name at v e = ap (λ o. if_resolved (λ (v : Variable). option_map_or (λ size. Err (IsATable name at)) (variable_size v.item) (Ok v.first_cell))
    (ok_or o (UnknownName name at))) e

target_by : (d : Declared) (definition : Definition) (v : Variable) → variable_named d definition.target ≡ Some v
    → resolved_target d definition ≡ target_in definition.target definition.place v.first_cell definition.slot v.item.role
target_by d definition v e =
    ap (λ o. if_resolved (λ (v : Variable). target_in definition.target definition.place v.first_cell definition.slot v.item.role)
    (ok_or o (UnknownName definition.target definition.place))) e

input_declared : (p : Place) (n k : ℕ) (at : Place) → k < n → n ≤ 100000 → resolved_cell (declared p n) (input_name k) at ≡ Ok (k + k)
input_declared p n k at l h = cell_by (declared p n) (input_name k) at _ (input_found p n k l h)

resolved_sum : (p : Place) (n k : ℕ) (at : Place) → k < n → n ≤ 100000 → resolved_cell (declared p n) (sum_name k) at ≡ Ok (k + k + 1)
resolved_sum p n k at l h = cell_by (declared p n) (sum_name k) at _ (sum_found p n k l h)

maximum_stated : (p : Place) (n k : ℕ) (at : Place) → k < n → n ≤ 100000 → resolved_term (declared p n) (maximum_of k at) ≡ Ok (maximum_tree k)
maximum_stated p n k at l h = rw (input_declared p n k at l h) refl

resolved_sum_term : (p : Place) (n k j : ℕ) (at other : Place) → k < n → j < n → n ≤ 100000
    → resolved_term (declared p n) (sum_of k j at other) ≡ Ok (sum_tree k j)
resolved_sum_term p n k j at other l m h = rw (input_declared p n k at l h, resolved_sum p n j other m h) refl

-- sum 0 and its input, whose digits are `0`
zero_text : decimal 0 ≡ codes "0"
zero_text = decimal_digit 0 (omega arith)

first_target : (p : Place) (n : ℕ) → 1 ≤ n → n ≤ 100000 → variable_named (declared p n) (84 ∷ codes "0") ≡ Some (sum_variable p 0)
first_target p n l h = subst (λ d. variable_named (declared p n) (84 ∷ d) ≡ Some (sum_variable p 0)) zero_text (sum_found p n 0 (omega arith) h)

first_stated : (p : Place) (n : ℕ) (at : Place) → 1 ≤ n → n ≤ 100000 → resolved_term (declared p n) (maximum_term (codes "0") at) ≡ Ok (maximum_tree 0)
first_stated p n at l h = subst (λ d. resolved_term (declared p n) (maximum_term d at) ≡ Ok (maximum_tree 0)) zero_text
    (maximum_stated p n 0 at (omega arith) h)

resolved_check : (p : Place) (n k : ℕ) (e : Place) → k < n → n ≤ 100000 → resolved_term (declared p n) (condition_term (decimal k) e) ≡ Ok (check_tree k)
resolved_check p n k e l h = rw (resolved_sum p n k _ l h) refl

definition_is : (d : Declared) (before : List CellDefinition) (definition : Definition) (c : ℕ) (tree : Tree)
    → resolved_target d definition ≡ Ok c → is_among c (cells_of before) ≡ false → resolved_term d definition.term ≡ Ok tree
    → resolved_definition d before definition ≡ Ok (c, tree, definition.place)
definition_is d before definition c tree t f s =
    let a : if_resolved (new_target d definition.place (cells_of before)) (resolved_target d definition) ≡ Ok c = ap
    (if_resolved (new_target d definition.place (cells_of before))) t ∙ rw f refl in
    ap (if_resolved (λ (c : ℕ). if_resolved (λ (tree : Tree). Ok (c, tree, definition.place)) (resolved_term d definition.term))) a
    ∙ ap (if_resolved (λ (tree : Tree). Ok (c, tree, definition.place))) s

-- ---- all definitions

-- the cells up to that of sum n aren't among these
abbrev Fresh : ℕ → List CellDefinition → Type 0
Fresh n before = (c : ℕ) → c ≤ n + n + 1 → is_among c (cells_of before) ≡ false

fresh_next : (j : ℕ) (before : List CellDefinition) (tree : Tree) (at : Place) → Fresh (suc j) before → Fresh j (before ++ (suc j + suc j + 1, tree, at) ∷ [])
fresh_next j before tree at f c l =
    let last : CellDefinition = (suc j + suc j + 1, tree, at) in
    ap (is_among c) (map-append (λ (d : CellDefinition). d.0) before (last ∷ []))
    ∙ list_any-append (λ m. c == m) (cells_of before) ((suc j + suc j + 1) ∷ [])
    ∙ ap (λ b. b || ((c == suc j + suc j + 1) || false)) (f c (omega arith))
    ∙ ap (λ b. b || false) (ne_eqb c (suc j + suc j + 1) (λ e. omega arith))

resolved_ruled : (p : Place) (m : ℕ) → m ≤ 100000 → (q : Place) (n : ℕ) (before : List CellDefinition) (xs : List Definition) → n < m → Fresh n before
    → resolved_definitions (declared p m) before (plain_definitions q n ++ xs) ≡ resolved_definitions (declared p m) (before ++ cell_definitions q n) xs
resolved_ruled p m h q zero before xs l f = ap (λ b. resolved_definitions (declared p m) b xs) (sym (append-nil before))
resolved_ruled p m h q (suc j) before xs l f =
    let d = declared p m in
    let r = after q (numbered_line j) in
    let here = numbered_cell q j in
    let target : resolved_target d (numbered_definition q j) ≡ Ok (suc j + suc j + 1) =
    target_by d (numbered_definition q j) _ (sum_found p m (suc j) l h) in
    let stated : resolved_definition d before (numbered_definition q j) ≡ Ok here =
    definition_is d before (numbered_definition q j) (suc j + suc j + 1) (sum_tree (suc j) j) target (f (suc j + suc j + 1) (omega arith))
    (resolved_sum_term p m (suc j) j (read_place q j) (further_place q j) l (omega arith) h) in
    ap (if_resolved (λ (stated : CellDefinition). resolved_definitions d (before ++ stated ∷ []) (plain_definitions r j ++ xs))) stated
    ∙ resolved_ruled p m h r j (before ++ here ∷ []) xs (omega arith) (fresh_next j before (sum_tree (suc j) j) (target_place q j) f)
    ∙ ap (λ b. resolved_definitions d b xs) (append_assoc before (here ∷ []) (cell_definitions r j))

ruled_fresh : (q : Place) (n : ℕ) (c : ℕ) → c ≤ 1 → is_among c (cells_of (cell_definitions q n)) ≡ false
ruled_fresh q zero c l = refl
ruled_fresh q (suc j) c l = ap (λ b. b || is_among c (cells_of (cell_definitions (after q (numbered_line j)) j)))
    (ne_eqb c (suc j + suc j + 1) (λ e. omega arith)) ∙ ruled_fresh (after q (numbered_line j)) j c l

-- The rules are this base over the cells of the declarations.
pub base_resolved : (p : Place) (n : ℕ) → 1 ≤ n → n ≤ 100000 → resolved (declared p n) (base_plain p n) ≡ Ok (base_of p n)
base_resolved p n some few =
    let d = declared p n in
    let q = declared_after p n in
    let r = rules_after q (n - 1) in
    let cells = cell_definitions q (n - 1) in
    let first : resolved_definition d cells (first_definition r) ≡ Ok (first_cell r) =
    definition_is d cells (first_definition r) 1 (maximum_tree 0) (target_by d (first_definition r) _ (first_target p n some few))
    (ruled_fresh q (n - 1) 1 (omega arith))
    (first_stated p n (first_read r) some few) in
    let stated : resolved_definitions d [] (plain_definitions q (n - 1) ++ (first_definition r ∷ [])) ≡ Ok (cells ++ first_cell r ∷ []) =
    resolved_ruled p n few q (n - 1) [] (first_definition r ∷ []) (omega arith) (λ c l. refl)
    ∙ ap (if_resolved (λ (stated : CellDefinition). Ok (cells ++ stated ∷ []))) first in
    let e = error_place p n in
    let condition : resolved_conditions d ([], []) (the_condition (decimal (n - 1)) e ∷ []) ≡ Ok
    ((check_tree (n - 1), 0, si_place e) ∷ [], label_of (codes "1") (error_of e) ∷ []) =
    rw (resolved_check p n (n - 1) e (omega arith) few) refl in
    rw (stated, condition) refl
