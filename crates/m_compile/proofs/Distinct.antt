-- Names of variables and codes of inputs are distinct, if declarations have no fault.
use Rattle.std.proofs.Common.{◌≡◌, ◌∙◌, length, List, [], ◌∷◌, ◌++◌, ℕ, false, Option, None, Some, refl, sym, ap, subst, append_assoc}
use Rattle.std.specs.Prelude.{IfSome}
use Rattle.std.specs.List.{cons_option, filter_map}
use Rattle.std.specs.Option.{option_map}
use Rattle.std.proofs.lemmas.List.{append-nil, length-map}
use Rattle.m_ast.specs.declared.item.Item.{Item}
use Rattle.m_ast.specs.declared.item.Item.TheVariants.{Variable, Rule, Verif, Error, Silent}
use Rattle.m_ast.specs.declared.variable.VariableItem.{VariableItem}
use Rattle.m_ast.specs.Items.{code_in}
use Rattle.m_names.specs.Names.{AreDistinct, has}
use Rattle.m_names.proofs.Distinct.{AreDistinct-push}
use Rattle.m_symbols.specs.Declarations.{Declared, code_of, codes_of, declared_by, inputs_from, name_of, names_of}
use Rattle.m_symbols.specs.Faults.{fault_at, fault_behind, first_fault, variable_fault}
use Rattle.m_symbols.specs.declared.variable.Variable.{Variable as Declaration}
use Rattle.m_symbols.specs.inner.Tables.{with_item, with_variable}
use Rattle.m_symbols.proofs.Added.{codes-push, declared-push, map-push}
use Rattle.m_symbols.proofs.Faultless.{new_code, new_name, parts}
use Rattle.m_symbols.proofs.Numbered.{as_many_codes}
use Rattle.micro_m.specs.declared.base.Base.{Base}
use Rattle.observables.specs.declared.inputs.Coded.{Coded}
use Rattle.observables.specs.declared.inputs.InputType.{InputType}
use Rattle.observables.specs.Inputs.{codes_of as codes_shown}
use Rattle.rule_base.specs.Base.{IsBaseOf}
use Rattle.m_places.specs.declared.source.Text.{Text}
use Rattle.driver_core.specs.Inputs.{input_declared, inputs_declared, type_declared}

-- one more code, which is new
more : (code : Option (List ℕ)) (codes : List (List ℕ)) → AreDistinct codes → IfSome code (λ c. has c codes ≡ false)
    → AreDistinct (codes ++ cons_option code [])
more None codes d h = subst AreDistinct (sym (append-nil codes)) d
more (Some code) codes d h = AreDistinct-push code codes d h

-- a variable without a fault keeps the names of declarations distinct
abbrev Stays : (List Declaration → List (List ℕ)) → Type 0
Stays called = (d : Declared) (v : VariableItem) → variable_fault d v ≡ None → AreDistinct (called d.variables)
    → AreDistinct (called (with_variable d v).variables)

-- one more item
item_more : (called : List Declaration → List (List ℕ)) → Stays called → (d : Declared) (item : Item) → AreDistinct (called d.variables)
    → fault_at d item ≡ None → AreDistinct (called (with_item d item).variables)
item_more called stays d (Variable v) distinct e = stays d v e distinct
item_more called stays d (Error v) distinct e = distinct
item_more called stays d (Rule r) distinct e = distinct
item_more called stays d (Verif v) distinct e = distinct
item_more called stays d (Silent p) distinct e = distinct

items_more : (called : List Declaration → List (List ℕ)) → Stays called → (earlier later : List Item) → AreDistinct (called (declared_by earlier).variables)
    → fault_behind earlier later ≡ None
    → AreDistinct (called (declared_by (earlier ++ later)).variables)
items_more called stays earlier [] d e = subst (λ (items : List Item). AreDistinct (called (declared_by items).variables)) (sym (append-nil earlier)) d
items_more called stays earlier (item ∷ later) d e =
    let p = parts (fault_at (declared_by earlier) item) (fault_behind (earlier ++ item ∷ []) later) e in
    subst (λ (items : List Item). AreDistinct (called (declared_by items).variables)) (append_assoc earlier (item ∷ []) later)
    (items_more called stays (earlier ++ item ∷ []) later
    (subst (λ (declared : Declared). AreDistinct (called declared.variables)) (sym (declared-push earlier item))
    (item_more called stays (declared_by earlier) item d p.0)) p.1)

name_stays : Stays names_of
name_stays d v e distinct = subst AreDistinct (sym (map-push name_of d.variables _)) (AreDistinct-push v.name (names_of d.variables) distinct (new_name d v e))

pub distinct_names : (items : List Item) → first_fault items ≡ None → AreDistinct (names_of (declared_by items).variables)
distinct_names items e = items_more names_of name_stays [] items tt e

code_stays : Stays codes_of
code_stays d v e distinct = subst AreDistinct (sym (codes-push d.variables _)) (more (code_in v.role) (codes_of d.variables) distinct (new_code d v e))

pub distinct_codes : (texts : List Text) (application : List ℕ) (declared : Declared) (base : Base) → IsBaseOf texts application declared base
    → AreDistinct (codes_of declared.variables)
distinct_codes texts application declared base b =
    subst (λ (d : Declared). AreDistinct (codes_of d.variables)) (sym b.symbols) (items_more codes_of code_stays [] b.items tt b.declares.faultless)

-- the codes in a face are the declared ones
one_code : (code : Option (List ℕ)) (kind : InputType) (inputs : List Coded) (codes : List (List ℕ)) → codes_shown inputs ≡ codes
    → codes_shown (cons_option (option_map (λ c. record { code = c; kind = kind }) code) inputs) ≡ cons_option code codes
one_code None kind inputs codes e = e
one_code (Some code) kind inputs codes e = ap (λ rest. code ∷ rest) e

stated_codes : (variables : List Declaration) → codes_shown (filter_map input_declared variables) ≡ codes_of variables
stated_codes [] = refl
stated_codes (v ∷ variables) = one_code (code_of v) (type_declared v.item.value_word) (filter_map input_declared variables) (codes_of variables)
    (stated_codes variables)

pub parsed_codes : (declared : Declared) → codes_shown (inputs_declared declared) ≡ codes_of declared.variables
parsed_codes declared = stated_codes declared.variables

-- a face has as many inputs as are declared
pub many_inputs : (declared : Declared) → length (inputs_declared declared) ≡ length (inputs_from 0 declared.variables)
many_inputs declared = sym (length-map (inputs_declared declared) (λ (input : Coded). input.code)) ∙ ap length (parsed_codes declared)
    ∙ as_many_codes 0 declared.variables

-- so the codes in a face are distinct
pub distinct_inputs : (texts : List Text) (application : List ℕ) (declared : Declared) (base : Base) → IsBaseOf texts application declared base
    → AreDistinct (codes_shown (inputs_declared declared))
distinct_inputs texts application declared base b = subst AreDistinct (sym (parsed_codes declared)) (distinct_codes texts application declared base b)
