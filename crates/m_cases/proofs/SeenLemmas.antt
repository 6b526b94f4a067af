-- Marks of columns.
use Rattle.std.proofs.Common.{◌≡◌, ℕ, ◌≤◌, arith, Bool, eqb, List, [], ◌∷◌, ◌++◌, refl, sym, ap, ◌∙◌, subst}
use mathlib.Core.Bool.{◌||◌}
use Rattle.std.proofs.lemmas.List.{append-nil}
use Rattle.std.specs.List.{list_any}
use Rattle.household.specs.Household.{is_input_among}
use Rattle.household.specs.Marks.{Marks}
use Rattle.m_cases.specs.declared.columns.Column.{Column}
use Rattle.m_cases.specs.declared.columns.Column.TheVariants.{Input, Output}
use Rattle.m_cases.specs.Columns.{column_inputs, is_same_column}
use Rattle.m_cases.specs.declared.columns.Seen.{Seen}
use Rattle.m_cases.specs.inner.Outputs.{AreSeen, IsBelow, column_outputs}

pub any_input : (a : ℕ) (columns : List Column) → is_input_among a (column_inputs columns) ≡ list_any (is_same_column (Input a)) columns
any_input a [] = refl
any_input a (Input b ∷ columns) = ap (λ r. eqb b a || r) (any_input a columns)
any_input a (Output b ∷ columns) = any_input a columns

pub any_output : (a : ℕ) (columns : List Column) → is_input_among a (column_outputs columns) ≡ list_any (is_same_column (Output a)) columns
any_output a [] = refl
any_output a (Input b ∷ columns) = any_output a columns
any_output a (Output b ∷ columns) = ap (λ r. eqb b a || r) (any_output a columns)

pub inputs-push : (columns : List Column) (column : Column) → column_inputs columns ++ column_inputs (column ∷ []) ≡ column_inputs (columns ++ column ∷ [])
inputs-push [] column = refl
inputs-push (Input b ∷ columns) column = ap (λ (l : List ℕ). b ∷ l) (inputs-push columns column)
inputs-push (Output b ∷ columns) column = inputs-push columns column

pub outputs-push : (columns : List Column) (column : Column) → column_outputs columns ++ column_outputs (column ∷ []) ≡ column_outputs (columns ++ column ∷ [])
outputs-push [] column = refl
outputs-push (Input b ∷ columns) column = outputs-push columns column
outputs-push (Output b ∷ columns) column = ap (λ (l : List ℕ). b ∷ l) (outputs-push columns column)

pub inputs-skip : (columns : List Column) (a : ℕ) → column_inputs columns ≡ column_inputs (columns ++ Output a ∷ [])
inputs-skip columns a = sym (append-nil (column_inputs columns)) ∙ inputs-push columns (Output a)

pub outputs-skip : (columns : List Column) (a : ℕ) → column_outputs columns ≡ column_outputs (columns ++ Input a ∷ [])
outputs-skip columns a = sym (append-nil (column_outputs columns)) ∙ outputs-push columns (Input a)

-- numbers below a count are below a greater one
pub below_more : (inputs outputs m n : ℕ) (column : Column) → IsBelow inputs outputs column → inputs ≤ m → outputs ≤ n → IsBelow m n column
below_more inputs outputs m n (Input a) b h k = omega (arith, b, h)
below_more inputs outputs m n (Output a) b h k = omega (arith, b, k)

-- one more column is marked
pub sees_input : (seen new : Seen) (columns : List Column) (column : Column) (a : ℕ) → column ≡ Input a
    → Marks new.inputs.items (column_inputs columns ++ a ∷ []) → new.outputs.items ≡ seen.outputs.items → AreSeen seen columns
    → AreSeen new (columns ++ column ∷ [])
sees_input seen new columns column a is marks same s =
    subst (λ x. AreSeen new (columns ++ x ∷ [])) (sym is) (record {
      inputs = subst (Marks new.inputs.items) (inputs-push columns (Input a)) marks;
      outputs = subst (λ (m : List Bool). Marks m (column_outputs (columns ++ Input a ∷ []))) (sym same)
          (subst (Marks seen.outputs.items) (outputs-skip columns a) s.outputs);
    })

pub sees_output : (seen new : Seen) (columns : List Column) (column : Column) (a : ℕ) → column ≡ Output a
    → Marks new.outputs.items (column_outputs columns ++ a ∷ []) → new.inputs.items ≡ seen.inputs.items → AreSeen seen columns
    → AreSeen new (columns ++ column ∷ [])
sees_output seen new columns column a is marks same s =
    subst (λ x. AreSeen new (columns ++ x ∷ [])) (sym is) (record {
      inputs = subst (λ (m : List Bool). Marks m (column_inputs (columns ++ Output a ∷ []))) (sym same)
          (subst (Marks seen.inputs.items) (inputs-skip columns a) s.inputs);
      outputs = subst (Marks new.outputs.items) (outputs-push columns (Output a)) marks;
    })
