-- Operators by their words.
use Rattle.std.proofs.Common.{◌≡◌, ◌<◌, ◌+◌, ℕ, Bool, false, true, cond, List, [], ◌∷◌, length, drop, get_or, Some, refl, ap, ◌∙◌}
use Rattle.std.specs.Str.{bytes_eq}
use Rattle.std.proofs.lemmas.List.{drop_more}
use Rattle.std.proofs.lemmas.Slice.Eq.{bytes_eq-Decides}
use Rattle.reg_machine.proofs.TableLemmas.{none≢some, some-is}
use Rattle.m_fixed.specs.declared.operator.Op.{Op}
use Rattle.m_fixed.specs.declared.operator.Op.TheVariants.{Add, Sub, Mul, Div, Neg, Eq, Ne, Lt, Le, Gt, Ge, And, Or, Not, Present, Abs, Positive}
use Rattle.m_fixed.specs.declared.operator.Op.TheVariants.{PositiveOrNull, Null, Arr, Inf, Max, Min, Truth as TruthOf, Choose, At}
use Rattle.code_file.specs.Text.{op_word}
use Rattle.code_file.specs.inner.Spelled.{op_among, operators}

pub op-next : (ops : List Op) (word : List ℕ) (k : ℕ) (d : Op) → k < length ops → bytes_eq word (op_word (get_or ops k d)) ≡ false
    → op_among (drop k ops) word ≡ op_among (drop (k + 1) ops) word
op-next ops word k d lt e =
    ap (λ l. op_among l word) (drop_more ops k d lt) ∙ ap (λ b. cond b (Some (get_or ops k d)) (op_among (drop (k + 1) ops) word)) e

-- the operator that is found has the word
found-by : (op op' : Op) (ops : List Op) (word : List ℕ) (b : Bool) → bytes_eq word (op_word op) ≡ b → (op_among ops word ≡ Some op' → word ≡ op_word op')
    → cond b (Some op) (op_among ops word) ≡ Some op' → word ≡ op_word op'
found-by op op' ops word true e behind h = (bytes_eq-Decides word (op_word op)).0 e ∙ ap op_word (some-is op op' h)
found-by op op' ops word false e behind h = behind h

pub op-found : (ops : List Op) (word : List ℕ) (op : Op) → op_among ops word ≡ Some op → word ≡ op_word op
op-found [] word op h = absurd (none≢some op h)
op-found (o ∷ ops) word op h = found-by o op ops word (bytes_eq word (op_word o)) refl (op-found ops word op) h

-- each operator is found by its word
pub op-known : (op : Op) → op_among operators (op_word op) ≡ Some op
op-known Add = refl
op-known Sub = refl
op-known Mul = refl
op-known Div = refl
op-known Neg = refl
op-known Eq = refl
op-known Ne = refl
op-known Lt = refl
op-known Le = refl
op-known Gt = refl
op-known Ge = refl
op-known And = refl
op-known Or = refl
op-known Not = refl
op-known Present = refl
op-known Abs = refl
op-known Positive = refl
op-known PositiveOrNull = refl
op-known Null = refl
op-known Arr = refl
op-known Inf = refl
op-known Max = refl
op-known Min = refl
op-known TruthOf = refl
op-known Choose = refl
op-known At = refl
