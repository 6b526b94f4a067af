-- Register code has the same answer as the flat program that it denotes.
use Rattle.std.proofs.Common.{◌≡◌, ℕ, zero, suc, ◌+◌, ◌<◌, Bool, true, false, ◌⊎◌, List, [], ◌∷◌, ◌++◌, length, get_or, set, map, replicate, Option, None, Some}
use Rattle.std.proofs.Common.{refl, ap, sym, ◌∙◌, subst, inl, inr, ⊎_elim, arith}
use Rattle.std.specs.Prelude.{if◌then◌else◌, fold}
use Rattle.std.specs.Option.{option_and_then, option_map, option_map_or, option_or}
use Rattle.std.proofs.lemmas.List.{get_or_append_left, get_or_push, length_push, map-set}
use Rattle.std.proofs.lemmas.List.Sums.{fold_push}
use Rattle.m_fixed.specs.declared.amount.Value.{Value}
use Rattle.m_fixed.specs.declared.amount.Value.TheVariants.{Undef}
use Rattle.m_fixed.specs.Operators.{op_value}
use Rattle.flat_code.specs.declared.program.Node.{Node}
use Rattle.flat_code.specs.declared.program.Node.TheVariants.{Input, Lit as LitNode, Do as DoNode}
use Rattle.flat_code.specs.declared.program.Check.{Check}
use Rattle.flat_code.specs.declared.program.Flat.{Flat}
use Rattle.observables.specs.declared.answer.Stop.{Stop}
use Rattle.observables.specs.declared.answer.Answer.TheVariants.{Values, Stopped}
use Rattle.flat_code.specs.Runs.{entry_of, values_for, node_values, value_at, is_one, stop_of, check_stop, first_stop, flat_run}
use Rattle.reg_machine.specs.declared.instr.Instr.{Instr}
use Rattle.reg_machine.specs.declared.instr.Instr.TheVariants.{Take, Lit, Do, Store, Load, Check as Test, Output}
use Rattle.reg_machine.specs.Flow.{Counts, Listing, State, put, start, step, has_numbers, moved, with_node, reading, all_given, spelled, flow_of}
use Rattle.reg_machine.specs.Machine.{Machine, fresh, act, act_at, acts, answer_of, machine_run}
use Rattle.reg_machine.proofs.TableLemmas.{put-same, put-other, put-cases, none≢some, some-is}

-- ---- what is below a count

-- the numbers of a table, of checks and of outputs are below n
abbrev pub Below : (ℕ → Option ℕ) → ℕ → Type 0
Below table n = (k x : ℕ) → table k ≡ Some x → x < n

abbrev pub ChecksBelow : ℕ → List Check → Type 0
ChecksBelow n [] = Unit {0}
ChecksBelow n (check ∷ checks) = (check.guard < n) × (check.condition < n) × ChecksBelow n checks

abbrev EntryBelow : ℕ → Option ℕ → Type 0
EntryBelow n None = Unit {0}
EntryBelow n (Some x) = x < n

abbrev pub OutputsBelow : ℕ → List (Option ℕ) → Type 0
OutputsBelow n [] = Unit {0}
OutputsBelow n (output ∷ outputs) = EntryBelow n output × OutputsBelow n outputs

pub checks-more : (n : ℕ) (checks : List Check) → ChecksBelow n checks → ChecksBelow (suc n) checks
checks-more n [] h = tt
checks-more n (check ∷ checks) h = (omega (arith, h.0), omega (arith, h.1), checks-more n checks h.2)

pub checks-push : (n : ℕ) (checks : List Check) (check : Check) → ChecksBelow n checks → check.guard < n → check.condition < n
    → ChecksBelow n (checks ++ check ∷ [])
checks-push n [] check h a b = (a, b, tt)
checks-push n (other ∷ checks) check h a b = (h.0, h.1, checks-push n checks check h.2 a b)

entry-more : (n : ℕ) (entry : Option ℕ) → EntryBelow n entry → EntryBelow (suc n) entry
entry-more n None h = tt
entry-more n (Some x) h = omega arith

pub outputs-more : (n : ℕ) (outputs : List (Option ℕ)) → OutputsBelow n outputs → OutputsBelow (suc n) outputs
outputs-more n [] h = tt
outputs-more n (output ∷ outputs) h = (entry-more n output h.0, outputs-more n outputs h.1)

pub outputs-set : (n : ℕ) (outputs : List (Option ℕ)) (k x : ℕ) → OutputsBelow n outputs → x < n → OutputsBelow n (set outputs k (Some x))
outputs-set n [] k x h lt = tt
outputs-set n (output ∷ outputs) zero x h lt = (lt, h.1)
outputs-set n (output ∷ outputs) (suc k) x h lt = (h.0, outputs-set n outputs k x h.1 lt)

pub outputs-none : (n k : ℕ) → OutputsBelow n (replicate k None)
outputs-none n zero = tt
outputs-none n (suc k) = (tt, outputs-none n k)

pub below-put : (table : ℕ → Option ℕ) (n k x : ℕ) → Below table n → x < n → Below (put table k (Some x)) n
below-put table n k x h lt j y e = ⊎_elim (λ p. subst (λ z. z < n) p.1 lt) (λ p. h j y p.1) (put-cases table k x j y e)

pub below-more : (table : ℕ → Option ℕ) (n : ℕ) → Below table n → Below table (suc n)
below-more table n h k x e = omega (arith, h k x e)

-- ---- values

-- a table of values holds those of the nodes
abbrev pub Holds : List Value → (ℕ → Option ℕ) → (ℕ → Value) → Type 0
Holds values table cells = (k x : ℕ) → table k ≡ Some x → cells k ≡ value_at values x

pub holds-put : (values : List Value) (table : ℕ → Option ℕ) (cells : ℕ → Value) (k x : ℕ) (v : Value) → Holds values table cells → v ≡ value_at values x
    → Holds values (put table k (Some x)) (put cells k v)
holds-put values table cells k x v h is j y e =
    ⊎_elim
    (λ p. subst (λ i. put cells k v i ≡ value_at values y) (sym p.0) (put-same cells k v ∙ is ∙ ap (value_at values) p.1))
    (λ p. put-other cells k v j p.0 ∙ h j y p.1)
    (put-cases table k x j y e)

pub holds-more : (values : List Value) (v : Value) (table : ℕ → Option ℕ) (cells : ℕ → Value) → Below table (length values) → Holds values table cells
    → Holds (values ++ v ∷ []) table cells
holds-more values v table cells below h k x e = h k x e ∙ sym (get_or_append_left values (v ∷ []) Undef x (below k x e))

-- the values of outputs, undefined until they are set
abbrev pub output_value : List Value → Option ℕ → Value
output_value values None = Undef
output_value values (Some x) = value_at values x

pub outputs-extend : (values : List Value) (v : Value) (outputs : List (Option ℕ)) → OutputsBelow (length values) outputs
    → map (output_value values) outputs ≡ map (output_value (values ++ v ∷ [])) outputs
outputs-extend values v [] h = refl
outputs-extend values v (None ∷ outputs) h = ap (λ xs. Undef ∷ xs) (outputs-extend values v outputs h.1)
outputs-extend values v (Some x ∷ outputs) h =
    ap (λ y. y ∷ map (output_value values) outputs) (sym (get_or_append_left values (v ∷ []) Undef x h.0))
    ∙ ap (λ xs. value_at (values ++ v ∷ []) x ∷ xs) (outputs-extend values v outputs h.1)

-- the stop of a check with these two values
abbrev pub stop_by : Check → Value → Value → Option Stop
stop_by check guard condition = if is_one guard then stop_of check.over_only check.label condition else None

pub stop-extend : (values : List Value) (v : Value) (checks : List Check) → ChecksBelow (length values) checks
    → first_stop values checks ≡ first_stop (values ++ v ∷ []) checks
stop-extend values v [] h = refl
stop-extend values v (check ∷ checks) h =
    let guard = get_or_append_left values (v ∷ []) Undef check.guard h.0 in
    let condition = get_or_append_left values (v ∷ []) Undef check.condition h.1 in
    ap (λ x. option_or (stop_by check x (value_at values check.condition)) (first_stop values checks)) (sym guard)
    ∙ ap (λ x. option_or (stop_by check (value_at (values ++ v ∷ []) check.guard) x) (first_stop values checks)) (sym condition)
    ∙ ap (option_or (check_stop (values ++ v ∷ []) check)) (stop-extend values v checks h.2)

or-assoc : (a b c : Option Stop) → option_or (option_or a b) c ≡ option_or a (option_or b c)
or-assoc None b c = refl
or-assoc (Some x) b c = refl

or-none : (a : Option Stop) → a ≡ option_or a None
or-none None = refl
or-none (Some x) = refl

-- one more check
pub stop-push : (values : List Value) (checks : List Check) (check : Check) → first_stop values (checks ++ check ∷ []) ≡ option_or (first_stop values checks)
    (check_stop values check)
stop-push values [] check = sym (or-none (check_stop values check))
stop-push values (other ∷ checks) check =
    ap (option_or (check_stop values other)) (stop-push values checks check)
    ∙ sym (or-assoc (check_stop values other) (first_stop values checks) (check_stop values check))

pub length-values : (inputs values : List Value) (nodes : List Node)
    → length (fold (λ values node. values ++ entry_of (values_for inputs) values node ∷ []) values nodes) ≡ length values + length nodes
length-values inputs values [] = let e : length values ≡ length values + 0 = omega arith in e
length-values inputs values (node ∷ nodes) =
    let more = values ++ entry_of (values_for inputs) values node ∷ [] in
    let e : length more + length nodes ≡ length values + suc (length nodes) = omega (arith, length_push values (entry_of (values_for inputs) values node)) in
    length-values inputs more nodes ∙ e

-- ---- one instruction
