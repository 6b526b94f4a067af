-- The types of a flat program's inputs, and the nodes that read inputs of type `Truth`.
use Rattle.std.proofs.Common.{◌≡◌, ℕ, zero, suc, ◌+◌, ◌<◌, Bool, true, false, cond, List, [], ◌∷◌, ◌++◌, drop, length, get_or, Option, refl, ⊎_elim, sym, ap}
use Rattle.std.proofs.Common.{◌∙◌, subst, arith, add-one, pos}
use Rattle.std.specs.List.{AllByRecursion, cons_option, filter_map}
use Rattle.std.specs.Prelude.{option_map}
use Rattle.m_fixed.specs.declared.amount.Value.{Value}
use Rattle.m_fixed.specs.declared.amount.Value.TheVariants.{Undef, Num}
use Rattle.m_fixed.specs.declared.operator.Op.TheVariants.{And}
use Rattle.m_fixed.specs.Operators.{op_value}
use Rattle.m_ast.specs.declared.variable.Role.{Role}
use Rattle.m_ast.specs.declared.variable.Role.TheVariants.{Input as InputRole, Computed as ComputedRole, Constant}
use Rattle.m_ast.specs.Items.{is_input, code_in}
use Rattle.m_symbols.specs.declared.variable.Variable.{Variable}
use Rattle.m_symbols.specs.Declarations.{inputs_from}
use Rattle.observables.specs.declared.inputs.Coded.{Coded}
use Rattle.observables.specs.declared.inputs.InputType.{InputType}
use Rattle.observables.specs.declared.inputs.InputType.TheVariants.{Any, Whole, Truth}
use Rattle.flat_code.specs.declared.program.Node.{Node}
use Rattle.flat_code.specs.declared.program.Node.TheVariants.{Input, Lit, Do}
use Rattle.flat_code.specs.declared.program.Check.{Check}
use Rattle.flat_code.specs.Entries.{node_at}
use Rattle.flat_code.specs.Tidy.{Reads, ReadsCheck, check_at}
use Rattle.driver_core.specs.Answers.{next_input}
use Rattle.driver_core.specs.Inputs.{type_declared, input_declared}
use Rattle.mpp_inline.specs.declared.builder.Builder.{Builder}
use Rattle.mpp_inline.specs.Inlined.{IsTruthInput, HasTruths, kinds_of}
use Rattle.mpp_inline.specs.inner.Observation.{nodes_of}
use Rattle.mpp_inline.specs.inner.Growth.{node_of, at, IsUsable, Sane, Pushed, Gives, HasInput, InputIsThere, kinds_from}
use Rattle.mpp_inline.proofs.ListLemmas.{all-append}
use Rattle.mpp_inline.proofs.UsableLemmas.{and-stands}
use Rattle.mpp_inline.proofs.GrowthLemmas.{grows-then, pushed-there, pushed-within, pushed-value, pushed-grows, stood-grows}
use Rattle.mpp_inline.proofs.CheckGrowth.{gives-pushed}

-- ---- the literals

abbrev pub literals : List Node
literals = Lit Undef ∷ Lit (Num (pos 0)) ∷ Lit (Num (pos 1000000)) ∷ []

pub literal-reads : (p x : ℕ) → Reads (node_at literals p) x → ⊥
literal-reads zero x r = r
literal-reads (suc zero) x r = r
literal-reads (suc (suc zero)) x r = r
literal-reads (suc (suc (suc p))) x r = r

pub literal-own : (kinds : List InputType) (k : ℕ) → IsTruthInput kinds (node_at literals k) → ⊥
literal-own kinds zero t = t
literal-own kinds (suc zero) t = t
literal-own kinds (suc (suc zero)) t = t
literal-own kinds (suc (suc (suc k))) t = t

-- ---- the node of an input

pub any-truth : Any ≡ Truth → ⊥
any-truth e = cc

pub whole-truth : Whole ≡ Truth → ⊥
whole-truth e = cc

pub input-gives : {b c : Builder} {next k : ℕ} {kind : InputType} → Pushed b c (Input next) k → HasInput b.inputs next kind → (kind ≡ Truth → ⊥) → Sane b
    → Gives b c (λ inputs. get_or inputs next Undef) k
input-gives {b} {c} {next} {k} p h other s = gives-pushed (λ inputs. get_or inputs next Undef) p h.there (λ t. other (sym h.is ∙ t)) s (λ inputs. refl)

pub truth-gives : {b c d : Builder} {next k j : ℕ} → Pushed b c (Input next) k → Pushed c d (Do And k k k) j → next < length b.inputs → Sane b
    → Gives b d (λ inputs. op_value And (get_or inputs next Undef) (get_or inputs next Undef) (get_or inputs next Undef)) j
truth-gives {b} {c} {d} {next} {k} {j} p q low s =
    let g = pushed-grows p low s in
    let value : (inputs : List Value) → at c inputs k ≡ get_or inputs next Undef = λ inputs. pushed-value p inputs in
    record {
      grows = grows-then g (stood-grows q (and-stands k (pushed-there p)) g.base.sane);
      within = pushed-within q (λ t. t);
      value = λ inputs. pushed-value q inputs ∙ (λ i. op_value And (value inputs i) (value inputs i) (value inputs i));
    }

-- ---- the types of the inputs

-- as many types as inputs
pub kinds-long : (n : ℕ) (vs : List Variable) → length (kinds_from vs) ≡ length (inputs_from n vs)
kinds-long n [] = refl
kinds-long n (v ∷ vs) = elim (is_input v.item.role) as (λ b. length (cond b (type_declared v.item.value_word ∷ kinds_from vs) (kinds_from vs)) ≡ length
    (cond b (n ∷ inputs_from (n + 1) vs) (inputs_from (n + 1) vs))) [
      | true ↦ ap suc (kinds-long (n + 1) vs)
      | false ↦ kinds-long (n + 1) vs
    ]

kinds-step : (role : Role) (word : Option (List ℕ)) (kinds : List InputType) (stated : List Coded) → kinds ≡ kinds_of stated
    → cond (is_input role) (type_declared word ∷ kinds) kinds ≡ kinds_of
    (cons_option (option_map (λ code. record { code = code; kind = type_declared word }) (code_in role)) stated)
kinds-step (InputRole code) word kinds stated e = ap (λ ks. type_declared word ∷ ks) e
kinds-step (ComputedRole size) word kinds stated e = e
kinds-step (Constant amount) word kinds stated e = e

-- they are the declared types
pub kinds-stated : (vs : List Variable) → kinds_from vs ≡ kinds_of (filter_map input_declared vs)
kinds-stated [] = refl
kinds-stated (v ∷ vs) = kinds-step v.item.role v.item.value_word (kinds_from vs) (filter_map input_declared vs) (kinds-stated vs)

append-append : (xs ys zs : List InputType) → (xs ++ ys) ++ zs ≡ xs ++ (ys ++ zs)
append-append [] ys zs = refl
append-append (x ∷ xs) ys zs = ap (λ l. x ∷ l) (append-append xs ys zs)

pub kinds-next : (kinds : List InputType) (v : Variable) (rest : List Variable)
    → (kinds ++ cond (is_input v.item.role) (type_declared v.item.value_word ∷ []) []) ++ kinds_from rest ≡ kinds ++ kinds_from (v ∷ rest)
kinds-next kinds v rest =
    append-append kinds (cond (is_input v.item.role) (type_declared v.item.value_word ∷ []) []) (kinds_from rest)
    ∙ ap (λ l. kinds ++ l) (by (is_input v.item.role))
  where
    by : (b : Bool) → cond b (type_declared v.item.value_word ∷ []) [] ++ kinds_from rest ≡ cond b (type_declared v.item.value_word ∷ kinds_from rest)
        (kinds_from rest)
    by true = refl
    by false = refl

-- the type of the next input
nil-cons : (kind : InputType) (rest : List InputType) → [] ≡ kind ∷ rest → ⊥
nil-cons kind rest e = cc

drop-cons : (kinds : List InputType) (n : ℕ) (kind : InputType) (rest : List InputType) → drop n kinds ≡ kind ∷ rest
    → HasInput kinds n kind × (drop (suc n) kinds ≡ rest)
drop-cons [] zero kind rest e = absurd (nil-cons kind rest e)
drop-cons [] (suc n) kind rest e = absurd (nil-cons kind rest e)
drop-cons (x ∷ kinds) zero kind rest e = (record { there = omega arith; is = let same : x ≡ kind = cc in same }, let same : kinds ≡ rest = cc in same)
drop-cons (x ∷ kinds) (suc n) kind rest e = let h = drop-cons kinds n kind rest e in (record { there = omega (arith, h.0.there); is = h.0.is }, h.1)

by-role : (kinds : List InputType) (n : ℕ) (kind : InputType) (role : Role) (rest : List InputType) → drop n kinds ≡ cond (is_input role) (kind ∷ rest) rest
    → InputIsThere kinds n kind role × (drop (next_input n role) kinds ≡ rest)
by-role kinds n kind (InputRole code) rest e = let h = drop-cons kinds n kind rest e in (h.0, ap (λ m. drop m kinds) (add-one n) ∙ h.1)
by-role kinds n kind (ComputedRole size) rest e = (tt, e)
by-role kinds n kind (Constant amount) rest e = (tt, e)

pub typed-next : (kinds : List InputType) (n : ℕ) (v : Variable) (rest : List Variable) → drop n kinds ≡ kinds_from (v ∷ rest)
    → InputIsThere kinds n (type_declared v.item.value_word) v.item.role × (drop (next_input n v.item.role) kinds ≡ kinds_from rest)
typed-next kinds n v rest e = by-role kinds n (type_declared v.item.value_word) v.item.role (kinds_from rest) e

-- ---- the end

pub every : {A : Type 0} (P : A → Type 0) (xs : List A) → AllByRecursion P xs → (k : ℕ) (d : A) → k < length xs → P (get_or xs k d)
every P [] all k d h = absurd (omega arith)
every P (x ∷ xs) all zero d h = all.0
every P (x ∷ xs) all (suc k) d h = every P xs all.1 k d (omega arith)

-- the nodes of notes are usable
notes-usable : (b : Builder) (ns : List (ℕ × ℕ)) → AllByRecursion (λ n. IsUsable b n.0) ns → AllByRecursion (IsUsable b) (nodes_of ns)
notes-usable b [] a = tt
notes-usable b (n ∷ ns) a = (a.0, notes-usable b ns a.1)

abbrev no-check : Check
no-check = record { guard = 0; condition = 0; over_only = false; label = 0 }

-- no output and no check reads an input of the type `Truth`
not-own : (b : Builder) (x y : ℕ) → IsUsable b y → x ≡ y → IsTruthInput b.inputs (node_of b x) → ⊥
not-own b x y u e t = u.own (subst (λ z. IsTruthInput b.inputs (node_of b z)) e t)

output-own : (b : Builder) (outputs : List ℕ) → AllByRecursion (IsUsable b) outputs → (x : ℕ) → ((j : ℕ) × (j < length outputs) × (x ≡ get_or outputs j 0))
    → IsTruthInput b.inputs (node_of b x) → ⊥
output-own b outputs all x r t = not-own b x (get_or outputs r.0 0) (every (IsUsable b) outputs all r.0 0 r.1) r.2 t

check-own : (b : Builder) (checks : List Check) → AllByRecursion (λ d. IsUsable b d.guard × IsUsable b d.condition) checks → (x : ℕ)
    → ((j : ℕ) × (j < length checks) × ReadsCheck (check_at checks j) x) → IsTruthInput b.inputs (node_of b x) → ⊥
check-own b checks all x r t =
    let c : Check = check_at checks r.0 in
    let own : IsUsable b c.guard × IsUsable b c.condition = every (λ (d : Check). IsUsable b d.guard × IsUsable b d.condition) checks all r.0 no-check r.1 in
    ⊎_elim (λ (e : x ≡ c.guard). not-own b x c.guard own.0 e t) (λ (e : x ≡ c.condition). not-own b x c.condition own.1 e t) r.2

-- who reads the inputs of the type `Truth`, in a whole program
pub whole-truths : (b : Builder) (inputs : ℕ) (wanted : List ℕ) → Sane b → AllByRecursion (IsUsable b) wanted
    → HasTruths b.inputs (record { inputs = inputs; nodes = b.nodes.items; checks = b.checks.items; outputs = nodes_of b.notes.items ++ wanted })
whole-truths b inputs wanted s a = record {
  read = s.fenced.nodes;
  rootless = λ x root t. ⊎_elim
      (λ (r : (j : ℕ) × (j < length (nodes_of b.notes.items ++ wanted)) × (x ≡ get_or (nodes_of b.notes.items ++ wanted) j 0)).
      output-own b (nodes_of b.notes.items ++ wanted) (all-append (IsUsable b) (nodes_of b.notes.items) wanted (notes-usable b b.notes.items s.fenced.notes) a)
      x r t)
      (λ (r : (j : ℕ) × (j < length b.checks.items) × ReadsCheck (check_at b.checks.items j) x). check-own b b.checks.items s.fenced.checks x r t)
      root;
}
