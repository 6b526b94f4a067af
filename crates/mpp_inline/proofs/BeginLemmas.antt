-- The start and the end of the program.
use Rattle.std.proofs.Common.{◌≡◌, ℕ, zero, suc, ◌+◌, ◌*◌, ◌<◌, ◌≤◌, Bool, true, false, cond, List, [], ◌∷◌, ◌++◌, map, take, drop, length, get_or, slice_get}
use Rattle.std.proofs.Common.{replicate, Option, Some, None, not, refl, ◌⊎◌, inl, inr, ⊎_elim, sym, ap, ◌∙◌, subst, arith, add-one, ℤ, pos, length-append}
use mathlib.Core.Bool.{◌||◌, ◌&&◌}
use Rattle.std.specs.List.{AllByRecursion, AllZip, cons_option, filter_map}
use Rattle.std.specs.Ordering.{int_eq}
use Rattle.std.specs.Option.{option_or, option_map_or}
use Rattle.std.specs.Prelude.{option_map}
use Rattle.std.proofs.lemmas.Bool.Decides.{Decides-int_eq}
use Rattle.std.proofs.lemmas.Bool.{cases_lt}
use Rattle.std.proofs.lemmas.List.{map-append, get_or-map, length-map}
use Rattle.std.proofs.lemmas.Option.{slice_get-get_or}
use Rattle.m_fixed.specs.declared.amount.Value.{Value}
use Rattle.m_fixed.specs.declared.amount.Value.TheVariants.{Undef, Num, Over as OverValue}
use Rattle.m_fixed.specs.declared.operator.Op.TheVariants.{And}
use Rattle.m_fixed.specs.Operators.{op_value, bounded, truth, is_zero}
use Rattle.m_places.specs.declared.limits.TheConstants.{CELLS, DRIVER_WEIGHT}
use Rattle.m_places.specs.declared.verification.Label.{Label}
use Rattle.m_ast.specs.declared.variable.Role.{Role}
use Rattle.m_ast.specs.declared.variable.Role.TheVariants.{Input as InputRole, Computed as ComputedRole, Constant}
use Rattle.m_ast.specs.Items.{is_input, code_in}
use Rattle.m_symbols.specs.declared.variable.Variable.{Variable}
use Rattle.m_symbols.specs.Declarations.{Declared, inputs_from, owners_from}
use Rattle.micro_m.specs.declared.base.Base.{Base}
use Rattle.driver_core.specs.declared.program.Core.{Core}
use Rattle.micro_m.specs.Values.{environment}
use Rattle.observables.specs.declared.answer.Stop.{Stop}
use Rattle.observables.specs.declared.answer.Stop.TheVariants.{Failed}
use Rattle.observables.specs.declared.answer.Answer.TheVariants.{Values, Stopped}
use Rattle.flat_code.specs.declared.program.Node.{Node}
use Rattle.flat_code.specs.Entries.{node_at}
use Rattle.flat_code.specs.Tidy.{Reads}
use Rattle.flat_code.specs.declared.program.Check.{Check}
use Rattle.observables.specs.declared.face.FaceLabel.{FaceLabel}
use Rattle.observables.specs.declared.face.FaceLabel.TheVariants.{Verif, DriverLine}
use Rattle.observables.specs.declared.inputs.Coded.{Coded}
use Rattle.observables.specs.declared.inputs.InputType.{InputType}
use Rattle.observables.specs.declared.inputs.InputType.TheVariants.{Any, Whole, Truth}
use Rattle.observables.specs.Inputs.{IsValueOf, AreValuesOf}
use Rattle.observables.specs.Outputs.{verif_of, verif_at}
use Rattle.observables.specs.Answers.{Cause, stopped, label_number, cause_of, is_reported, reported_notes, observation}
use Rattle.flat_code.specs.Runs.{IsCheck, AreNodes, node_values, is_one, stop_of as stop_at, check_stop, first_stop}
use Rattle.driver_core.specs.Answers.{first_value, next_input, start_from, observation_by}
use Rattle.driver_core.specs.Inputs.{type_declared, input_declared, inputs_declared}
use Rattle.driver_core.specs.Meaning.{Env, RunState, goes, then_do, unless_stopped}
use Rattle.mpp_inline.specs.declared.builder.Builder.{Builder}
use Rattle.mpp_inline.specs.inner.Growth.{count, at, stop_of, stop_read, so_far, notes_read, IsVerif, denoted, outcome_of, run, IsCheckWithin, IsNoteWithin}
use Rattle.mpp_inline.specs.inner.Growth.{IsUsable, typed_value, begun_value, begun_from, Sane, Known, HasLiterals, Begun, Grows, Gives, IsAnInput}
use Rattle.driver_core.specs.Weights.{weight_of}
use Rattle.mpp_inline.specs.inner.Sizes.{load}
use Rattle.mpp_inline.specs.inner.Observation.{ended, ended_so, nodes_of, numbers_of, Answers}
use Rattle.mpp_inline.specs.Inlined.{IsInlined, HasTruths, IsTruthInput, IsDriverLine}
use Rattle.mpp_inline.specs.inner.Work.{under, Step}
use Rattle.mpp_inline.proofs.OutcomeLemmas.{append-none}
use Rattle.mpp_inline.proofs.ListLemmas.{all-append, all-more}
use Rattle.mpp_inline.proofs.GrowthLemmas.{past-line, grows-none, grows-then, known-on, denoted-on, known-get, denoted-get}
use Rattle.mpp_inline.proofs.TruthLemmas.{literals, literal-reads, literal-own, kinds-long, kinds-stated, every, whole-truths}

-- ---- the first nodes

pub has-literals : (labels : List Label) (b : Builder) → b.nodes.items ≡ literals → b.checks.items ≡ [] → b.labels.items ≡ map Verif labels → b.notes.items ≡ []
    → HasLiterals labels b
has-literals labels b e f g none =
    let value : (inputs : List Value) (k : ℕ) → at b inputs k ≡ get_or (node_values inputs literals) k Undef = λ inputs k. ap
    (λ ns. get_or (node_values inputs ns) k Undef) e in
    record {
      sane = record {
        nodes = subst (AreNodes (length b.inputs) 0) (sym e) (tt, (tt, (tt, tt)));
        fenced = record {
          nodes = λ p x h r t. absurd (literal-reads p x (subst (λ ns. Reads (node_at ns p) x) e r));
          checks = subst (AllByRecursion (λ c. IsUsable b c.guard × IsUsable b c.condition)) (sym f) tt;
          notes = subst (AllByRecursion (λ n. IsUsable b n.0)) (sym none) tt;
        };
        checks = subst (λ cs. AllByRecursion (λ c. IsCheckWithin (count b) (length b.labels.items) c) cs) (sym f) tt;
        notes = subst (λ ns. AllByRecursion (λ n. IsNoteWithin (count b) b.labels.items n) ns) (sym none) tt;
        three = omega (arith, ap length e);
        literal = λ k h. record {
          there = omega (arith, ap length e, h);
          own = λ t. literal-own b.inputs k
              (subst (λ ns. IsTruthInput b.inputs (node_at ns k)) e t);
        };
        undef = λ inputs. value inputs 0;
        zero = λ inputs. value inputs 1;
        one = λ inputs. value inputs 2;
      };
      labelled = record {
        within = omega (arith, ap length g, length-map labels Verif);
        same = λ i d h. ap (λ ls. get_or ls i (DriverLine 0)) g ∙ get_or-map Verif labels i d (DriverLine 0) h;
        others = λ l h. past-line b.labels.items l (omega (arith, h, ap length g, length-map labels Verif));
      };
      labelling = λ i. record { labels = g i; checks = map (λ (c : Check). c.label) (f i); notes = map (λ (n : ℕ × ℕ). n.1) (none i) };
      one = λ inputs. value inputs 2;
      reported = λ inputs. λ i. record {
        stop = stop_read b.labels.items (first_stop (node_values inputs b.nodes.items) (f i));
        notes = notes_read b.labels.items (at b inputs) (none i);
      };
    }

-- ---- the cells

append-append : (xs ys zs : List Value) → (xs ++ ys) ++ zs ≡ xs ++ (ys ++ zs)
append-append [] ys zs = refl
append-append (x ∷ xs) ys zs = ap (λ l. x ∷ l) (append-append xs ys zs)

replicate-map : (f : ℕ → Value) (n k : ℕ) → map f (replicate n k) ≡ replicate n (f k)
replicate-map f zero k = refl
replicate-map f (suc n) k = ap (λ l. f k ∷ l) (replicate-map f n k)

all-replicate : (P : ℕ → Type 0) (n k : ℕ) → P k → AllByRecursion P (replicate n k)
all-replicate P zero k h = tt
all-replicate P (suc n) k h = (h, all-replicate P n k h)

pub replicate-long : {A : Type 0} (n : ℕ) (x : A) → length (replicate n x) ≡ n
replicate-long zero x = refl
replicate-long (suc n) x = ap suc (replicate-long n x)

-- the cells of the first variables, followed by those of the others
pub record Starting (b c : Builder) (all rest : List Variable) (next : ℕ) (env : List ℕ) : Type 0 where
  pub grows : Grows b c
  pub known : Known c env
  pub value : (inputs : List Value) → denoted c inputs env ++ begun_from inputs next rest ≡ begun_from inputs 0 all

pub starting-first : {b : Builder} (all : List Variable) → Sane b → Starting b b all all 0 []
starting-first all s = record { grows = grows-none s; known = record { all = tt }; value = λ inputs. refl }

pub starting-next : {b c d : Builder} {all rest : List Variable} {next k : ℕ} {env : List ℕ} (v : Variable) → Starting b c all (v ∷ rest) next env
    → (Sane c → Gives c d (λ inputs. begun_value inputs next v.item) k) → Starting b d all rest (next_input next v.item.role) (env ++ replicate v.cells k)
starting-next {b} {c} {d} {all} {rest} {next} {k} {env} v s step =
    let g = step s.grows.base.sane in
    let l = g.grows.base in
    let kn = known-on l s.known in
    record {
      grows = grows-then s.grows g.grows;
      known = record { all = all-append (IsUsable d) env (replicate v.cells k) kn.all (all-replicate (IsUsable d) v.cells k g.within) };
      value = λ inputs.
          ap (λ xs. xs ++ begun_from inputs (next_input next v.item.role) rest)
          (map-append (at d inputs) env (replicate v.cells k)
          ∙ (λ i. denoted-on inputs l s.known i ++ (replicate-map (at d inputs) v.cells k ∙ ap (replicate v.cells) (g.value inputs)) i))
          ∙ append-append (denoted c inputs env) (replicate v.cells (begun_value inputs next v.item)) (begun_from inputs (next_input next v.item.role) rest)
          ∙ s.value inputs;
    }

pub starting-last : {b c : Builder} {all rest : List Variable} {next : ℕ} {env : List ℕ} → rest ≡ [] → Starting b c all rest next env
    → Begun b c (λ inputs. begun_from inputs 0 all) env
starting-last {b} {c} {all} {rest} {next} {env} none s = record {
  grows = s.grows;
  known = s.known;
  value = λ inputs. sym (append-none (denoted c inputs env)) ∙ ap (λ vs. denoted c inputs env ++ begun_from inputs next vs) (sym none) ∙ s.value inputs;
}

-- ---- values that inputs may have

-- an input of the type `Truth` is the And of itself with itself
or-cases : (a b : Bool) → (a || b) ≡ true → (a ≡ true) ⊎ (b ≡ true)
or-cases true b h = inl refl
or-cases false b h = inr h

truth-number : (z : ℤ) → (int_eq z (pos 0) || int_eq z (pos 1000000)) ≡ true → bounded (truth (not (is_zero z) && not (is_zero z))) ≡ Num z
truth-number z h = ⊎_elim
    (λ (e : int_eq z (pos 0) ≡ true). subst (λ (x : ℤ). bounded (truth (not (is_zero x) && not (is_zero x))) ≡ Num x) (sym ((Decides-int_eq z (pos 0)).0 e))
    refl)
    (λ (e : int_eq z (pos 1000000) ≡ true). subst (λ (x : ℤ). bounded (truth (not (is_zero x) && not (is_zero x))) ≡ Num x)
    (sym ((Decides-int_eq z (pos 1000000)).0 e)) refl)
    (or-cases (int_eq z (pos 0)) (int_eq z (pos 1000000)) h)

and-number : (z : ℤ) → op_value And (Num z) (Num z) (Num z) ≡ bounded (truth (not (is_zero z) && not (is_zero z)))
unfolding op_value
and-number z = refl

and-undefined : op_value And Undef Undef Undef ≡ Undef
unfolding op_value
and-undefined = refl

value-typed : (kind : InputType) (v : Value) → IsValueOf kind v → typed_value kind v ≡ v
value-typed Any v h = refl
value-typed Whole v h = refl
value-typed Truth Undef h = and-undefined
value-typed Truth (Num z) h = and-number z ∙ truth-number z h.1
value-typed Truth OverValue h = absurd h

abbrev MayBe : Coded → Value → Type 0
MayBe input value = IsValueOf input.kind value

zip-next : (input : Coded) (stated : List Coded) (inputs : List Value) (n : ℕ) → AllZip MayBe (input ∷ stated) (drop n inputs)
    → IsValueOf input.kind (get_or inputs n Undef) × AllZip MayBe stated (drop (suc n) inputs)
zip-next input stated [] zero h = absurd h
zip-next input stated [] (suc n) h = absurd h
zip-next input stated (x ∷ inputs) zero h = h
zip-next input stated (x ∷ inputs) (suc n) h = zip-next input stated inputs n h

by-role : (inputs : List Value) (n : ℕ) (role : Role) (word : Option (List ℕ)) (stated : List Coded)
    → AllZip MayBe (cons_option (option_map (λ code. record { code = code; kind = type_declared word }) (code_in role)) stated) (drop n inputs) →
    (cond (is_input role) (typed_value (type_declared word) (get_or inputs n Undef)) (first_value inputs n role) ≡ first_value inputs n role)
    × AllZip MayBe stated (drop (next_input n role) inputs)
by-role inputs n (InputRole code) word stated h =
    let next = zip-next (record { code = code; kind = type_declared word }) stated inputs n h in
    (value-typed (type_declared word) (get_or inputs n Undef) next.0, subst (λ m. AllZip MayBe stated (drop m inputs)) (sym (add-one n)) next.1)
by-role inputs n (ComputedRole size) word stated h = (refl, h)
by-role inputs n (Constant amount) word stated h = (refl, h)

begun-from : (inputs : List Value) (n : ℕ) (vs : List Variable) → AllZip MayBe (filter_map input_declared vs) (drop n inputs)
    → begun_from inputs n vs ≡ start_from inputs n vs
begun-from inputs n [] h = refl
begun-from inputs n (v ∷ vs) h =
    let s = by-role inputs n v.item.role v.item.value_word (filter_map input_declared vs) h in
    λ i. replicate v.cells (s.0 i) ++ begun-from inputs (next_input n v.item.role) vs s.1 i

-- the first nodes have the initial values of the cells, for values that the inputs may have
pub begun-same : (declared : Declared) (inputs : List Value) → AreValuesOf (inputs_declared declared) inputs
    → begun_from inputs 0 declared.variables ≡ start_from inputs 0 declared.variables
begun-same declared inputs h = begun-from inputs 0 declared.variables h

-- ---- the inputs

inputs-alike : (m n : ℕ) (vs : List Variable) → length (inputs_from m vs) ≡ length (inputs_from n vs)
inputs-alike m n [] = refl
inputs-alike m n (v ∷ vs) = elim (is_input v.item.role) as (λ b. length (cond b (m ∷ inputs_from (m + 1) vs) (inputs_from (m + 1) vs)) ≡ length
    (cond b (n ∷ inputs_from (n + 1) vs) (inputs_from (n + 1) vs))) [
      | true ↦ ap suc (inputs-alike (m + 1) (n + 1) vs)
      | false ↦ inputs-alike (m + 1) (n + 1) vs
    ]

-- the inputs so far and the remaining ones are all inputs
pub inputs-next : (next total : ℕ) (v : Variable) (rest : List Variable) → next + length (inputs_from 0 (v ∷ rest)) ≡ total
    → next_input next v.item.role + length (inputs_from 0 rest) ≡ total
inputs-next next total v rest h = by (is_input v.item.role) h
  where
    by : (b : Bool) → next + length (cond b (0 ∷ inputs_from 1 rest) (inputs_from 1 rest)) ≡ total
        → cond b (next + 1) next + length (inputs_from 0 rest) ≡ total
    by true e = omega (arith, e, inputs-alike 0 1 rest)
    by false e = omega (arith, e, inputs-alike 0 1 rest)

there : (next total most : ℕ) (role : Role) (rest : List ℕ) → next + length (cond (is_input role) (0 ∷ rest) rest) ≡ total → total ≤ most
    → IsAnInput most next role
there next total most (InputRole code) rest h l = omega (arith, h, l)
there next total most (ComputedRole size) rest h l = tt
there next total most (Constant amount) rest h l = tt

pub input-there : (next total most : ℕ) (v : Variable) (rest : List Variable) → next + length (inputs_from 0 (v ∷ rest)) ≡ total → total ≤ most
    → IsAnInput most next v.item.role
input-there next total most v rest h l = there next total most v.item.role (inputs_from 1 rest) h l

pub drop-get : (vs : List Variable) (i : ℕ) (v : Variable) → slice_get vs i ≡ Some v → drop i vs ≡ v ∷ drop (suc i) vs
drop-get [] i v e = absurd (none-some e)
  where
    none-some : {x : Variable} → None ≡ Some x → ⊥
    none-some p = cc
drop-get (x ∷ vs) zero v e = let same : x ≡ v = cc in ap (λ y. y ∷ vs) same
drop-get (x ∷ vs) (suc i) v e = drop-get vs i v e

-- as many values as cells
pub start-long : (inputs : List Value) (n m : ℕ) (vs : List Variable) → length (start_from inputs n vs) ≡ length (owners_from m vs)
start-long inputs n m [] = refl
start-long inputs n m (v ∷ vs) =
    length-append (replicate v.cells (first_value inputs n v.item.role)) (start_from inputs (next_input n v.item.role) vs)
    ∙ (λ i. (replicate-long v.cells (first_value inputs n v.item.role) ∙ sym (replicate-long v.cells m)) i + start-long inputs (next_input n v.item.role)
    (m + 1) vs i)
    ∙ sym (length-append (replicate v.cells m) (owners_from (m + 1) vs))

-- ---- the end
