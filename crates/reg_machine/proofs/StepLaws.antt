use Rattle.std.proofs.Common.{◌≡◌, ℕ, zero, suc, ◌+◌, ◌<◌, Bool, true, false, ◌⊎◌, List, [], ◌∷◌, ◌++◌, length, get_or, set, map, replicate, Option, None, Some}
use Rattle.std.proofs.Common.{refl, ap, sym, ◌∙◌, subst, inl, inr, ⊎_elim, arith}
use Rattle.std.specs.Prelude.{if◌then◌else◌, fold}
use Rattle.std.specs.Option.{option_and_then, option_map, option_map_or, option_or}
use Rattle.std.proofs.lemmas.List.{get_or_append_left, get_or_push, length_push, map-set}
use Rattle.std.proofs.lemmas.List.Sums.{fold_push}
use Rattle.m_fixed.specs.declared.amount.Value.{Value}
use Rattle.m_fixed.specs.declared.amount.Value.TheVariants.{Undef}
use Rattle.m_fixed.specs.Operators.{op_value}
use Rattle.flat_code.specs.declared.program.Node.{Node}
use Rattle.flat_code.specs.declared.program.Node.TheVariants.{Input, Lit as LitNode, Do as DoNode}
use Rattle.flat_code.specs.declared.program.Check.{Check}
use Rattle.flat_code.specs.declared.program.Flat.{Flat}
use Rattle.observables.specs.declared.answer.Stop.{Stop}
use Rattle.observables.specs.declared.answer.Answer.TheVariants.{Values, Stopped}
use Rattle.flat_code.specs.Runs.{entry_of, values_for, node_values, value_at, is_one, stop_of, check_stop, first_stop, flat_run}
use Rattle.reg_machine.specs.declared.instr.Instr.{Instr}
use Rattle.reg_machine.specs.declared.instr.Instr.TheVariants.{Take, Lit, Do, Store, Load, Check as Test, Output}
use Rattle.reg_machine.specs.Flow.{Counts, Listing, State, put, start, step, has_numbers, moved, with_node, reading, all_given, spelled, flow_of}
use Rattle.reg_machine.specs.Machine.{Machine, fresh, act, act_at, acts, answer_of, machine_run}
use Rattle.reg_machine.proofs.TableLemmas.{put-same, put-other, put-cases, none≢some, some-is}
use Rattle.reg_machine.proofs.LawLemmas.{Below, ChecksBelow, OutputsBelow, checks-more, checks-push, outputs-more, outputs-set, outputs-none, below-put}
use Rattle.reg_machine.proofs.LawLemmas.{below-more, Holds, holds-put, holds-more, output_value, outputs-extend, stop_by, stop-extend, stop-push, length-values}

-- the nodes in a state of the symbolic run exist
record Known (s : State) : Type 0 where
  registers : Below s.registers (length s.nodes)
  slots : Below s.slots (length s.nodes)
  checks : ChecksBelow (length s.nodes) s.checks
  outputs : OutputsBelow (length s.nodes) s.outputs

-- a machine whose run hasn't ended has the values of the nodes in the symbolic run
record Runs (inputs : List Value) (s : State) (m : Machine) : Type 0 where
  registers : Holds (node_values inputs s.nodes) s.registers m.registers
  slots : Holds (node_values inputs s.nodes) s.slots m.slots
  outputs : m.outputs ≡ map (output_value (node_values inputs s.nodes)) s.outputs

record Goes (inputs : List Value) (s : State) (m : Machine) : Type 0 where
  known : Known s
  ended : m.ended ≡ first_stop (node_values inputs s.nodes) s.checks
  running : m.ended ≡ None → Runs inputs s m

-- the effect of an instruction: the invariants hold, and a run that has ended is unchanged
record Acts (inputs : List Value) (i : Instr) (s s' : State) : Type 0 where
  known : Known s'
  stays : (stop : Stop) → first_stop (node_values inputs s.nodes) s.checks ≡ Some stop → first_stop (node_values inputs s'.nodes) s'.checks ≡ Some stop
  goes : (m : Machine) → m.ended ≡ None → None ≡ first_stop (node_values inputs s.nodes) s.checks → Runs inputs s m
      → ((act inputs i m).ended ≡ first_stop (node_values inputs s'.nodes) s'.checks) × Runs inputs s' (act inputs i m)

then-from : (o : Option ℕ) (f : ℕ → Option State) (t : State) → option_and_then f o ≡ Some t → (x : ℕ) × (o ≡ Some x) × (f x ≡ Some t)
then-from None f t e = absurd (none≢some t e)
then-from (Some x) f t e = (x, refl, e)

map-from : (o : Option ℕ) (f : ℕ → State) (t : State) → option_map f o ≡ Some t → (x : ℕ) × (o ≡ Some x) × (f x ≡ t)
map-from None f t e = absurd (none≢some t e)
map-from (Some x) f t e = (x, refl, some-is (f x) t e)

pub step-from : (n : Counts) (i : Instr) (s t : State) → step n i s ≡ Some t → (has_numbers n s i ≡ true) × (moved i s ≡ Some t)
step-from n i s t e = from (has_numbers n s i) refl e
  where
    from : (b : Bool) → has_numbers n s i ≡ b → (if b then moved i s else None) ≡ Some t → (has_numbers n s i ≡ true) × (moved i s ≡ Some t)
    from true is e = (is, e)
    from false is e = absurd (none≢some t e)

-- a node with the value that the instruction computes
acts-node : (inputs : List Value) (i : Instr) (r : ℕ) (node : Node) (s : State) (v : Machine → Value) → Known s
    → ((m : Machine) → act inputs i m ≡ record m { registers = put m.registers r (v m) })
    → ((m : Machine) → Runs inputs s m → v m ≡ entry_of (values_for inputs) (node_values inputs s.nodes) node) → Acts inputs i s (with_node r node s)
acts-node inputs i r node s v known does is =
    let n = length s.nodes in
    let values = node_values inputs s.nodes in
    let value = entry_of (values_for inputs) values node in
    let after : State = with_node r node s in
    let long : length values ≡ n = length-values inputs [] s.nodes ∙ (let z : 0 + n ≡ n = omega arith in z) in
    let more : length after.nodes ≡ suc n = length_push s.nodes node ∙ (let z : n + 1 ≡ suc n = omega arith in z) in
    let grown : node_values inputs after.nodes ≡ values ++ value ∷ [] = fold_push (λ values node. values ++ entry_of (values_for inputs) values node ∷ []) []
    s.nodes node in
    let Same : List Value → Type 0 = λ vs. first_stop values s.checks ≡ first_stop vs s.checks in
    let same : Same (node_values inputs after.nodes) = subst Same (sym grown)
    (stop-extend values value s.checks (subst (λ k. ChecksBelow k s.checks) (sym long) known.checks)) in
    record {
      known = record {
        registers = subst (Below after.registers) (sym more) (below-put s.registers (suc n) r n (below-more s.registers n known.registers) (omega arith));
        slots = subst (Below s.slots) (sym more) (below-more s.slots n known.slots);
        checks = subst (λ k. ChecksBelow k s.checks) (sym more) (checks-more n s.checks known.checks);
        outputs = subst (λ k. OutputsBelow k s.outputs) (sym more) (outputs-more n s.outputs known.outputs);
      };
      stays = λ stop f. sym same ∙ f;
      goes = λ m live none runs.
          let Done : Machine → Type 0 = λ a. (a.ended ≡ first_stop (node_values inputs after.nodes) s.checks) × Runs inputs after a in
          subst Done (sym (does m)) (
            live ∙ none ∙ same,
            record {
              registers = subst (λ vs. Holds vs after.registers (put m.registers r (v m))) (sym grown)
                  (holds-put (values ++ value ∷ []) s.registers m.registers r n (v m)
                  (holds-more values value s.registers m.registers (subst (Below s.registers) (sym long) known.registers) runs.registers) (is m runs
                  ∙ sym (get_or_push values value Undef n long)));
              slots = subst (λ vs. Holds vs s.slots m.slots) (sym grown) (holds-more values value s.slots m.slots (subst (Below s.slots) (sym long) known.slots)
                  runs.slots);
              outputs = subst (λ vs. m.outputs ≡ map (output_value vs) s.outputs) (sym grown) (runs.outputs
                  ∙ outputs-extend values value s.outputs (subst (λ k. OutputsBelow k s.outputs) (sym long) known.outputs));
            },
          );
    }

acts-one : (inputs : List Value) (i : Instr) (s s' : State) → Known s → moved i s ≡ Some s' → Acts inputs i s s'
acts-one inputs (Take r n) s s' known e = subst (Acts inputs (Take r n) s) (some-is _ s' e)
    (acts-node inputs (Take r n) r (Input n) s (λ m. get_or inputs n Undef) known (λ m. refl) (λ m runs. refl))
acts-one inputs (Lit r v) s s' known e = subst (Acts inputs (Lit r v) s) (some-is _ s' e)
    (acts-node inputs (Lit r v) r (LitNode v) s (λ m. v) known (λ m. refl) (λ m runs. refl))
acts-one inputs (Do op r a b c) s s' known e =
    let x = then-from (s.registers a) _ s' e in
    let y = then-from (s.registers b) _ s' x.2 in
    let z = map-from (s.registers c) _ s' y.2 in
    subst (Acts inputs (Do op r a b c) s) z.2
    (acts-node inputs (Do op r a b c) r (DoNode op x.0 y.0 z.0) s (λ m. op_value op (m.registers a) (m.registers b) (m.registers c)) known (λ m. refl)
    (λ m runs.
    let vs = node_values inputs s.nodes in
    ap (λ v. op_value op v (m.registers b) (m.registers c)) (runs.registers a x.0 x.1)
    ∙ ap (λ v. op_value op (value_at vs x.0) v (m.registers c)) (runs.registers b y.0 y.1)
    ∙ ap (λ v. op_value op (value_at vs x.0) (value_at vs y.0) v) (runs.registers c z.0 z.1)))
acts-one inputs (Store k r) s s' known e =
    let x = map-from (s.registers r) _ s' e in
    subst (Acts inputs (Store k r) s) x.2 (record {
      known = record {
        registers = known.registers;
        slots = below-put s.slots (length s.nodes) k x.0 known.slots (known.registers r x.0 x.1);
        checks = known.checks;
        outputs = known.outputs;
      };
      stays = λ stop f. f;
      goes = λ m live none runs. (
        live ∙ none,
        record {
          registers = runs.registers;
          slots = holds-put (node_values inputs s.nodes) s.slots m.slots k x.0
              (m.registers r) runs.slots (runs.registers r x.0 x.1);
          outputs = runs.outputs;
        },
      );
    })
acts-one inputs (Load r k) s s' known e =
    let x = map-from (s.slots k) _ s' e in
    subst (Acts inputs (Load r k) s) x.2 (record {
      known = record {
        registers = below-put s.registers (length s.nodes) r x.0 known.registers (known.slots k x.0 x.1);
        slots = known.slots;
        checks = known.checks;
        outputs = known.outputs;
      };
      stays = λ stop f. f;
      goes = λ m live none runs. (
        live ∙ none,
        record {
          registers = holds-put (node_values inputs s.nodes) s.registers m.registers r x.0 (m.slots k)
              runs.registers (runs.slots k x.0 x.1);
          slots = runs.slots;
          outputs = runs.outputs;
        },
      );
    })
acts-one inputs (Test g r over_only label) s s' known e =
    let x = then-from (s.registers g) _ s' e in
    let y = map-from (s.registers r) _ s' x.2 in
    let check : Check = record { guard = x.0; condition = y.0; over_only = over_only; label = label } in
    let values = node_values inputs s.nodes in
    let more : first_stop values (s.checks ++ check ∷ []) ≡ option_or (first_stop values s.checks) (check_stop values check) = stop-push values s.checks
    check in
    subst (Acts inputs (Test g r over_only label) s) y.2 (record {
      known = record {
        registers = known.registers;
        slots = known.slots;
        checks = checks-push (length s.nodes) s.checks check known.checks
            (known.registers g x.0 x.1) (known.registers r y.0 y.1);
        outputs = known.outputs;
      };
      stays = λ stop f. more ∙ ap (λ o. option_or o (check_stop values check)) f;
      goes = λ m live none runs. (
        ap (λ v. stop_by check v (m.registers r)) (runs.registers g x.0 x.1)
            ∙ ap (λ v. stop_by check (value_at values x.0) v) (runs.registers r y.0 y.1)
            ∙ ap (λ o. option_or o (check_stop values check)) none ∙ sym more,
        record { registers = runs.registers; slots = runs.slots; outputs = runs.outputs },
      );
    })
acts-one inputs (Output k r) s s' known e =
    let x = map-from (s.registers r) _ s' e in
    let values = node_values inputs s.nodes in
    subst (Acts inputs (Output k r) s) x.2 (record {
      known = record {
        registers = known.registers;
        slots = known.slots;
        checks = known.checks;
        outputs = outputs-set (length s.nodes) s.outputs k x.0
            known.outputs (known.registers r x.0 x.1);
      };
      stays = λ stop f. f;
      goes = λ m live none runs. (
        live ∙ none,
        record {
          registers = runs.registers;
          slots = runs.slots;
          outputs = ap (λ xs. set xs k (m.registers r)) runs.outputs
              ∙ ap (set (map (output_value values) s.outputs) k) (runs.registers r x.0 x.1) ∙ sym (map-set (output_value values) s.outputs k (Some x.0));
        },
      );
    })

-- ---- all instructions

goes-on : (n : Counts) (inputs : List Value) (i : Instr) (s s' : State) (m : Machine) → Goes inputs s m → step n i s ≡ Some s'
    → Goes inputs s' (act_at inputs m.ended i m)
goes-on n inputs i s s' m h e =
    let a = acts-one inputs i s s' h.known (step-from n i s s' e).1 in
    ⊎_elim
    (λ (none : m.ended ≡ None).
    let b = a.goes m none (sym none ∙ h.ended) (h.running none) in
    subst (λ o. Goes inputs s' (act_at inputs o i m)) (sym none) (record { known = a.known; ended = b.0; running = λ _. b.1 }))
    (λ (some : (stop : Stop) × (m.ended ≡ Some stop)).
    subst (λ o. Goes inputs s' (act_at inputs o i m)) (sym some.1)
    (record { known = a.known; ended = some.1 ∙ sym (a.stays some.0 (sym h.ended ∙ some.1)); running = λ z. absurd (none≢some some.0 (sym z ∙ some.1)) }))
    (cases m.ended)
  where
    cases : (o : Option Stop) → (o ≡ None) ⊎ ((stop : Stop) × (o ≡ Some stop))
    cases None = inl refl
    cases (Some stop) = inr (stop, refl)

-- once an instruction is wrong, there is no state
pub reading-none : (n : Counts) (code : List Instr) → fold (λ s i. option_and_then (step n i) s) None code ≡ None
reading-none n [] = refl
reading-none n (i ∷ code) = reading-none n code

goes-all : (n : Counts) (inputs : List Value) (code : List Instr) (s t : State) (m : Machine) → Goes inputs s m
    → fold (λ s i. option_and_then (step n i) s) (Some s) code ≡ Some t → Goes inputs t (acts inputs m code)
goes-all n inputs [] s t m h e = subst (λ s. Goes inputs s m) (some-is s t e) h
goes-all n inputs (i ∷ code) s t m h e = next (λ s' a. goes-all n inputs code s' t (act_at inputs m.ended i m) (goes-on n inputs i s s' m h a)) (step n i s)
    refl e
  where
    next : ((s' : State) → step n i s ≡ Some s' → fold (λ s i. option_and_then (step n i) s) (Some s') code ≡ Some t
        → Goes inputs t (acts inputs (act_at inputs m.ended i m) code)) → (o : Option State) → step n i s ≡ o
        → fold (λ s i. option_and_then (step n i) s) o code ≡ Some t → Goes inputs t (acts inputs (act_at inputs m.ended i m) code)
    next rest None a b = absurd (none≢some t (sym (reading-none n code) ∙ b))
    next rest (Some s') a b = rest s' a b

output-none : (n : ℕ) → replicate n Undef ≡ map (output_value []) (replicate n None)
output-none zero = refl
output-none (suc n) = ap (λ xs. Undef ∷ xs) (output-none n)

all-given : (values : List Value) (outputs : List (Option ℕ)) (xs : List ℕ) → all_given outputs ≡ Some xs
    → map (output_value values) outputs ≡ map (value_at values) xs
all-given values [] xs e = ap (map (value_at values)) (some-is [] xs e)
all-given values (None ∷ outputs) xs e = absurd (none≢some xs e)
all-given values (Some x ∷ outputs) xs e = next (λ ys a. all-given values outputs ys a) (all_given outputs) refl e
  where
    next : ((ys : List ℕ) → all_given outputs ≡ Some ys → map (output_value values) outputs ≡ map (value_at values) ys) → (o : Option (List ℕ))
        → all_given outputs ≡ o → option_map (λ xs. x ∷ xs) o ≡ Some xs → value_at values x ∷ map (output_value values) outputs ≡ map (value_at values) xs
    next rest None a b = absurd (none≢some xs b)
    next rest (Some ys) a b = ap (λ zs. value_at values x ∷ zs) (rest ys a) ∙ ap (map (value_at values)) (some-is (x ∷ ys) xs b)

pub run-is-flat_run : (code : Listing) (flat : Flat) (inputs : List Value) → flow_of code ≡ Some flat → machine_run code inputs ≡ flat_run flat inputs
run-is-flat_run code flat inputs e = next (reading code) refl e
  where
    n : ℕ
    n = code.counts.outputs

    first : Goes inputs (start n) (fresh n)
    first = record {
      known = record { registers = λ k x f. absurd (none≢some x f); slots = λ k x f. absurd (none≢some x f); checks = tt; outputs = outputs-none 0 n };
      ended = refl;
      running = λ _. record { registers = λ k x f. absurd (none≢some x f); slots = λ k x f. absurd (none≢some x f); outputs = output-none n };
    }

    given : (s : State) (o : Option (List ℕ)) → all_given s.outputs ≡ o
        → option_map (λ outputs. record { inputs = code.counts.inputs; nodes = s.nodes; checks = s.checks; outputs = outputs }) o ≡ Some flat
        → (outputs : List ℕ) × (all_given s.outputs ≡ Some outputs)
        × (record { inputs = code.counts.inputs; nodes = s.nodes; checks = s.checks; outputs = outputs } ≡ flat)
    given s None a f = absurd (none≢some flat f)
    given s (Some outputs) a f = (outputs, a, some-is _ flat f)

    finish : (e : Option Stop) (xs : List Value) (d : Option Stop) (ys : List Value) → e ≡ d → (e ≡ None → xs ≡ ys)
        → answer_of e xs ≡ option_map_or Stopped d (Values ys)
    finish None xs d ys a b = ap (λ zs. Values zs) (b refl) ∙ ap (λ (o : Option Stop). option_map_or Stopped o (Values ys)) a
    finish (Some stop) xs d ys a b = ap (λ (o : Option Stop). option_map_or Stopped o (Values ys)) a

    next : (o : Option State) → reading code ≡ o → option_and_then (spelled code.counts.inputs) o ≡ Some flat → machine_run code inputs ≡ flat_run flat inputs
    next None a f = absurd (none≢some flat f)
    next (Some s) a f =
        let g = given s (all_given s.outputs) refl f in
        let h = goes-all code.counts inputs code.instrs (start n) s (fresh n) first a in
        let values = node_values inputs s.nodes in
        let end : Machine = acts inputs (fresh n) code.instrs in
        subst (λ f. machine_run code inputs ≡ flat_run f inputs) g.2 (finish end.ended end.outputs (first_stop values s.checks) (map (value_at values) g.0)
        h.ended (λ none. (h.running none).outputs ∙ all-given values s.outputs g.0 g.1))
