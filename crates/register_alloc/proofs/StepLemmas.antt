-- Instructions that may follow code, and the state after them.
use Rattle.std.proofs.Common.{◌≡◌, ◌≢◌, ℕ, zero, suc, ◌+◌, ◌-◌, ◌*◌, ◌<◌, ◌≤◌, Bool, true, false, cond, eqb, ltb, max, ◌⊎◌, List, [], ◌∷◌, ◌++◌, length, get_or}
use Rattle.std.proofs.Common.{set, take, drop, map, Option, None, Some, is_some, refl, ap, sym, ◌∙◌, subst, inl, inr, ⊎_elim, arith}
use mathlib.Core.Bool.{◌&&◌}
use Rattle.std.specs.Prelude.{if◌then◌else◌}
use Rattle.std.specs.Option.{option_and_then, option_map, option_map_or, is_none}
use Rattle.std.specs.List.{sum_by, list_any}
use Rattle.std.proofs.Math.Seq.{take-suc, drop-cons}
use Rattle.std.proofs.lemmas.Bool.{cases_eq, and_from, lt-ltb, le-ltb, cases_lt, or_left, or_right, eq-eqb, true≢false}
use Rattle.std.proofs.lemmas.List.{length-take-le, get_or_at, length-map, length-append, map-append, append_assoc, append-nil, set_at, take-append-drop}
use Rattle.std.proofs.lemmas.List.{take_all, drop_all, length_push}
use Rattle.std.proofs.lemmas.List.Sums.{fold_push, sum_by_push}
use Rattle.std.proofs.lemmas.List.Folds.{list_any-append}
use Rattle.m_fixed.specs.declared.amount.Value.TheVariants.{Undef}
use Rattle.m_fixed.specs.declared.operator.Op.{Op}
use Rattle.flat_code.specs.declared.program.Node.{Node}
use Rattle.flat_code.specs.declared.program.Node.TheVariants.{Input, Lit as Number, Do as Work}
use Rattle.flat_code.specs.declared.program.Check.{Check}
use Rattle.flat_code.specs.declared.program.Flat.{Flat}
use Rattle.flat_code.specs.Entries.{node_at}
use Rattle.reg_machine.specs.declared.instr.TheConstants.{REGISTERS}
use Rattle.reg_machine.specs.declared.instr.Instr.{Instr}
use Rattle.reg_machine.specs.declared.instr.Instr.TheVariants.{Store, Load, Check as Test, Output}
use Rattle.reg_machine.specs.declared.wrong.Wrong.TheVariants.{Number as NumberWrong, Order as OrderWrong}
use Rattle.reg_machine.specs.Flow.{Counts, Listing, State, put, start, step, with_node, with_instr, with_slots, has_numbers, moved, reading, wrong_at}
use Rattle.reg_machine.specs.Flow.{wrong_behind, repeats_first, loads_of}
use Rattle.reg_machine.proofs.BuilderLemmas.{reads-on, wrong-is}
use Rattle.register_alloc.specs.declared.moment.TheConstants.{MOST}
use Rattle.register_alloc.specs.declared.sources.Sources.{Sources}
use Rattle.register_alloc.specs.Width.{reads, check_reads, reads_by, tests_by, one_if, width_of, is_held, moment_from}
use Rattle.register_alloc.specs.Allocation.{is_spill, spills_of, stores_to, IsStoredTo}
use Rattle.register_alloc.specs.inner.Tables.{look, In, is_live, is_busy}
use Rattle.register_alloc.specs.inner.Valid.{IsInput}
use Rattle.register_alloc.specs.inner.Sound.{Once, Few, Sound, Counted, Spells, HasSources, instr_of, Cleared, nodes_read, checks_read, given_before}
use Rattle.register_alloc.specs.inner.Sound.{given_part, count_some, count_given}
use Rattle.register_alloc.proofs.TableLemmas.{none≢some, put-same, put-other, put-cases, in-other, look-set, tables-store, tables-write, tables-pass}

-- An instruction that may follow code with `count` slots or more; `before` and `after` are the
-- states around it.
pub record Next (code : Listing) (count : ℕ) (before : State) (i : Instr) (after : State) : Type 0 where
  pub has : (n : ℕ) → count ≤ n → has_numbers (with_slots code n).counts before i ≡ true
  pub moves : moved i before ≡ Some after

-- the state after one more instruction
pub reading-push : (code : Listing) (i : Instr) (count more : ℕ) (s t : State) → ((n : ℕ) → count ≤ n → reading (with_slots code n) ≡ Some s) → count ≤ more
    → Next code more s i t → (n : ℕ) → more ≤ n → reading (with_slots (with_instr code i) n) ≡ Some t
reading-push code i count more s t read le next n le' =
    let all : count ≤ n = omega arith in
    reads-on (with_slots code n) i s t (read n all) (next.has n le') next.moves

-- the instruction is valid
pub right-push : (code : Listing) (i : Instr) (count more : ℕ) (s t : State) → ((n : ℕ) → count ≤ n → reading (with_slots code n) ≡ Some s) → count ≤ more
    → more ≤ code.counts.slots → Next code more s i t → wrong_behind code i ≡ None
right-push code i count more s t read le fits next =
    let all : count ≤ code.counts.slots = omega arith in
    wrong-is code i s (read code.counts.slots all)
    ∙ ap (λ b. if b then (if is_none (moved i s) then Some OrderWrong else None) else Some NumberWrong) (next.has code.counts.slots fits)
    ∙ ap (λ o. if is_none o then Some OrderWrong else None) next.moves

-- how often nodes are loaded, by the state
pub loads-read : (code : Listing) (count : ℕ) (s : State) → ((n : ℕ) → count ≤ n → reading (with_slots code n) ≡ Some s) → count ≤ code.counts.slots → (y : ℕ)
    → loads_of y code ≡ s.loaded y
loads-read code count s read fits y = ap (λ (o : Option State). option_map_or (λ (s : State). s.loaded y) o 0) (read code.counts.slots fits)

pub spills-push : (code : Listing) (i : Instr) → is_spill i ≡ false → spills_of (with_instr code i) ≡ spills_of code
spills-push code i e =
    let none : spills_of code + 0 ≡ spills_of code = omega arith in
    sum_by_push (λ i. cond (is_spill i) 1 0) code.instrs i ∙ ap (λ b. spills_of code + cond b 1 0) e ∙ none

pub few-push : (flat : Flat) (code : Listing) (n : ℕ) (i : Instr) → Few flat code n → is_spill i ≡ false → Few flat (with_instr code i) n
few-push flat code n i few e = record { within = few.within; direct = λ h. ((few.direct h).0, spills-push code i e ∙ (few.direct h).1) }

-- a slot that is stored to remains stored to
pub used-push : (code : Listing) (i : Instr) (k : ℕ) → IsStoredTo k code → IsStoredTo k (with_instr code i)
used-push code i k e = list_any-append (stores_to k) code.instrs (i ∷ []) ∙ or_left (list_any (stores_to k) code.instrs) _ e

pub used-here : (code : Listing) (k r : ℕ) → IsStoredTo k (with_instr code (Store k r))
used-here code k r =
    list_any-append (stores_to k) code.instrs (Store k r ∷ [])
    ∙ or_right (list_any (stores_to k) code.instrs) _ (or_left (eqb k k) false (eq-eqb k k refl))

-- ---- the instructions

pub next-store : (code : Listing) (m k i x : ℕ) (t : State) → k < m → i < REGISTERS → t.registers i ≡ Some x
    → Next code m t (Store k i) (record t { slots = put t.slots k (Some x); stored = put t.stored x (suc (t.stored x)) })
next-store code m k i x t lt below holds = record {
  has = λ n le. and_from (ltb k n) (ltb i REGISTERS) (lt-ltb k n (omega arith)) (lt-ltb i REGISTERS below);
  moves = ap (option_map (λ (x : ℕ). record t { slots = put t.slots k (Some x); stored = put t.stored x (suc (t.stored x)) })) holds;
}

pub next-load : (code : Listing) (m k i x : ℕ) (t : State) → i < m → k < REGISTERS → t.slots i ≡ Some x
    → Next code m t (Load k i) (record t { registers = put t.registers k (Some x); loaded = put t.loaded x (suc (t.loaded x)) })
next-load code m k i x t lt below holds = record {
  has = λ n le. and_from (ltb k REGISTERS) (ltb i n) (lt-ltb k REGISTERS below) (lt-ltb i n (omega arith));
  moves = ap (option_map (λ (x : ℕ). record t { registers = put t.registers k (Some x); loaded = put t.loaded x (suc (t.loaded x)) })) holds;
}

-- the instruction of a node makes it
pub next-node : (code : Listing) (m k : ℕ) (node : Node) (q : Sources) (t : State) → k < REGISTERS → IsInput code.counts.inputs node
    → HasSources t.registers node q → Next code m t (instr_of node k q) (with_node k node t)
next-node code m k (Input n) q t below inputs has = record {
  has = λ _ le. and_from (ltb k REGISTERS) (ltb n code.counts.inputs) (lt-ltb k REGISTERS below) (lt-ltb n code.counts.inputs inputs);
  moves = refl;
}
next-node code m k (Number v) q t below inputs has = record { has = λ _ le. lt-ltb k REGISTERS below; moves = refl }
next-node code m k (Work op a b c) q t below inputs has = record {
  has = λ _ le.
      and_from (ltb k REGISTERS) _ (lt-ltb k REGISTERS below)
      (and_from (ltb q.first REGISTERS) _ (lt-ltb q.first REGISTERS has.3)
      (and_from (ltb q.second REGISTERS) _ (lt-ltb q.second REGISTERS has.4)
      (and_from (ltb q.third REGISTERS) (repeats_first op q.first q.second q.third) (lt-ltb q.third REGISTERS has.5) has.6)));
  moves =
      ap (option_and_then (λ (x : ℕ). option_and_then (λ (y : ℕ). option_map (λ (z : ℕ). with_node k (Work op x y z) t) (t.registers q.third))
      (t.registers q.second))) has.0
      ∙ ap (option_and_then (λ (y : ℕ). option_map (λ (z : ℕ). with_node k (Work op a y z) t) (t.registers q.third))) has.1
      ∙ ap (option_map (λ (z : ℕ). with_node k (Work op a b z) t)) has.2;
}

pub next-test : (code : Listing) (m g k : ℕ) (check : Check) (t : State) → g < REGISTERS → k < REGISTERS → check.label < code.counts.labels
    → t.registers g ≡ Some check.guard → t.registers k ≡ Some check.condition
    → Next code m t (Test g k check.over_only check.label) (record t { checks = t.checks ++ check ∷ [] })
next-test code m g k check t below below' label guard condition = record {
  has = λ _ le. and_from (ltb g REGISTERS) _ (lt-ltb g REGISTERS below)
      (and_from (ltb k REGISTERS) (ltb check.label code.counts.labels) (lt-ltb k REGISTERS below') (lt-ltb check.label code.counts.labels label));
  moves =
      ap (option_and_then (λ (x : ℕ). option_map
      (λ (y : ℕ). record t { checks = t.checks ++ record { guard = x; condition = y; over_only = check.over_only; label = check.label } ∷ [] })
      (t.registers k))) guard
      ∙ ap (option_map (λ (y : ℕ). record t {
        checks = t.checks
            ++ record { guard = check.guard; condition = y; over_only = check.over_only; label = check.label } ∷ [];
      })) condition;
}

pub next-give : (code : Listing) (m j k x : ℕ) (t : State) → j < code.counts.outputs → k < REGISTERS → get_or t.outputs j None ≡ None → t.registers k ≡ Some x
    → Next code m t (Output j k) (record t { outputs = set t.outputs j (Some x) })
next-give code m j k x t lt below free holds = record {
  has = λ _ le. and_from (ltb j code.counts.outputs) _ (lt-ltb j code.counts.outputs lt)
      (and_from (ltb k REGISTERS) (is_none (get_or t.outputs j None)) (lt-ltb k REGISTERS below) (ap is_none free));
  moves = ap (option_map (λ (x : ℕ). record t { outputs = set t.outputs j (Some x) })) holds;
}

-- one more load of x, and none of another node
pub put-suc : (f : ℕ → ℕ) (x y : ℕ) → put f x (suc (f x)) y ≤ f y + one_if (eqb x y)
put-suc f x y =
    ⊎_elim
    (λ (e : x ≡ y).
    let same : put f x (suc (f x)) y ≡ suc (f y) = subst (λ z. put f x (suc (f x)) z ≡ suc (f z)) e (put-same f x (suc (f x))) in
    let one : one_if (eqb x y) ≡ 1 = ap one_if (eq-eqb x y e) in
    omega arith)
    (λ (ne : x ≢ y).
    let same : put f x (suc (f x)) y ≡ f y = put-other f x (suc (f x)) y (λ e. ne (sym e)) in
    omega arith)
    (cases_eq x y)

pub spill-node : (node : Node) (k : ℕ) (q : Sources) → is_spill (instr_of node k q) ≡ false
spill-node (Input n) k q = refl
spill-node (Number v) k q = refl
spill-node (Work op a b c) k q = refl
