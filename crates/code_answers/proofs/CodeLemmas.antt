-- Well-formed code: its answer is within its counts, and so within a face that agrees with it.
use Rattle.std.proofs.Common.{◌≡◌, ℕ, zero, suc, ◌<◌, ◌≤◌, length, Bool, true, false, List, [], ◌∷◌, Option, None, Some, refl, sym, ◌∙◌, ap, subst, eqb, arith}
use Rattle.std.proofs.lemmas.Bool.{eqb-true, ltb-true}
use Rattle.std.specs.Prelude.{IsTrue, ◌&&◌, ◌||◌, nat_lt, replicate, is_some, if◌then◌else◌}
use Rattle.std.specs.List.{AllByRecursion}
use Rattle.std.specs.Option.{option_and_then, option_map, option_map_or}
use Rattle.std.proofs.lemmas.List.{length-set}
use Rattle.m_fixed.specs.declared.amount.Value.{Value}
use Rattle.m_fixed.specs.declared.amount.Value.TheVariants.{Undef, Num, Over}
use Rattle.m_fixed.specs.Operators.{is_zero}
use Rattle.observables.specs.declared.answer.Stop.{Stop}
use Rattle.observables.specs.declared.answer.Stop.TheVariants.{Failed}
use Rattle.observables.specs.declared.face.Face.{Face}
use Rattle.observables.specs.Answers.{label_number}
use Rattle.flat_code.specs.declared.program.Flat.{Flat}
use Rattle.flat_code.specs.Runs.{is_one, stop_of}
use Rattle.reg_machine.specs.declared.instr.Instr.{Instr}
use Rattle.reg_machine.specs.declared.instr.Instr.TheVariants.{Take, Lit, Do, Store, Load, Check as Test, Output}
use Rattle.reg_machine.specs.declared.wrong.CodeWrong.TheVariants.{BadNumber, BadOrder}
use Rattle.reg_machine.specs.Flow.{Counts, Listing, State, all_given, code_fault, fault_from, flow_of, has_numbers, is_register, moved, reading, spelled, start}
use Rattle.reg_machine.specs.Machine.{Machine, act, act_at, acts, answer_of, fresh, machine_run}
use Rattle.reg_machine.proofs.NumberingLemmas.{end-whole}
use Rattle.code_file.specs.Loading.{counts_agree}
use Rattle.tax_print.specs.Lines.{AnswerIsWithin}
use Rattle.m_cases.specs.Mismatches.{HasValueEach}

-- ---- counts

both : (x y : Bool) → (x && y) ≡ true → (x ≡ true) × (y ≡ true)
both true y h = (refl, h)
both false y h = cc

-- code and a face that agree with each other
pub record Agrees (code : Listing) (face : Face) : Type 0 where
  pub inputs : length face.inputs ≡ code.counts.inputs
  pub labels : length face.labels ≡ code.counts.labels
  pub outputs : length face.outputs ≡ code.counts.outputs

pub agrees : (code : Listing) (face : Face) → IsTrue (counts_agree code face.inputs face.labels face.outputs) → Agrees code face
agrees code face h =
    let first = both (eqb (length face.inputs) code.counts.inputs) _ h in
    let rest = both (eqb (length face.labels) code.counts.labels) (eqb (length face.outputs) code.counts.outputs) first.1 in
    record { inputs = eqb-true _ _ first.0; labels = eqb-true _ _ rest.0; outputs = eqb-true _ _ rest.1 }

-- ---- properties of well-formed instructions

-- a check's label is below a count
abbrev IsLabelled : ℕ → Instr → Type 0
IsLabelled n (Take r k) = Unit {0}
IsLabelled n (Lit r v) = Unit {0}
IsLabelled n (Do op r a b c) = Unit {0}
IsLabelled n (Store k r) = Unit {0}
IsLabelled n (Load r k) = Unit {0}
IsLabelled n (Test g r over_only label) = label < n
IsLabelled n (Output k r) = Unit {0}

labelled : (n : Counts) (s : State) (i : Instr) → has_numbers n s i ≡ true → IsLabelled n.labels i
labelled n s (Take r k) h = tt
labelled n s (Lit r v) h = tt
labelled n s (Do op r a b c) h = tt
labelled n s (Store k r) h = tt
labelled n s (Load r k) h = tt
labelled n s (Test g r over_only label) h = ltb-true label n.labels
    (both (is_register r) (nat_lt label n.labels) (both (is_register g) (is_register r && nat_lt label n.labels) h).1).1
labelled n s (Output k r) h = tt

one_labelled : (n : Counts) (s : State) (k : ℕ) (i : Instr) (instrs : List Instr) (right : Bool) (next : Option State)
    → ((t : State) → fault_from n t (suc k) instrs ≡ None → AllByRecursion (IsLabelled n.labels) instrs) → has_numbers n s i ≡ right
    → (if right then option_map_or (λ t. fault_from n t (suc k) instrs) next (Some (BadOrder k)) else Some (BadNumber k)) ≡ None
    → AllByRecursion (IsLabelled n.labels) (i ∷ instrs)
one_labelled n s k i instrs true (Some t) later r e = (labelled n s i r, later t e)
one_labelled n s k i instrs true None later r e = cc
one_labelled n s k i instrs false next later r e = cc

all_labelled : (n : Counts) (s : State) (k : ℕ) (instrs : List Instr) → fault_from n s k instrs ≡ None → AllByRecursion (IsLabelled n.labels) instrs
all_labelled n s k [] h = tt
all_labelled n s k (i ∷ instrs) h = one_labelled n s k i instrs (has_numbers n s i) (moved i s) (λ t e. all_labelled n t (suc k) instrs e) refl h

-- ---- a run

-- the label of a stop is below a count, if there is a stop
abbrev IsStopBelow : ℕ → Option Stop → Type 0
IsStopBelow n None = Unit {0}
IsStopBelow n (Some stop) = label_number stop < n

stop_below : (n label : ℕ) (over_only : Bool) (v : Value) → label < n → IsStopBelow n (stop_of over_only label v)
stop_below n label over_only Undef h = tt
stop_below n label over_only (Num z) h = by (over_only || is_zero z)
  where
    by : (none : Bool) → IsStopBelow n (if none then None else Some (Failed label))
    by true = tt
    by false = h
stop_below n label over_only Over h = h

tested_below : (n label : ℕ) (over_only : Bool) (guard v : Value) → label < n → IsStopBelow n (if is_one guard then stop_of over_only label v else None)
tested_below n label over_only guard v h = by (is_one guard)
  where
    by : (one : Bool) → IsStopBelow n (if one then stop_of over_only label v else None)
    by true = stop_below n label over_only v h
    by false = tt

-- an instruction
act_below : (n : ℕ) (inputs : List Value) (i : Instr) (m : Machine) → IsLabelled n i → IsStopBelow n m.ended → IsStopBelow n (act inputs i m).ended
act_below n inputs (Take r k) m is h = h
act_below n inputs (Lit r v) m is h = h
act_below n inputs (Do op r a b c) m is h = h
act_below n inputs (Store k r) m is h = h
act_below n inputs (Load r k) m is h = h
act_below n inputs (Test g r over_only label) m is h = tested_below n label over_only (m.registers g) (m.registers r) is
act_below n inputs (Output k r) m is h = h

at_below : (n : ℕ) (inputs : List Value) (i : Instr) (m : Machine) (ended : Option Stop) → IsLabelled n i → IsStopBelow n m.ended
    → IsStopBelow n (act_at inputs ended i m).ended
at_below n inputs i m (Some stop) is h = h
at_below n inputs i m None is h = act_below n inputs i m is h

acts_below : (n : ℕ) (inputs : List Value) (instrs : List Instr) (m : Machine) → AllByRecursion (IsLabelled n) instrs → IsStopBelow n m.ended
    → IsStopBelow n (acts inputs m instrs).ended
acts_below n inputs [] m all h = h
acts_below n inputs (i ∷ instrs) m all h = acts_below n inputs instrs (act_at inputs m.ended i m) all.1 (at_below n inputs i m m.ended all.0 h)

-- the number of outputs
act_many : (n : ℕ) (inputs : List Value) (i : Instr) (m : Machine) → length m.outputs ≡ n → length (act inputs i m).outputs ≡ n
act_many n inputs (Take r k) m h = h
act_many n inputs (Lit r v) m h = h
act_many n inputs (Do op r a b c) m h = h
act_many n inputs (Store k r) m h = h
act_many n inputs (Load r k) m h = h
act_many n inputs (Test g r over_only label) m h = h
act_many n inputs (Output k r) m h = length-set m.outputs k (m.registers r) ∙ h

at_many : (n : ℕ) (inputs : List Value) (i : Instr) (m : Machine) (ended : Option Stop) → length m.outputs ≡ n → length (act_at inputs ended i m).outputs ≡ n
at_many n inputs i m (Some stop) h = h
at_many n inputs i m None h = act_many n inputs i m h

acts_many : (n : ℕ) (inputs : List Value) (instrs : List Instr) (m : Machine) → length m.outputs ≡ n → length (acts inputs m instrs).outputs ≡ n
acts_many n inputs [] m h = h
acts_many n inputs (i ∷ instrs) m h = acts_many n inputs instrs (act_at inputs m.ended i m) (at_many n inputs i m m.ended h)

length-undef : (n : ℕ) → length {A = Value} (replicate n Undef) ≡ n
length-undef zero = refl
length-undef (suc n) = ap suc (length-undef n)

end_within : (face : Face) (ended : Option Stop) (outputs : List Value) → IsStopBelow (length face.labels) ended → length outputs ≤ length face.outputs
    → AnswerIsWithin face (answer_of ended outputs)
end_within face None outputs stop few = few
end_within face (Some s) outputs stop few = stop

code_stop : (code : Listing) (inputs : List Value) → code_fault code ≡ None
    → IsStopBelow code.counts.labels (acts inputs (fresh code.counts.outputs) code.instrs).ended
code_stop code inputs whole =
    acts_below code.counts.labels inputs code.instrs (fresh code.counts.outputs) (all_labelled code.counts (start code.counts.outputs) 0 code.instrs whole) tt

code_outputs : (code : Listing) (inputs : List Value) → length (acts inputs (fresh code.counts.outputs) code.instrs).outputs ≡ code.counts.outputs
code_outputs code inputs = acts_many code.counts.outputs inputs code.instrs (fresh code.counts.outputs) (length-undef code.counts.outputs)

no_more : (m n k : ℕ) → m ≡ n → k ≡ n → m ≤ k
no_more m n k a b = omega (arith, a, b)

-- The answer of code is within a face that agrees with it.
pub code_within : (code : Listing) (face : Face) → code_fault code ≡ None → Agrees code face → (inputs : List Value)
    → AnswerIsWithin face (machine_run code inputs)
code_within code face whole a inputs =
    end_within face (acts inputs (fresh code.counts.outputs) code.instrs).ended (acts inputs (fresh code.counts.outputs) code.instrs).outputs
    (subst (λ n. IsStopBelow n (acts inputs (fresh code.counts.outputs) code.instrs).ended) (sym a.labels) (code_stop code inputs whole))
    (no_more (length (acts inputs (fresh code.counts.outputs) code.instrs).outputs) code.counts.outputs (length face.outputs) (code_outputs code inputs)
    a.outputs)

each_valued : (face : Face) (ended : Option Stop) (outputs : List Value) → length outputs ≡ length face.outputs → HasValueEach face (answer_of ended outputs)
each_valued face None outputs many = many
each_valued face (Some s) outputs many = tt

-- The answer has a value for each output of such a face, unless it is a stop.
pub code_each : (code : Listing) (face : Face) → Agrees code face → (inputs : List Value) → HasValueEach face (machine_run code inputs)
code_each code face a inputs =
    each_valued face (acts inputs (fresh code.counts.outputs) code.instrs).ended (acts inputs (fresh code.counts.outputs) code.instrs).outputs
    (code_outputs code inputs ∙ sym a.outputs)

-- ---- code that spells a program

given : (inputs : ℕ) (s : State) (flat : Flat) (outputs : Option (List ℕ))
    → option_map (λ xs. record { inputs = inputs; nodes = s.nodes; checks = s.checks; outputs = xs }) outputs ≡ Some flat
    → true ≡ is_some outputs
given inputs s flat None e = cc
given inputs s flat (Some xs) e = refl

-- such code is well formed
pub spells_whole : (code : Listing) (flat : Flat) → flow_of code ≡ Some flat → code_fault code ≡ None
spells_whole code flat e = by (reading code) refl e
  where
    by : (s : Option State) → reading code ≡ s → option_and_then (spelled code.counts.inputs) s ≡ Some flat → code_fault code ≡ None
    by None r q = cc
    by (Some s) r q = end-whole code s r (given code.counts.inputs s flat (all_given s.outputs) q)
