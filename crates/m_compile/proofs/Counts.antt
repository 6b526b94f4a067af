-- The counts of code are those of its program.
use Rattle.std.proofs.Common.{◌≡◌, ℕ, zero, suc, Bool, true, false, List, [], ◌∷◌, length, replicate, Option, None, Some, Result, Ok, Err, refl, sym, ap, ◌∙◌}
use Rattle.std.proofs.Common.{subst, eqb}
use Rattle.std.specs.Prelude.{IfOk, IsTrue, fold, if◌then◌else◌}
use Rattle.std.specs.Option.{option_and_then, option_map}
use Rattle.std.proofs.lemmas.List.{length-set}
use Rattle.std.proofs.lemmas.Bool.{eq-eqb, and_from}
use Rattle.observables.specs.declared.face.Face.{Face}
use Rattle.flat_code.specs.declared.program.Flat.{Flat}
use Rattle.flat_code.specs.Faces.{IsFaceOf}
use Rattle.reg_machine.specs.declared.instr.Instr.{Instr}
use Rattle.reg_machine.specs.declared.instr.Instr.TheVariants.{Take, Lit, Do, Store, Load, Check as Test, Output}
use Rattle.reg_machine.specs.Flow.{Counts, Listing, State, start, step, has_numbers, moved, reading, all_given, spelled, flow_of}
use Rattle.register_alloc.specs.Allocation.{IsAllocation}
use Rattle.code_file.specs.Loading.{counts_agree}

-- a known state has this number of outputs
abbrev HasOutputs : ℕ → Option State → Type 0
HasOutputs n None = Unit {0}
HasOutputs n (Some s) = length s.outputs ≡ n

-- one instruction
by-three : (n : ℕ) (s : State) (x y z : Option ℕ) (f : ℕ → ℕ → ℕ → State) → ((x y z : ℕ) → length (f x y z).outputs ≡ n)
    → HasOutputs n (option_and_then (λ a. option_and_then (λ b. option_map (λ c. f a b c) z) y) x)
by-three n s None y z f h = tt
by-three n s (Some x) None z f h = tt
by-three n s (Some x) (Some y) None f h = tt
by-three n s (Some x) (Some y) (Some z) f h = h x y z

by-two : (n : ℕ) (x y : Option ℕ) (f : ℕ → ℕ → State) → ((x y : ℕ) → length (f x y).outputs ≡ n)
    → HasOutputs n (option_and_then (λ a. option_map (λ b. f a b) y) x)
by-two n None y f h = tt
by-two n (Some x) None f h = tt
by-two n (Some x) (Some y) f h = h x y

by-one : (n : ℕ) (x : Option ℕ) (f : ℕ → State) → ((x : ℕ) → length (f x).outputs ≡ n) → HasOutputs n (option_map (λ a. f a) x)
by-one n None f h = tt
by-one n (Some x) f h = h x

moved-outputs : (n : ℕ) (instr : Instr) (s : State) → length s.outputs ≡ n → HasOutputs n (moved instr s)
moved-outputs n (Take r k) s e = e
moved-outputs n (Lit r v) s e = e
moved-outputs n (Do op r a b c) s e = by-three n s (s.registers a) (s.registers b) (s.registers c) _ (λ x y z. e)
moved-outputs n (Store k r) s e = by-one n (s.registers r) _ (λ x. e)
moved-outputs n (Load r k) s e = by-one n (s.slots k) _ (λ x. e)
moved-outputs n (Test g r over_only label) s e = by-two n (s.registers g) (s.registers r) _ (λ x y. e)
moved-outputs n (Output k r) s e = by-one n (s.registers r) _ (λ x. length-set s.outputs k (Some x) ∙ e)

when-right : (n : ℕ) (right : Bool) (next : Option State) → HasOutputs n next → HasOutputs n (if right then next else None)
when-right n true next h = h
when-right n false next h = tt

step-outputs : (n : ℕ) (counts : Counts) (instr : Instr) (s : Option State) → HasOutputs n s → HasOutputs n (option_and_then (step counts instr) s)
step-outputs n counts instr None h = tt
step-outputs n counts instr (Some s) h = when-right n (has_numbers counts s instr) (moved instr s) (moved-outputs n instr s h)

-- all instructions
fold-outputs : (n : ℕ) (counts : Counts) (s : Option State) (instrs : List Instr) → HasOutputs n s
    → HasOutputs n (fold (λ s instr. option_and_then (step counts instr) s) s instrs)
fold-outputs n counts s [] h = h
fold-outputs n counts s (instr ∷ instrs) h = fold-outputs n counts (option_and_then (step counts instr) s) instrs (step-outputs n counts instr s h)

length-none : (n : ℕ) → length {A = Option ℕ} (replicate n None) ≡ n
length-none zero = refl
length-none (suc n) = ap suc (length-none n)

reading-outputs : (code : Listing) → HasOutputs code.counts.outputs (reading code)
reading-outputs code = fold-outputs code.counts.outputs code.counts (Some (start code.counts.outputs)) code.instrs (length-none code.counts.outputs)

-- if all outputs are given, there are as many of them
given-more : (x : ℕ) (rest : Option (List ℕ)) (outputs : List (Option ℕ)) (xs : List ℕ) → ((ys : List ℕ) → rest ≡ Some ys → length ys ≡ length outputs)
    → option_map (λ ys. x ∷ ys) rest ≡ Some xs → length xs ≡ suc (length outputs)
given-more x None outputs xs h e = cc
given-more x (Some ys) outputs xs h e = let s : x ∷ ys ≡ xs = cc in ap length (sym s) ∙ ap suc (h ys refl)

given-length : (outputs : List (Option ℕ)) (xs : List ℕ) → all_given outputs ≡ Some xs → length xs ≡ length outputs
given-length [] [] e = refl
given-length [] (x ∷ xs) e = cc
given-length (None ∷ outputs) xs e = cc
given-length (Some x ∷ outputs) xs e = given-more x (all_given outputs) outputs xs (λ ys q. given-length outputs ys q) e

-- a program's counts of inputs and outputs
record HasCounts (inputs outputs : ℕ) (flat : Flat) : Type 0 where
  inputs_are : flat.inputs ≡ inputs
  outputs_are : length flat.outputs ≡ outputs

ends : (inputs : ℕ) (s : State) (given : Option (List ℕ)) (flat : Flat) → all_given s.outputs ≡ given
    → option_map (λ outputs. record { inputs = inputs; nodes = s.nodes; checks = s.checks; outputs = outputs }) given ≡ Some flat
    → HasCounts inputs (length s.outputs) flat
ends inputs s None flat g e = cc
ends inputs s (Some xs) flat g e =
    let is : record { inputs = inputs; nodes = s.nodes; checks = s.checks; outputs = xs } ≡ flat = cc in
    record {
      inputs_are = ap (λ (f : Flat). f.inputs) (sym is);
      outputs_are = ap (λ (f : Flat). length f.outputs) (sym is) ∙ given-length s.outputs xs g;
    }

read : (inputs n : ℕ) (s : Option State) (flat : Flat) → HasOutputs n s → option_and_then (spelled inputs) s ≡ Some flat → HasCounts inputs n flat
read inputs n None flat h e = cc
read inputs n (Some s) flat h e = subst (λ m. HasCounts inputs m flat) h (ends inputs s (all_given s.outputs) flat refl e)

flow-counts : (code : Listing) (flat : Flat) → flow_of code ≡ Some flat → HasCounts code.counts.inputs code.counts.outputs flat
flow-counts code flat e = read code.counts.inputs code.counts.outputs (reading code) flat (reading-outputs code) e

-- code of a program agrees with the program's face
pub agrees : (face : Face) (flat : Flat) (code : Listing) → IsFaceOf face flat → IsAllocation flat (length face.labels) code
    → IsTrue (counts_agree code face.inputs face.labels face.outputs)
agrees face flat code f a =
    let counts = flow-counts code flat a.flow in
    let inputs : length face.inputs ≡ code.counts.inputs = f.inputs ∙ counts.inputs_are in
    let labels : length face.labels ≡ code.counts.labels = sym a.labelled in
    let outputs : length face.outputs ≡ code.counts.outputs = f.outputs ∙ counts.outputs_are in
    and_from (eqb (length face.inputs) code.counts.inputs) _ (eq-eqb _ _ inputs)
    (and_from (eqb (length face.labels) code.counts.labels) (eqb (length face.outputs) code.counts.outputs) (eq-eqb _ _ labels) (eq-eqb _ _ outputs))

-- the same for a call that may run out of memory
pub agrees_ok : {E : Type 0} (face : Face) (flat : Flat) (labels : ℕ) (result : Result Listing E) → labels ≡ length face.labels → IsFaceOf face flat
    → IfOk result (IsAllocation flat labels)
    → IfOk result (λ code. IsTrue (counts_agree code face.inputs face.labels face.outputs))
agrees_ok face flat labels (Ok code) e f a = agrees face flat code f (subst (λ n. IsAllocation flat n code) e a)
agrees_ok face flat labels (Err fault) e f a = tt
