-- Outputs, one after the other.
use Rattle.std.proofs.Common.{◌≡◌, ◌≢◌, ℕ, zero, suc, ◌+◌, ◌-◌, ◌*◌, ◌<◌, ◌≤◌, Bool, true, false, cond, eqb, ltb, max, ◌⊎◌, List, [], ◌∷◌, ◌++◌, length, get_or}
use Rattle.std.proofs.Common.{set, take, drop, map, Option, None, Some, is_some, refl, ap, sym, ◌∙◌, subst, inl, inr, ⊎_elim, arith}
use mathlib.Core.Bool.{◌&&◌}
use Rattle.std.specs.Prelude.{if◌then◌else◌}
use Rattle.std.specs.Option.{option_and_then, option_map, option_map_or, is_none}
use Rattle.std.specs.List.{sum_by}
use Rattle.std.proofs.Math.Seq.{take-suc, drop-cons}
use Rattle.std.proofs.lemmas.Bool.{cases_eq, and_from, lt-ltb, le-ltb, cases_lt, or_left, eq-eqb, true≢false}
use Rattle.std.proofs.lemmas.List.{length-take-le, get_or_at, length-map, length-append, map-append, append_assoc, append-nil, set_at, take-append-drop}
use Rattle.std.proofs.lemmas.List.{take_all, drop_all, length_push}
use Rattle.std.proofs.lemmas.List.Sums.{fold_push, sum_by_push}
use Rattle.m_fixed.specs.declared.amount.Value.TheVariants.{Undef}
use Rattle.m_fixed.specs.declared.operator.Op.{Op}
use Rattle.flat_code.specs.declared.program.Node.{Node}
use Rattle.flat_code.specs.declared.program.Node.TheVariants.{Input, Lit as Number, Do as Work}
use Rattle.flat_code.specs.declared.program.Check.{Check}
use Rattle.flat_code.specs.declared.program.Flat.{Flat}
use Rattle.flat_code.specs.Entries.{node_at}
use Rattle.reg_machine.specs.declared.instr.TheConstants.{REGISTERS}
use Rattle.reg_machine.specs.declared.instr.Instr.{Instr}
use Rattle.reg_machine.specs.declared.instr.Instr.TheVariants.{Store, Load, Check as Test, Output}
use Rattle.reg_machine.specs.declared.wrong.Wrong.TheVariants.{Number as NumberWrong, Order as OrderWrong}
use Rattle.reg_machine.specs.Flow.{Counts, Listing, State, put, start, step, with_node, with_instr, with_slots, has_numbers, moved, reading, wrong_at}
use Rattle.reg_machine.specs.Flow.{wrong_behind, repeats_first, loads_of}
use Rattle.reg_machine.proofs.BuilderLemmas.{reads-on, wrong-is}
use Rattle.register_alloc.specs.declared.moment.TheConstants.{MOST}
use Rattle.register_alloc.specs.declared.sources.Sources.{Sources}
use Rattle.register_alloc.specs.Width.{reads, check_reads, reads_by, tests_by, one_if, width_of, is_held, moment_from}
use Rattle.register_alloc.specs.Allocation.{is_spill, spills_of}
use Rattle.register_alloc.specs.inner.Tables.{look, In, is_live, is_busy}
use Rattle.register_alloc.specs.inner.Valid.{IsInput}
use Rattle.register_alloc.specs.inner.Sound.{Once, Few, Sound, Counted, Spells, HasSources, instr_of, Cleared, nodes_read, checks_read, given_before}
use Rattle.register_alloc.specs.inner.Sound.{given_part, count_some, count_given}
use Rattle.register_alloc.proofs.TableLemmas.{none≢some, put-same, put-other, put-cases, in-other, look-set, tables-store, tables-write, tables-pass}

-- the output at place k, among those compared so far
pub part-at : (p k : ℕ) (outputs : List ℕ) → k < length outputs → given_part p k outputs ≡ given_before (suc p) (take k outputs)
    ++ (given_before p (get_or outputs k 0 ∷ []) ++ given_before p (drop (suc k) outputs))
part-at p k outputs lt = ap (λ xs. given_before (suc p) (take k outputs) ++ given_before p xs) (drop-cons outputs k 0 lt)

pub part-next : (p k : ℕ) (outputs : List ℕ) → k < length outputs → given_part p (suc k) outputs ≡ given_before (suc p) (take k outputs)
    ++ (given_before (suc p) (get_or outputs k 0 ∷ []) ++ given_before p (drop (suc k) outputs))
part-next p k outputs lt =
    ap (λ xs. given_before (suc p) xs ++ given_before p (drop (suc k) outputs)) (take-suc outputs k 0 lt)
    ∙ ap (λ xs. xs ++ given_before p (drop (suc k) outputs)) (map-append (λ x. if ltb x (suc p) then Some x else None) (take k outputs)
    (get_or outputs k 0 ∷ []))
    ∙ append_assoc (given_before (suc p) (take k outputs)) (given_before (suc p) (get_or outputs k 0 ∷ [])) (given_before p (drop (suc k) outputs))

-- an output of another node
pub part-other : (p k : ℕ) (outputs : List ℕ) → k < length outputs → get_or outputs k 0 ≢ p → given_part p k outputs ≡ given_part p (suc k) outputs
part-other p k outputs lt ne =
    let y = get_or outputs k 0 in
    let same : ltb y p ≡ ltb y (suc p) = ⊎_elim (λ a. lt-ltb y p a ∙ sym (lt-ltb y (suc p) (omega arith)))
    (λ a. let more : suc p ≤ y = omega arith in le-ltb y p a ∙ sym (le-ltb y (suc p) more)) (cases_lt y p) in
    part-at p k outputs lt
    ∙ ap (λ (b : Bool). given_before (suc p) (take k outputs) ++ (((if b then Some y else None) ∷ []) ++ given_before p (drop (suc k) outputs))) same
    ∙ sym (part-next p k outputs lt)

-- an output of this node
pub part-this : (p k : ℕ) (outputs : List ℕ) → k < length outputs → get_or outputs k 0 ≡ p
    → set (given_part p k outputs) k (Some p) ≡ given_part p (suc k) outputs
part-this p k outputs lt is =
    let y = get_or outputs k 0 in
    let size : length (given_before (suc p) (take k outputs)) ≡ k = length-map (take k outputs) (λ x. if ltb x (suc p) then Some x else None)
    ∙ length-take-le k outputs (omega arith) in
    let here : ltb y (suc p) ≡ true = lt-ltb y (suc p) (omega arith) in
    ap (λ xs. set xs k (Some p)) (part-at p k outputs lt)
    ∙ set_at (given_before (suc p) (take k outputs)) (if ltb y p then Some y else None) (given_before p (drop (suc k) outputs)) (Some p) k size
    ∙ ap (λ (x : ℕ). given_before (suc p) (take k outputs) ++ Some x ∷ given_before p (drop (suc k) outputs)) (sym is)
    ∙ ap (λ (b : Bool). given_before (suc p) (take k outputs) ++ (((if b then Some y else None) ∷ []) ++ given_before p (drop (suc k) outputs))) (sym here)
    ∙ sym (part-next p k outputs lt)

-- it wasn't set before
pub part-free : (p k : ℕ) (outputs : List ℕ) → k < length outputs → get_or outputs k 0 ≡ p → get_or (given_part p k outputs) k None ≡ None
part-free p k outputs lt is =
    let y = get_or outputs k 0 in
    let size : length (given_before (suc p) (take k outputs)) ≡ k = length-map (take k outputs) (λ x. if ltb x (suc p) then Some x else None)
    ∙ length-take-le k outputs (omega arith) in
    ap (λ xs. get_or xs k None) (part-at p k outputs lt)
    ∙ get_or_at (given_before (suc p) (take k outputs)) (if ltb y p then Some y else None) (given_before p (drop (suc k) outputs)) None k size
    ∙ ap (λ b. if b then Some y else None) (le-ltb y p (omega arith))

-- each output has an entry
pub length-part : (p k : ℕ) (outputs : List ℕ) → length (given_part p k outputs) ≡ length outputs
length-part p k outputs =
    let front : length (given_before (suc p) (take k outputs)) ≡ length (take k outputs) = length-map (take k outputs)
    (λ x. if ltb x (suc p) then Some x else None) in
    let back : length (given_before p (drop k outputs)) ≡ length (drop k outputs) = length-map (drop k outputs) (λ x. if ltb x p then Some x else None) in
    let all : length (take k outputs) + length (drop k outputs) ≡ length outputs = sym (length-append (take k outputs) (drop k outputs))
    ∙ ap length (take-append-drop k outputs) in
    length-append (given_before (suc p) (take k outputs)) (given_before p (drop k outputs))
    ∙ (let whole : length (given_before (suc p) (take k outputs)) + length (given_before p (drop k outputs)) ≡ length outputs = omega arith in whole)

-- before the first output is compared, and after the last
pub part-none : (p : ℕ) (outputs : List ℕ) → given_before p outputs ≡ given_part p 0 outputs
part-none p outputs = refl

pub part-all : (p k : ℕ) (outputs : List ℕ) → length outputs ≤ k → given_part p k outputs ≡ given_before (suc p) outputs
part-all p k outputs le =
    ap (λ xs. given_before (suc p) xs ++ given_before p (drop k outputs)) (take_all k outputs le)
    ∙ ap (λ xs. given_before (suc p) outputs ++ given_before p xs) (drop_all k outputs le)
    ∙ append-nil (given_before (suc p) outputs)

-- one more output is set
pub count-set : (xs : List (Option ℕ)) (j x : ℕ) → j < length xs → get_or xs j None ≡ None → count_some (set xs j (Some x)) ≡ suc (count_some xs)
count-set [] j x lt free = absurd (omega arith)
count-set (None ∷ xs) zero x lt free = refl
count-set (Some y ∷ xs) zero x lt free = absurd (none≢some y (sym free))
count-set (None ∷ xs) (suc j) x lt free = count-set xs j x (omega arith) free
count-set (Some y ∷ xs) (suc j) x lt free = ap suc (count-set xs j x (omega arith) free)

pub count-gave : (p j j' : ℕ) (outputs : List ℕ) → suc j ≡ j' → j < length outputs → get_or outputs j 0 ≡ p
    → count_some (given_part p j' outputs) ≡ suc (count_some (given_part p j outputs))
count-gave p j j' outputs e lt is =
    ap (λ m. count_some (given_part p m outputs)) (sym e)
    ∙ ap (count_some) (sym (part-this p j outputs lt is))
    ∙ count-set (given_part p j outputs) j p (omega (arith, length-part p j outputs)) (part-free p j outputs lt is)

-- at most all outputs are set
pub count-least : (xs : List (Option ℕ)) → count_some xs ≤ length xs
count-least [] = omega arith
count-least (None ∷ xs) = omega (arith, count-least xs)
count-least (Some x ∷ xs) = omega (arith, count-least xs)

pub given-least : (p : ℕ) (outputs : List ℕ) → count_given p outputs ≤ length outputs
given-least p outputs =
    let size : length (given_before p outputs) ≡ length outputs = length-map outputs (λ x. if ltb x p then Some x else None) in
    omega (arith, count-least (given_before p outputs))

pub part-least : (p k : ℕ) (outputs : List ℕ) → count_some (given_part p k outputs) ≤ length outputs
part-least p k outputs = omega (arith, count-least (given_part p k outputs), length-part p k outputs)
