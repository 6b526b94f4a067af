-- The numbers of code are in range: by their types, and registers by validity.
use Rattle.std.proofs.Common.{◌≡◌, ◌<◌, ◌≤◌, ◌+◌, ℕ, suc, Bool, true, false, List, [], ◌∷◌, length, get_or, drop, Option, Some, None, refl, sym, subst}
use Rattle.std.specs.Prelude.{if◌then◌else◌}
use Rattle.std.specs.List.{AllByRecursion}
use Rattle.std.specs.Option.{option_map_or}
use Rattle.std.proofs.lemmas.Bool.{and_parts, ltb-true}
use Rattle.std.proofs.lemmas.List.{drop_more, drop_all}
use Rattle.reg_machine.specs.declared.instr.Instr.{Instr}
use Rattle.reg_machine.specs.declared.instr.Instr.TheVariants.{Take, Lit, Do, Store, Load, Check, Output}
use Rattle.reg_machine.specs.declared.instr.TheConstants.{REGISTERS}
use Rattle.reg_machine.specs.declared.wrong.CodeWrong.TheVariants.{BadNumber, BadOrder}
use Rattle.reg_machine.specs.Flow.{Counts, Listing, State, code_fault, fault_from, has_numbers, moved, start}
use Rattle.code_file.specs.Reading.{IsInstr}
use Rattle.code_file.specs.inner.Read.{IsReadInstr}

-- ---- a loop over a list

-- from "those from k + 1 on imply all" to "those from k on imply all"
pub all-next : {X : Type 0} (P : X → Type 0) (xs : List X) (k : ℕ) (x d : X) → k < length xs → x ≡ get_or xs k d → P x
    → (AllByRecursion P (drop k xs) → AllByRecursion P xs) → AllByRecursion P (drop (k + 1) xs) → AllByRecursion P xs
all-next P xs k x d lt is p before behind = before (subst (AllByRecursion P) (sym (drop_more xs k d lt)) (subst P is p, behind))

-- past the end nothing is missing
pub all-done : {X : Type 0} (P : X → Type 0) (xs : List X) (k : ℕ) → length xs ≤ k → (AllByRecursion P (drop k xs) → AllByRecursion P xs) → AllByRecursion P xs
all-done P xs k le before = before (subst (AllByRecursion P) (sym (drop_all k xs le)) tt)

-- ---- instructions

-- an instruction with numbers in range, in valid code
right-instr : (n : Counts) (s : State) (i : Instr) → has_numbers n s i ≡ true → IsReadInstr i → IsInstr i
right-instr n s (Take r k) h f = (ltb-true r REGISTERS (and_parts _ _ h).0, f)
right-instr n s (Lit r v) h f = (ltb-true r REGISTERS h, f)
right-instr n s (Do op r a b c) h f =
    let w = and_parts _ _ h in
    let x = and_parts _ _ w.1 in
    let y = and_parts _ _ x.1 in
    let z = and_parts _ _ y.1 in
    (ltb-true r REGISTERS w.0, ltb-true a REGISTERS x.0, ltb-true b REGISTERS y.0, ltb-true c REGISTERS z.0, z.1)
right-instr n s (Store k r) h f = (f, ltb-true r REGISTERS (and_parts _ _ h).1)
right-instr n s (Load r k) h f = (ltb-true r REGISTERS (and_parts _ _ h).0, f)
right-instr n s (Check g r over_only label) h f =
    let w = and_parts _ _ h in
    (ltb-true g REGISTERS w.0, ltb-true r REGISTERS (and_parts _ _ w.1).0, f)
right-instr n s (Output k r) h f = (f, ltb-true r REGISTERS (and_parts _ _ (and_parts _ _ h).1).0)

right-from : (n : Counts) (s : State) (k : ℕ) (instrs : List Instr) → fault_from n s k instrs ≡ None → AllByRecursion IsReadInstr instrs
    → AllByRecursion IsInstr instrs
right-from n s k [] e f = tt
right-from n s k (i ∷ instrs) e f = by (λ t e. right-from n t (suc k) instrs e f.1) (has_numbers n s i) refl (moved i s) e
  where
    by : ((t : State) → fault_from n t (suc k) instrs ≡ None → AllByRecursion IsInstr instrs) → (right : Bool) → has_numbers n s i ≡ right
        → (next : Option State)
        → (if right then option_map_or (λ t. fault_from n t (suc k) instrs) next (Some (BadOrder k)) else Some (BadNumber k)) ≡ None
        → AllByRecursion IsInstr (i ∷ instrs)
    by rest true h (Some t) e = (right-instr n s i h f.0, rest t e)
    by rest true h None e = absurd (cc e)
    by rest false h next e = absurd (cc e)

-- all instructions of valid code
pub right-instrs : (code : Listing) → code_fault code ≡ None → AllByRecursion IsReadInstr code.instrs → AllByRecursion IsInstr code.instrs
right-instrs code right read = right-from code.counts (start code.counts.outputs) 0 code.instrs right read
