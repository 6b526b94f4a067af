-- The cells, one instruction after another.
use Rattle.std.proofs.Common.{◌≡◌, ◌≢◌, ℕ, zero, suc, ◌<◌, ◌≤◌, Bool, true, false, List, [], ◌∷◌, length, get_or, set, map, drop, replicate, Option, None, Some}
use Rattle.std.proofs.Common.{is_some, refl, ap, sym, ◌∙◌, subst, ⊎_elim, arith, drop-cons}
use Rattle.std.specs.Prelude.{if◌then◌else◌}
use Rattle.std.specs.List.{AllByRecursion}
use Rattle.std.proofs.lemmas.Bool.{cases_eq}
use Rattle.std.proofs.lemmas.List.{length-set, get_or-set_same, get_or-set_other, drop_all}
use Rattle.m_fixed.specs.declared.amount.Value.{Value}
use Rattle.m_fixed.specs.declared.amount.Value.TheVariants.{Undef}
use Rattle.m_fixed.specs.Operators.{op_value}
use Rattle.observables.specs.declared.answer.Stop.{Stop}
use Rattle.flat_code.specs.Runs.{is_one, stop_of}
use Rattle.reg_machine.specs.declared.instr.Instr.{Instr}
use Rattle.reg_machine.specs.declared.instr.TheConstants.{REGISTERS}
use Rattle.reg_machine.specs.declared.code.Packed.{Packed}
use Rattle.reg_machine.specs.declared.code.Packed.TheVariants.{Take, Lit, Do, Store, Load, Check, Output}
use Rattle.reg_machine.specs.Flow.{put}
use Rattle.reg_machine.specs.Machine.{Machine, fresh, act, act_at, acts, answer_of, answer_behind}
use Rattle.reg_machine.specs.inner.Packed.{unpacked, IsPacked, AreDistinct}
use Rattle.reg_machine.specs.inner.Cells.{at, registers_behind, slots_behind, outputs_behind, stop_behind, Mirrors, GoesOn}
use Rattle.reg_machine.proofs.TableLemmas.{put-same, put-other}

pub all-at : {X : Type 0} (P : X → Type 0) (xs : List X) (i : ℕ) (d : X) → AllByRecursion P xs → i < length xs → P (get_or xs i d)
all-at P [] i d h lt = absurd (omega arith)
all-at P (x ∷ xs) zero d h lt = h.0
all-at P (x ∷ xs) (suc i) d h lt = all-at P xs i d h.1 (omega arith)

-- values that are all undefined
pub all-undefined : (values : List Value) → ((k : ℕ) → k < length values → at values k ≡ Undef) → values ≡ replicate (length values) Undef
all-undefined [] each = refl
all-undefined (v ∷ values) each = ap (λ x. x ∷ values) (each 0 (omega arith))
    ∙ ap (λ xs. Undef ∷ xs) (all-undefined values (λ k lt. each (suc k) (omega arith)))

at-undefined : (n k : ℕ) → at (replicate n Undef) k ≡ Undef
at-undefined zero k = refl
at-undefined (suc n) zero = refl
at-undefined (suc n) (suc k) = at-undefined n k

length-undefined : (n : ℕ) → length (replicate n Undef) ≡ n
length-undefined zero = refl
length-undefined (suc n) = ap suc (length-undefined n)

-- cells that are all undefined are those of a machine before its first instruction
pub mirrors-fresh : (used : List ℕ) (n m : ℕ) (rs ss os : List Value) → n ≡ length used → rs ≡ replicate REGISTERS Undef → ss ≡ replicate n Undef
    → os ≡ replicate m Undef → (k : ℕ) → k ≡ m → Mirrors used (fresh k) rs ss os
mirrors-fresh used n m rs ss os room r s o k e = record {
  width = ap length r ∙ length-undefined REGISTERS;
  room = ap length s ∙ length-undefined n ∙ room;
  registers = λ j lt. ap (λ (vs : List Value). at vs j) r ∙ at-undefined REGISTERS j;
  slots = λ j lt. ap (λ (vs : List Value). at vs j) s ∙ at-undefined n j;
  outputs = o ∙ ap (λ (i : ℕ). replicate i Undef) (sym e);
  going = refl;
}

-- a register is written
mirrors-register : (used : List ℕ) (m : Machine) (rs ss os : List Value) (r : ℕ) (v w : Value) → Mirrors used m rs ss os → r < REGISTERS → v ≡ w
    → Mirrors used (record m { registers = put m.registers r w }) (set rs r v) ss os
mirrors-register used m rs ss os r v w h lt is = record {
  width = length-set rs r v ∙ h.width;
  room = h.room;
  registers = λ q below. ⊎_elim
      (λ (e : q ≡ r). subst (λ j. at (set rs r v) j ≡ put m.registers r w j) (sym e) (get_or-set_same rs r v Undef (omega (arith, h.width)) ∙ is
      ∙ sym (put-same m.registers r w)))
      (λ (ne : q ≢ r). get_or-set_other rs r q v Undef ne ∙ h.registers q below ∙ sym (put-other m.registers r w q ne))
      (cases_eq q r);
  slots = h.slots;
  outputs = h.outputs;
  going = h.going;
}

-- the stop of a check with these two values
abbrev stop_by : Bool → ℕ → Value → Value → Option Stop
stop_by over_only label guard condition = if is_one guard then stop_of over_only label condition else None

same-stop : (used : List ℕ) (m : Machine) (rs ss os : List Value) (g r : ℕ) (over_only : Bool) (label : ℕ) → Mirrors used m rs ss os → g < REGISTERS
    → r < REGISTERS → stop_by over_only label (m.registers g) (m.registers r) ≡ stop_by over_only label (at rs g) (at rs r)
same-stop used m rs ss os g r over_only label h a b =
    ap (λ v. stop_by over_only label v (m.registers r)) (sym (h.registers g a)) ∙ ap (λ v. stop_by over_only label (at rs g) v) (sym (h.registers r b))

-- one instruction ends both runs, or none
mirrors-stop : (inputs pool : List Value) (used : List ℕ) (p : Packed) (m : Machine) (rs ss os : List Value)
    → IsPacked (length inputs) (length os) (length pool) (length used) p → Mirrors used m rs ss os
    → (act inputs (unpacked pool used p) m).ended ≡ stop_behind rs p
mirrors-stop inputs pool used (Take r n) m rs ss os ok h = h.going
mirrors-stop inputs pool used (Lit r k) m rs ss os ok h = h.going
mirrors-stop inputs pool used (Do op r a b c) m rs ss os ok h = h.going
mirrors-stop inputs pool used (Store k r) m rs ss os ok h = h.going
mirrors-stop inputs pool used (Load r k) m rs ss os ok h = h.going
mirrors-stop inputs pool used (Check g r over_only label) m rs ss os ok h = same-stop used m rs ss os g r over_only label h ok.0 ok.1
mirrors-stop inputs pool used (Output k r) m rs ss os ok h = h.going

-- one instruction that doesn't end the run
mirrors-act : (inputs pool : List Value) (used : List ℕ) (p : Packed) (m : Machine) (rs ss os : List Value) → AreDistinct used
    → IsPacked (length inputs) (length os) (length pool) (length used) p → Mirrors used m rs ss os → stop_behind rs p ≡ None
    → Mirrors used (act inputs (unpacked pool used p) m) (registers_behind inputs pool rs ss p) (slots_behind rs ss p) (outputs_behind rs os p)
mirrors-act inputs pool used (Take r n) m rs ss os apart ok h go = mirrors-register used m rs ss os r (at inputs n) (at inputs n) h ok.0 refl
mirrors-act inputs pool used (Lit r k) m rs ss os apart ok h go = mirrors-register used m rs ss os r (at pool k) (at pool k) h ok.0 refl
mirrors-act inputs pool used (Do op r a b c) m rs ss os apart ok h go =
    mirrors-register used m rs ss os r (op_value op (at rs a) (at rs b) (at rs c)) (op_value op (m.registers a) (m.registers b) (m.registers c)) h ok.0
    (ap (λ v. op_value op v (at rs b) (at rs c)) (h.registers a ok.1) ∙ ap (λ v. op_value op (m.registers a) v (at rs c)) (h.registers b ok.2)
    ∙ ap (λ v. op_value op (m.registers a) (m.registers b) v) (h.registers c ok.3))
mirrors-act inputs pool used (Store k r) m rs ss os apart ok h go = record {
  width = h.width;
  room = length-set ss k (at rs r) ∙ h.room;
  registers = h.registers;
  slots = λ d below. ⊎_elim
      (λ (e : d ≡ k). subst (λ j. at (set ss k (at rs r)) j ≡ put m.slots (get_or used k 0) (m.registers r) (get_or used j 0)) (sym e)
      (get_or-set_same ss k (at rs r) Undef (omega (arith, ok.0, h.room)) ∙ h.registers r ok.1 ∙ sym (put-same m.slots (get_or used k 0) (m.registers r))))
      (λ (ne : d ≢ k). get_or-set_other ss k d (at rs r) Undef ne ∙ h.slots d below
      ∙ sym (put-other m.slots (get_or used k 0) (m.registers r) (get_or used d 0) (λ e. ne (apart d k below ok.0 e))))
      (cases_eq d k);
  outputs = h.outputs;
  going = h.going;
}
mirrors-act inputs pool used (Load r k) m rs ss os apart ok h go = mirrors-register used m rs ss os r (at ss k) (m.slots (get_or used k 0)) h ok.0
    (h.slots k ok.1)
mirrors-act inputs pool used (Check g r over_only label) m rs ss os apart ok h go = record {
  width = h.width;
  room = h.room;
  registers = h.registers;
  slots = h.slots;
  outputs = h.outputs;
  going = same-stop used m rs ss os g r over_only label h ok.0 ok.1 ∙ go;
}
mirrors-act inputs pool used (Output k r) m rs ss os apart ok h go = record {
  width = h.width;
  room = h.room;
  registers = h.registers;
  slots = h.slots;
  outputs = ap (λ vs. set vs k (at rs r)) h.outputs ∙ ap (set m.outputs k) (h.registers r ok.1);
  going = h.going;
}

-- a run that has ended stays as it is
acts-ended : (inputs : List Value) (m : Machine) (stop : Stop) (is : List Instr) → m.ended ≡ Some stop → acts inputs m is ≡ m
acts-ended inputs m stop [] e = refl
acts-ended inputs m stop (i ∷ is) e = ap (λ o. acts inputs (act_at inputs o i m) is) e ∙ acts-ended inputs m stop is e

-- the instruction at a place, and those after it
abbrev pub Instrs : List Value → List ℕ → List Packed → List Instr
Instrs pool used packed = map (unpacked pool used) packed

acts-from : (inputs pool : List Value) (used : List ℕ) (packed : List Packed) (m : Machine) (i : ℕ) (p : Packed) → i < length packed → p ≡ get_or packed i p
    → m.ended ≡ None → acts inputs m (Instrs pool used (drop i packed)) ≡ acts inputs (act inputs (unpacked pool used p) m)
    (Instrs pool used (drop (suc i) packed))
acts-from inputs pool used packed m i p lt is e =
    ap (λ ps. acts inputs m (Instrs pool used ps)) (drop-cons packed i p lt)
    ∙ ap (λ q. acts inputs (act_at inputs m.ended (unpacked pool used q) m) (Instrs pool used (drop (suc i) packed))) (sym is)
    ∙ ap (λ o. acts inputs (act_at inputs o (unpacked pool used p) m) (Instrs pool used (drop (suc i) packed))) e

pub goes-start : (inputs pool : List Value) (used : List ℕ) (packed : List Packed) (first : Machine) (rs ss os : List Value) → Mirrors used first rs ss os
    → GoesOn inputs pool used packed first 0 rs ss os
goes-start inputs pool used packed first rs ss os h = record { now = first; mirrors = h; rest = refl }

-- its numbers are below the counts
pub goes-ok : (inputs pool : List Value) (used : List ℕ) (packed : List Packed) (n : ℕ) (i : ℕ) (p : Packed) (first : Machine) (rs ss os : List Value)
    → AllByRecursion (IsPacked (length inputs) n (length pool) (length used)) packed → length os ≡ n → i < length packed → p ≡ get_or packed i p
    → GoesOn inputs pool used packed first i rs ss os → IsPacked (length inputs) (length os) (length pool) (length ss) p
goes-ok inputs pool used packed n i p first rs ss os all size lt is h =
    subst (λ k. IsPacked (length inputs) k (length pool) (length ss) p) (sym size)
    (subst (λ k. IsPacked (length inputs) n (length pool) k p) (sym h.mirrors.room)
    (subst (IsPacked (length inputs) n (length pool) (length used)) (sym is) (all-at (IsPacked (length inputs) n (length pool) (length used)) packed i p all
    lt)))

no-stop : (o : Option Stop) → is_some o ≡ false → o ≡ None
no-stop None e = refl
no-stop (Some stop) e = absurd (let f : true ≡ false = e in (cc))

a-stop : (o : Option Stop) → is_some o ≡ true → (stop : Stop) × (o ≡ Some stop)
a-stop None e = absurd (let f : false ≡ true = e in (cc))
a-stop (Some stop) e = (stop, refl)

-- no instruction changes how many outputs and slots there are
pub length-outputs : (rs os : List Value) (p : Packed) → length (outputs_behind rs os p) ≡ length os
length-outputs rs os (Take r n) = refl
length-outputs rs os (Lit r k) = refl
length-outputs rs os (Do op r a b c) = refl
length-outputs rs os (Store k r) = refl
length-outputs rs os (Load r k) = refl
length-outputs rs os (Check g r over_only label) = refl
length-outputs rs os (Output k r) = length-set os k (at rs r)

pub length-slots : (rs ss : List Value) (p : Packed) → length (slots_behind rs ss p) ≡ length ss
length-slots rs ss (Take r n) = refl
length-slots rs ss (Lit r k) = refl
length-slots rs ss (Do op r a b c) = refl
length-slots rs ss (Store k r) = length-set ss k (at rs r)
length-slots rs ss (Load r k) = refl
length-slots rs ss (Check g r over_only label) = refl
length-slots rs ss (Output k r) = refl

-- within a list the default for places past its end doesn't matter
pub at-any : (xs : List Packed) (i : ℕ) (d e : Packed) → i < length xs → get_or xs i d ≡ get_or xs i e
at-any [] i d e lt = absurd (omega arith)
at-any (x ∷ xs) zero d e lt = refl
at-any (x ∷ xs) (suc i) d e lt = at-any xs i d e (omega arith)

pub goes-next : (inputs pool : List Value) (used : List ℕ) (packed : List Packed) (i j : ℕ) (p : Packed) (first : Machine) (rs ss os rs' ss' os' : List Value)
    → AreDistinct used → i < length packed → p ≡ get_or packed i p → IsPacked (length inputs) (length os) (length pool) (length ss) p
    → GoesOn inputs pool used packed first i rs ss os → (o : Option Stop) → is_some o ≡ false → o ≡ stop_behind rs p → suc i ≡ j
    → rs' ≡ registers_behind inputs pool rs ss p → ss' ≡ slots_behind rs ss p → os' ≡ outputs_behind rs os p
    → GoesOn inputs pool used packed first j rs' ss' os'
goes-next inputs pool used packed i j p first rs ss os rs' ss' os' apart lt is ok h stop none go e r s o =
    let ok' = subst (λ k. IsPacked (length inputs) (length os) (length pool) k p) h.mirrors.room ok in
    let mirrors = mirrors-act inputs pool used p h.now rs ss os apart ok' h.mirrors (sym go ∙ no-stop stop none) in
    subst (λ j. GoesOn inputs pool used packed first j rs' ss' os') e
    (subst (λ vs. GoesOn inputs pool used packed first (suc i) vs ss' os') (sym r)
    (subst (λ vs. GoesOn inputs pool used packed first (suc i) (registers_behind inputs pool rs ss p) vs os') (sym s)
    (subst (λ vs. GoesOn inputs pool used packed first (suc i) (registers_behind inputs pool rs ss p) (slots_behind rs ss p) vs) (sym o)
    (record {
      now = act inputs (unpacked pool used p) h.now;
      mirrors = mirrors;
      rest = sym (acts-from inputs pool used packed h.now i p lt is h.mirrors.going)
          ∙ h.rest;
    }))))

-- the run ends at this instruction
pub goes-stop : (inputs pool : List Value) (used : List ℕ) (packed : List Packed) (n i : ℕ) (p : Packed) (rs ss os outputs : List Value) (o : Option Stop)
    → i < length packed → p ≡ get_or packed i p → IsPacked (length inputs) (length os) (length pool) (length ss) p
    → GoesOn inputs pool used packed (fresh n) i rs ss os → is_some o ≡ true → o ≡ stop_behind rs p
    → answer_of o outputs ≡ answer_behind inputs n (Instrs pool used packed)
goes-stop inputs pool used packed n i p rs ss os outputs o lt is ok h some e =
    let found = a-stop o some in
    let stop = found.0 in
    let ok' = subst (λ k. IsPacked (length inputs) (length os) (length pool) k p) h.mirrors.room ok in
    let end = act inputs (unpacked pool used p) h.now in
    let ended : end.ended ≡ Some stop = mirrors-stop inputs pool used p h.now rs ss os ok' h.mirrors ∙ sym e ∙ found.1 in
    let whole : end ≡ acts inputs (fresh n) (Instrs pool used packed) = sym (acts-ended inputs end stop (Instrs pool used (drop (suc i) packed)) ended)
    ∙ sym (acts-from inputs pool used packed h.now i p lt is h.mirrors.going) ∙ h.rest in
    ap (λ o. answer_of o outputs) found.1
    ∙ subst (λ (m : Machine). answer_of (Some stop) outputs ≡ answer_of m.ended m.outputs) whole (ap (λ o. answer_of o end.outputs) (sym ended))

-- the run goes through all instructions
pub goes-end : (inputs pool : List Value) (used : List ℕ) (packed : List Packed) (n i : ℕ) (rs ss os : List Value) → length packed ≤ i
    → GoesOn inputs pool used packed (fresh n) i rs ss os → answer_of None os ≡ answer_behind inputs n (Instrs pool used packed)
goes-end inputs pool used packed n i rs ss os le h =
    let whole : h.now ≡ acts inputs (fresh n) (Instrs pool used packed) = ap (λ ps. acts inputs h.now (Instrs pool used ps)) (sym (drop_all i packed le))
    ∙ h.rest in
    subst (λ (m : Machine). answer_of None os ≡ answer_of m.ended m.outputs) whole
    (ap (λ vs. answer_of None vs) h.mirrors.outputs ∙ ap (λ o. answer_of o h.now.outputs) (sym h.mirrors.going))
