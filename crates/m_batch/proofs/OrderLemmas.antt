-- If nothing is read before it is written, the initial registers and slots are irrelevant.
use Rattle.std.proofs.Common.{◌≡◌, ◌≢◌, ℕ, zero, suc, ◌<◌, Bool, true, false, length, get_or, set, map, replicate, List, [], ◌∷◌, Option, None, Some, is_none}
use Rattle.std.proofs.Common.{refl, sym, ◌∙◌, ap, subst, ⊎_elim, arith}
use Rattle.std.specs.Prelude.{if◌then◌else◌, IsSome}
use Rattle.std.specs.Option.{option_and_then, option_map, option_map_or}
use Rattle.std.specs.List.{AllByRecursion}
use Rattle.std.proofs.lemmas.Bool.{cases_eq}
use Rattle.std.proofs.lemmas.List.{ext_get_or, length-set, length-replicate, get_or-set_same, get_or-set_other}
use Rattle.m_fixed.specs.declared.amount.Value.{Value}
use Rattle.m_fixed.specs.declared.amount.Value.TheVariants.{Undef}
use Rattle.m_fixed.specs.Operators.{op_value}
use Rattle.observables.specs.declared.answer.Stop.{Stop}
use Rattle.observables.specs.declared.answer.Answer.{Answer}
use Rattle.flat_code.specs.declared.program.Node.{Node}
use Rattle.flat_code.specs.declared.program.Node.TheVariants.{Input, Lit as LitNode, Do as DoNode}
use Rattle.reg_machine.specs.declared.instr.Instr.{Instr}
use Rattle.reg_machine.specs.declared.instr.TheConstants.{REGISTERS}
use Rattle.reg_machine.specs.declared.code.Packed.{Packed}
use Rattle.reg_machine.specs.declared.code.Packed.TheVariants.{Take, Lit, Do, Store, Load, Check, Output}
use Rattle.reg_machine.specs.declared.code.Parts.{Parts}
use Rattle.reg_machine.specs.declared.wrong.CodeWrong.{CodeWrong}
use Rattle.reg_machine.specs.declared.wrong.CodeWrong.TheVariants.{BadNumber, BadOrder, NoOutput}
use Rattle.reg_machine.specs.Flow.{Counts, Listing, State, put, start, with_node, has_numbers, moved, all_given, fault_from}
use Rattle.reg_machine.specs.Machine.{Machine, fresh, act, act_at, acts, answer_of, machine_run}
use Rattle.reg_machine.specs.inner.Packed.{unpacked, IsPacked, AreDistinct, AreParts}
use Rattle.reg_machine.specs.inner.Cells.{at}
use Rattle.reg_machine.proofs.TableLemmas.{put-same, put-other, put-cases, none≢some, some-is}
use Rattle.m_batch.specs.inner.Rooms.{check_stop, kept}
use Rattle.m_batch.specs.inner.Ran.{Ran, stop_in, run_on, ran_from, ran_answer}

-- ---- a run that has stopped

stop_kept : (inputs pool : List Value) (packed : List Packed) (ran : Ran) (stop : Stop) → ran.stop ≡ Some stop
    → (ran_from inputs pool ran packed).stop ≡ Some stop
stop_kept inputs pool [] ran stop is = is
stop_kept inputs pool (p ∷ packed) ran stop is = stop_kept inputs pool packed (run_on inputs pool ran p) stop
    (ap (λ (o : Option Stop). kept o (stop_in ran.registers p)) is)

same_stop : (inputs pool : List Value) (packed : List Packed) (ran : Ran) (stop : Option Stop) → ran.stop ≡ stop → IsSome stop
    → ran_answer (ran_from inputs pool ran packed) ≡ ran_answer ran
same_stop inputs pool packed ran (Some stop) is some =
    ap (λ (o : Option Stop). answer_of o (ran_from inputs pool ran packed).outputs) (stop_kept inputs pool packed ran stop is)
    ∙ ap (λ (o : Option Stop). answer_of o ran.outputs) (sym is)
same_stop inputs pool packed ran None is some = absurd (cc some)

-- its answer is its stop, whatever follows
pub ran_stays : (inputs pool : List Value) (packed : List Packed) (ran : Ran) → IsSome ran.stop → ran_answer (ran_from inputs pool ran packed) ≡ ran_answer ran
ran_stays inputs pool packed ran some = same_stop inputs pool packed ran ran.stop refl some

-- the same for a machine
acts-ended : (inputs : List Value) (m : Machine) (stop : Stop) (is : List Instr) → m.ended ≡ Some stop → acts inputs m is ≡ m
acts-ended inputs m stop [] e = refl
acts-ended inputs m stop (i ∷ is) e = ap (λ (o : Option Stop). acts inputs (act_at inputs o i m) is) e ∙ acts-ended inputs m stop is e

-- ---- valid code

picked : (b : Bool) (o : Option State) (f : State → Option CodeWrong) (k : ℕ) → (if b then option_map_or f o (Some (BadOrder k)) else Some (BadNumber k)) ≡ None
    → (t : State) × (o ≡ Some t) × (f t ≡ None)
picked true (Some t) f k e = (t, refl, e)
picked true None f k e = absurd (cc e)
picked false o f k e = absurd (cc e)

-- the state after each instruction is what the next one needs
fault_next : (n : Counts) (s : State) (k : ℕ) (i : Instr) (is : List Instr) → fault_from n s k (i ∷ is) ≡ None → (t : State) × (moved i s ≡ Some t)
    × (fault_from n t (suc k) is ≡ None)
fault_next n s k i is e = picked (has_numbers n s i) (moved i s) (λ t. fault_from n t (suc k) is) k e

then_from : (o : Option ℕ) (f : ℕ → Option State) (t : State) → option_and_then f o ≡ Some t → (x : ℕ) × (o ≡ Some x) × (f x ≡ Some t)
then_from None f t e = absurd (none≢some t e)
then_from (Some x) f t e = (x, refl, e)

map_from : (o : Option ℕ) (f : ℕ → State) (t : State) → option_map f o ≡ Some t → (x : ℕ) × (o ≡ Some x) × (f x ≡ t)
map_from None f t e = absurd (none≢some t e)
map_from (Some x) f t e = (x, refl, some-is (f x) t e)

not_none : (o : Option (List ℕ)) → (if is_none o then Some NoOutput else None) ≡ None → IsSome o
not_none None e = absurd (cc e)
not_none (Some xs) e = refl

rest_some : (x : ℕ) (o : Option (List ℕ)) → IsSome (option_map (λ xs. x ∷ xs) o) → IsSome o
rest_some x None some = absurd (cc some)
rest_some x (Some xs) some = refl

-- if all outputs are given, each one is
given_each : (outputs : List (Option ℕ)) (k : ℕ) → IsSome (all_given outputs) → k < length outputs → (x : ℕ) × (get_or outputs k None ≡ Some x)
given_each [] k some lt = absurd (omega arith)
given_each (None ∷ outputs) k some lt = absurd (cc some)
given_each (Some x ∷ outputs) zero some lt = (x, refl)
given_each (Some x ∷ outputs) (suc k) some lt = given_each outputs k (rest_some x (all_given outputs) some) (omega arith)

-- ---- a run and a machine with equal known values

record Agree (used : List ℕ) (s : State) (m : Machine) (ran : Ran) : Type 0 where
  width : length ran.registers ≡ REGISTERS
  room : length ran.slots ≡ length used
  registers : (k x : ℕ) → s.registers k ≡ Some x → at ran.registers k ≡ m.registers k
  slots : (d x : ℕ) → d < length used → s.slots (get_or used d 0) ≡ Some x → at ran.slots d ≡ m.slots (get_or used d 0)
  outputs : (k x : ℕ) → get_or s.outputs k None ≡ Some x → at ran.outputs k ≡ at m.outputs k
  many : length ran.outputs ≡ length s.outputs
  given : length m.outputs ≡ length s.outputs

-- a register is written
register_set : (f : ℕ → Option ℕ) (cells : ℕ → Value) (rs : List Value) (r x : ℕ) (v w : Value) → r < length rs → v ≡ w
    → ((k y : ℕ) → f k ≡ Some y → at rs k ≡ cells k)
    → (k y : ℕ) → put f r (Some x) k ≡ Some y → at (set rs r v) k ≡ put cells r w k
register_set f cells rs r x v w lt is h k y e =
    ⊎_elim
    (λ p. subst (λ (j : ℕ). at (set rs r v) j ≡ put cells r w j) (sym p.0) (get_or-set_same rs r v Undef lt ∙ is ∙ sym (put-same cells r w)))
    (λ p. get_or-set_other rs r k v Undef p.0 ∙ h k y p.1 ∙ sym (put-other cells r w k p.0))
    (put-cases f r x k y e)

-- an output is given
output_set : (outputs : List (Option ℕ)) (rs ms : List Value) (k x : ℕ) (v w : Value) → k < length rs → k < length ms → v ≡ w
    → ((j y : ℕ) → get_or outputs j None ≡ Some y → at rs j ≡ at ms j)
    → (j y : ℕ) → get_or (set outputs k (Some x)) j None ≡ Some y → at (set rs k v) j ≡ at (set ms k w) j
output_set outputs rs ms k x v w in_rs in_ms is h j y e =
    ⊎_elim
    (λ (same : j ≡ k). subst (λ (i : ℕ). at (set rs k v) i ≡ at (set ms k w) i) (sym same) (get_or-set_same rs k v Undef in_rs ∙ is
    ∙ sym (get_or-set_same ms k w Undef in_ms)))
    (λ (ne : j ≢ k). get_or-set_other rs k j v Undef ne ∙ h j y (sym (get_or-set_other outputs k j (Some x) None ne) ∙ e)
    ∙ sym (get_or-set_other ms k j w Undef ne))
    (cases_eq j k)

-- an operator's result is written
agree_node : (used : List ℕ) (s : State) (m : Machine) (ran : Ran) (r : ℕ) (node : Node) (v w : Value) (stop : Option Stop) → Agree used s m ran → r < REGISTERS
    → v ≡ w
    → Agree used (with_node r node s) (record m { registers = put m.registers r w })
    (record { registers = set ran.registers r v; slots = ran.slots; outputs = ran.outputs; stop = stop })
agree_node used s m ran r node v w stop h lt is = record {
  width = length-set ran.registers r v ∙ h.width;
  room = h.room;
  registers = register_set s.registers m.registers ran.registers r (length s.nodes) v w (omega (arith, lt, h.width)) is h.registers;
  slots = h.slots;
  outputs = h.outputs;
  many = h.many;
  given = h.given;
}

-- a slot is written
slot_set : (used : List ℕ) (f : ℕ → Option ℕ) (cells : ℕ → Value) (ss : List Value) (k x : ℕ) (v w : Value) → AreDistinct used → length ss ≡ length used
    → k < length used → v ≡ w
    → ((d y : ℕ) → d < length used → f (get_or used d 0) ≡ Some y → at ss d ≡ cells (get_or used d 0))
    → (d y : ℕ) → d < length used → put f (get_or used k 0) (Some x) (get_or used d 0) ≡ Some y
    → at (set ss k v) d ≡ put cells (get_or used k 0) w (get_or used d 0)
slot_set used f cells ss k x v w apart room lt is h d y below e =
    ⊎_elim
    (λ (same : d ≡ k). subst (λ (j : ℕ). at (set ss k v) j ≡ put cells (get_or used k 0) w (get_or used j 0)) (sym same)
    (get_or-set_same ss k v Undef (omega (arith, lt, room)) ∙ is ∙ sym (put-same cells (get_or used k 0) w)))
    (λ (ne : d ≢ k).
    let other : get_or used d 0 ≢ get_or used k 0 = λ q. ne (apart d k below lt q) in
    get_or-set_other ss k d v Undef ne
    ∙ h d y below (sym (put-other f (get_or used k 0) (Some x) (get_or used d 0) other) ∙ e)
    ∙ sym (put-other cells (get_or used k 0) w (get_or used d 0) other))
    (cases_eq d k)

-- the state after an instruction
abbrev After : List Value → List Value → List ℕ → Packed → Machine → Ran → State → Type 0
After inputs pool used p m ran t = Agree used t (act inputs (unpacked pool used p) m) (run_on inputs pool ran p)

-- one instruction
agree_act : (inputs pool : List Value) (used : List ℕ) (n : Counts) (p : Packed) (s t : State) (m : Machine) (ran : Ran) → AreDistinct used
    → IsPacked n.inputs n.outputs (length pool) (length used) p → length s.outputs ≡ n.outputs → moved (unpacked pool used p) s ≡ Some t → Agree used s m ran
    → Agree used t (act inputs (unpacked pool used p) m) (run_on inputs pool ran p)
agree_act inputs pool used n (Take r k) s t m ran apart ok many e h =
    subst (After inputs pool used (Take r k) m ran) (some-is _ t e) (agree_node used s m ran r (Input k) (at inputs k) (at inputs k) (kept ran.stop None) h ok.0
    refl)
agree_act inputs pool used n (Lit r k) s t m ran apart ok many e h =
    subst (After inputs pool used (Lit r k) m ran) (some-is _ t e) (agree_node used s m ran r (LitNode (at pool k)) (at pool k) (at pool k) (kept ran.stop None)
    h ok.0 refl)
agree_act inputs pool used n (Do op r a b c) s t m ran apart ok many e h =
    let x = then_from (s.registers a) _ t e in
    let y = then_from (s.registers b) _ t x.2 in
    let z = map_from (s.registers c) _ t y.2 in
    let is : op_value op (at ran.registers a) (at ran.registers b) (at ran.registers c) ≡ op_value op (m.registers a) (m.registers b) (m.registers c) =
    ap (λ v. op_value op v (at ran.registers b) (at ran.registers c)) (h.registers a x.0 x.1)
    ∙ ap (λ v. op_value op (m.registers a) v (at ran.registers c)) (h.registers b y.0 y.1)
    ∙ ap (λ v. op_value op (m.registers a) (m.registers b) v) (h.registers c z.0 z.1) in
    subst (After inputs pool used (Do op r a b c) m ran) z.2 (agree_node used s m ran r (DoNode op x.0 y.0 z.0) _ _ (kept ran.stop None) h ok.0 is)
agree_act inputs pool used n (Store k r) s t m ran apart ok many e h =
    let x = map_from (s.registers r) _ t e in
    subst (After inputs pool used (Store k r) m ran) x.2 (record {
      width = h.width;
      room = length-set ran.slots k (at ran.registers r) ∙ h.room;
      registers = h.registers;
      slots = slot_set used s.slots m.slots ran.slots k x.0 (at ran.registers r) (m.registers r) apart h.room ok.0 (h.registers r x.0 x.1) h.slots;
      outputs = h.outputs;
      many = h.many;
      given = h.given;
    })
agree_act inputs pool used n (Load r k) s t m ran apart ok many e h =
    let x = map_from (s.slots (get_or used k 0)) _ t e in
    subst (After inputs pool used (Load r k) m ran) x.2 (record {
      width = length-set ran.registers r (at ran.slots k) ∙ h.width;
      room = h.room;
      registers = register_set s.registers m.registers ran.registers r x.0 (at ran.slots k) (m.slots (get_or used k 0)) (omega (arith, ok.0, h.width))
          (h.slots k x.0 ok.1 x.1) h.registers;
      slots = h.slots;
      outputs = h.outputs;
      many = h.many;
      given = h.given;
    })
agree_act inputs pool used n (Check g r over_only label) s t m ran apart ok many e h =
    let x = then_from (s.registers g) _ t e in
    let y = map_from (s.registers r) _ t x.2 in
    subst (After inputs pool used (Check g r over_only label) m ran) y.2
    (record { width = h.width; room = h.room; registers = h.registers; slots = h.slots; outputs = h.outputs; many = h.many; given = h.given })
agree_act inputs pool used n (Output k r) s t m ran apart ok many e h =
    let x = map_from (s.registers r) _ t e in
    subst (After inputs pool used (Output k r) m ran) x.2 (record {
      width = h.width;
      room = h.room;
      registers = h.registers;
      slots = h.slots;
      outputs = output_set s.outputs ran.outputs m.outputs k x.0 (at ran.registers r) (m.registers r) (omega (arith, ok.0, many, h.many))
          (omega (arith, ok.0, many, h.given)) (h.registers r x.0 x.1) h.outputs;
      many = length-set ran.outputs k (at ran.registers r) ∙ h.many ∙ sym (length-set s.outputs k (Some x.0));
      given = length-set m.outputs k (m.registers r) ∙ h.given ∙ sym (length-set s.outputs k (Some x.0));
    })

-- the stops of an instruction are the same
same_end : (inputs pool : List Value) (used : List ℕ) (p : Packed) (s t : State) (m : Machine) (ran : Ran) → moved (unpacked pool used p) s ≡ Some t
    → m.ended ≡ None → Agree used s m ran
    → (act inputs (unpacked pool used p) m).ended ≡ stop_in ran.registers p
unfolding check_stop
same_end inputs pool used (Take r n) s t m ran e going h = going
same_end inputs pool used (Lit r k) s t m ran e going h = going
same_end inputs pool used (Do op r a b c) s t m ran e going h = going
same_end inputs pool used (Store k r) s t m ran e going h = going
same_end inputs pool used (Load r k) s t m ran e going h = going
same_end inputs pool used (Check g r over_only label) s t m ran e going h =
    let x = then_from (s.registers g) _ t e in
    let y = map_from (s.registers r) _ t x.2 in
    ap (λ v. check_stop v (m.registers r) over_only label) (sym (h.registers g x.0 x.1))
    ∙ ap (λ v. check_stop (at ran.registers g) v over_only label) (sym (h.registers r y.0 y.1))
same_end inputs pool used (Output k r) s t m ran e going h = going

-- the number of outputs is unchanged
moved_outputs : (i : Packed) (pool : List Value) (used : List ℕ) (s t : State) → moved (unpacked pool used i) s ≡ Some t → length t.outputs ≡ length s.outputs
moved_outputs (Take r n) pool used s t e = ap (λ (z : State). length z.outputs) (sym (some-is _ t e))
moved_outputs (Lit r k) pool used s t e = ap (λ (z : State). length z.outputs) (sym (some-is _ t e))
moved_outputs (Do op r a b c) pool used s t e =
    let x = then_from (s.registers a) _ t e in
    let y = then_from (s.registers b) _ t x.2 in
    let z = map_from (s.registers c) _ t y.2 in
    ap (λ (q : State). length q.outputs) (sym z.2)
moved_outputs (Store k r) pool used s t e = ap (λ (z : State). length z.outputs) (sym (map_from (s.registers r) _ t e).2)
moved_outputs (Load r k) pool used s t e = ap (λ (z : State). length z.outputs) (sym (map_from (s.slots (get_or used k 0)) _ t e).2)
moved_outputs (Check g r over_only label) pool used s t e =
    let x = then_from (s.registers g) _ t e in
    ap (λ (z : State). length z.outputs) (sym (map_from (s.registers r) _ t x.2).2)
moved_outputs (Output k r) pool used s t e =
    let x = map_from (s.registers r) _ t e in
    ap (λ (z : State). length z.outputs) (sym x.2) ∙ length-set s.outputs k (Some x.0)

-- ---- the whole run

abbrev Instrs : List Value → List ℕ → List Packed → List Instr
Instrs pool used packed = map (unpacked pool used) packed

abbrev end_of : Machine → Answer
end_of m = answer_of m.ended m.outputs

-- an instruction of a machine that hasn't stopped
acts_next : (inputs : List Value) (m : Machine) (i : Instr) (is : List Instr) → m.ended ≡ None → acts inputs m (i ∷ is) ≡ acts inputs (act inputs i m) is
acts_next inputs m i is going = ap (λ (o : Option Stop). acts inputs (act_at inputs o i m) is) going

-- both have stopped
both_stopped : (inputs pool : List Value) (packed : List Packed) (is : List Instr) (m : Machine) (ran : Ran) (stop : Stop) → ran.stop ≡ Some stop
    → m.ended ≡ Some stop
    → ran_answer (ran_from inputs pool ran packed) ≡ end_of (acts inputs m is)
both_stopped inputs pool packed is m ran stop ran_is m_is =
    ap (λ (o : Option Stop). answer_of o (ran_from inputs pool ran packed).outputs) (stop_kept inputs pool packed ran stop ran_is)
    ∙ ap (λ (o : Option Stop). answer_of o m.outputs) (sym m_is)
    ∙ ap end_of (sym (acts-ended inputs m stop is m_is))

-- a run and a machine that agree, and of which both have stopped or neither
goes : (inputs pool : List Value) (used : List ℕ) (n : Counts) (k : ℕ) (packed : List Packed) (s : State) (m : Machine) (ran : Ran) (stop : Option Stop)
    → AreDistinct used
    → AllByRecursion (IsPacked n.inputs n.outputs (length pool) (length used)) packed → fault_from n s k (Instrs pool used packed) ≡ None
    → m.ended ≡ stop → ran.stop ≡ stop → length s.outputs ≡ n.outputs → Agree used s m ran
    → ran_answer (ran_from inputs pool ran packed) ≡ end_of (acts inputs m (Instrs pool used packed))
goes inputs pool used n k packed s m ran (Some stop) apart ok right ended stopped many h = both_stopped inputs pool packed (Instrs pool used packed) m ran stop
    stopped ended
goes inputs pool used n k [] s m ran None apart ok right ended stopped many h =
    let some = not_none (all_given s.outputs) right in
    let same : ran.outputs ≡ m.outputs = ext_get_or Undef ran.outputs m.outputs (h.many ∙ sym h.given)
    (λ j lt. let x = given_each s.outputs j some (omega (arith, lt, h.many)) in h.outputs j x.0 x.1) in
    ap (λ (o : Option Stop). answer_of o ran.outputs) stopped ∙ ap (answer_of None) same ∙ ap (λ (o : Option Stop). answer_of o m.outputs) (sym ended)
goes inputs pool used n k (p ∷ packed) s m ran None apart ok right ended stopped many h =
    let i = unpacked pool used p in
    let next = fault_next n s k i (Instrs pool used packed) right in
    let t = next.0 in
    goes inputs pool used n (suc k) packed t (act inputs i m) (run_on inputs pool ran p) (stop_in ran.registers p) apart ok.1 next.2
    (same_end inputs pool used p s t m ran next.1 ended h)
    (ap (λ (o : Option Stop). kept o (stop_in ran.registers p)) stopped)
    (moved_outputs p pool used s t next.1 ∙ many)
    (agree_act inputs pool used n p s t m ran apart ok.0 many next.1 h)
    ∙ ap end_of (sym (acts_next inputs m i (Instrs pool used packed) ended))

abbrev no_number : Option ℕ
no_number = None

none_given : (n k : ℕ) → get_or (replicate n no_number) k None ≡ no_number
none_given zero k = refl
none_given (suc n) zero = refl
none_given (suc n) (suc k) = none_given n k

-- before the first instruction no value is known
agree_start : (used : List ℕ) (outputs : ℕ) (ran : Ran) → length ran.registers ≡ REGISTERS → length ran.slots ≡ length used → length ran.outputs ≡ outputs
    → Agree used (start outputs) (fresh outputs) ran
agree_start used outputs ran registers slots many = record {
  width = registers;
  room = slots;
  registers = λ k x e. absurd (none≢some x e);
  slots = λ d x below e. absurd (none≢some x e);
  outputs = λ k x e. absurd (none≢some x (sym (none_given outputs k) ∙ e));
  many = many ∙ sym (length-replicate outputs None);
  given = length-replicate outputs Undef ∙ sym (length-replicate outputs None);
}

-- From any registers and slots of the right sizes, valid code has the machine's answer.
pub ran_is_run : (code : Listing) (parts : Parts) (inputs : List Value) (ran : Ran) → AreParts code parts → length inputs ≡ code.counts.inputs → ran.stop ≡ None
    → length ran.registers ≡ REGISTERS → length ran.slots ≡ length parts.used.now → length ran.outputs ≡ code.counts.outputs
    → ran_answer (ran_from inputs parts.pool.now ran parts.packed.now) ≡ machine_run code inputs
ran_is_run code parts inputs ran are many going registers slots outputs =
    let instrs : Instrs parts.pool.now parts.used.now parts.packed.now ≡ code.instrs = ap (λ (l : Listing). l.instrs) are.listing in
    goes inputs parts.pool.now parts.used.now code.counts 0 parts.packed.now (start code.counts.outputs) (fresh code.counts.outputs) ran None are.distinct
    are.packed
    (ap (fault_from code.counts (start code.counts.outputs) 0) instrs ∙ are.right) refl going (length-replicate code.counts.outputs None)
    (agree_start parts.used.now code.counts.outputs ran registers slots outputs)
    ∙ ap (λ (is : List Instr). end_of (acts inputs (fresh code.counts.outputs) is)) instrs
