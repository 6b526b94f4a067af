use Rattle.std.proofs.Common.{◌≡◌, ◌≢◌, ℕ, zero, suc, ◌+◌, ◌<◌, ◌≤◌, Bool, true, false, cond, eqb, ltb, ◌⊎◌, List, [], ◌∷◌, ◌++◌, length, get_or, set, map}
use Rattle.std.proofs.Common.{replicate, Option, None, Some, is_some, refl, ap, sym, ◌∙◌, subst, inl, inr, ⊎_elim, arith}
use Rattle.std.specs.Prelude.{if◌then◌else◌, fold}
use Rattle.std.specs.List.{AllByRecursion, list_any}
use Rattle.std.specs.Option.{option_and_then, option_map, option_map_or, is_none}
use Rattle.std.specs.Ordering.{nat_cmp, is_eq}
use Rattle.std.specs.Map.{lookup}
use Rattle.std.specs.BTreeMap as tree
use Rattle.std.specs.BTreeMap.{BTreeMap, get, is_at}
use Rattle.std.specs.Map.{lookup}
use Rattle.std.specs.BTreeMap as tree
use Rattle.std.specs.BTreeMap.{BTreeMap, get, is_at}
use Rattle.std.specs.Map.{lookup}
use Rattle.std.specs.BTreeMap as tree
use Rattle.std.specs.BTreeMap.{BTreeMap, get, is_at}
use Rattle.std.specs.Map.{lookup}
use Rattle.std.specs.BTreeMap as tree
use Rattle.std.specs.BTreeMap.{BTreeMap, get, is_at}
use Rattle.std.specs.Map.{lookup}
use Rattle.std.specs.BTreeMap as tree
use Rattle.std.specs.BTreeMap.{BTreeMap, get, is_at}
use Rattle.std.specs.Map.{lookup}
use Rattle.std.specs.BTreeMap as tree
use Rattle.std.specs.BTreeMap.{BTreeMap, get, is_at}
use Rattle.std.specs.BTreeSet.{BTreeSet, contains, Updates}
use Rattle.std.proofs.lemmas.Bool.{cases_eq, eq-eqb, ne_eqb, and_parts, ltb-true}
use Rattle.std.proofs.lemmas.Bool.Decides.{nat_tests}
use Rattle.std.proofs.lemmas.List.{get_or_append_left, get_or_push, length_push, length-set, map-append, get_or-set_same, get_or-set_other}
use Rattle.std.proofs.lemmas.List.Sums.{fold_push}
use Rattle.m_fixed.specs.declared.operator.Op.{Op}
use Rattle.m_fixed.specs.declared.amount.Value.{Value}
use Rattle.m_fixed.specs.declared.amount.Value.TheVariants.{Undef}
use Rattle.flat_code.specs.declared.program.Node.TheVariants.{Input, Lit as LitNode, Do as DoNode}
use Rattle.reg_machine.specs.declared.instr.Instr.{Instr}
use Rattle.reg_machine.specs.declared.instr.Instr.TheVariants.{Take, Lit, Do, Store, Load, Check as Test, Output}
use Rattle.reg_machine.specs.declared.instr.TheConstants.{REGISTERS}
use Rattle.reg_machine.specs.declared.code.Packed.{Packed}
use Rattle.reg_machine.specs.declared.code.Packed.TheVariants.{Take as Takes, Lit as Lits, Do as Does, Store as Stores, Load as Loads, Check as Checks}
use Rattle.reg_machine.specs.declared.code.Packed.TheVariants.{Output as Outputs}
use Rattle.reg_machine.specs.declared.wrong.Wrong.{Wrong}
use Rattle.reg_machine.specs.declared.wrong.Wrong.TheVariants.{Number, Order}
use Rattle.reg_machine.specs.declared.wrong.CodeWrong.TheVariants.{BadNumber, BadOrder, NoOutput}
use Rattle.reg_machine.specs.Flow.{Counts, Listing, with_instr, State, put, start, with_node, step, has_numbers, moved, repeats_first, reading, wrong_at}
use Rattle.reg_machine.specs.Flow.{wrong_behind, placed, fault_from, code_fault, all_given}
use Rattle.reg_machine.specs.inner.Packed.{unpacked, IsPacked, listing_of, IsAmong, AreDistinct, IsNumbered, IsDraft, IsRight, Grown}
use Rattle.reg_machine.proofs.TableLemmas.{put-same, put-other, none≢some, some-is}
use Rattle.reg_machine.proofs.StepLaws.{reading-none}
use Rattle.reg_machine.proofs.BuilderLemmas.{right-parts, reads-on, all-push, all-weaker, packed-more, unpacked-literal, unpacked-slot, map-same, written-put}
use Rattle.reg_machine.proofs.BuilderLemmas.{outputs-put, then-some, map-some}

-- the fields of a builder
pub record Parts : Type 0 where
  pub inputs : ℕ
  pub slots : ℕ
  pub labels : ℕ
  pub outs : ℕ
  pub pool : List Value
  pub used : List ℕ
  pub packed : List Packed
  pub written : List Bool
  pub given : BTreeSet ℕ

abbrev pub listing : Parts → Listing
listing d = listing_of d.inputs d.slots d.labels d.outs d.pool d.used d.packed

abbrev pub Draft : Parts → Type 0
Draft d = IsDraft (listing d) d.packed d.pool d.used d.written d.given

abbrev Fits : Parts → Packed → Type 0
Fits d p = IsPacked d.inputs d.outs (length d.pool) (length d.used) p

-- one more instruction
pushed : (d : Parts) (p : Packed) → listing (record d { packed = d.packed ++ p ∷ [] }) ≡ with_instr (listing d) (unpacked d.pool d.used p)
pushed d p = ap (λ (is : List Instr). record { counts = (listing d).counts; instrs = is }) (map-append (unpacked d.pool d.used) d.packed (p ∷ []))

-- and the state after it
read-push : (d : Parts) (p : Packed) (s t : State) → reading (listing d) ≡ Some s → has_numbers (listing d).counts s (unpacked d.pool d.used p) ≡ true
    → moved (unpacked d.pool d.used p) s ≡ Some t → reading (listing (record d { packed = d.packed ++ p ∷ [] })) ≡ Some t
read-push d p s t e has is = ap reading (pushed d p) ∙ reads-on (listing d) (unpacked d.pool d.used p) s t e has is

-- an instruction that writes a register
draft-register : (d : Parts) (p : Packed) (r x : ℕ) (t : State) (h : Draft d) → has_numbers (listing d).counts h.state (unpacked d.pool d.used p) ≡ true
    → moved (unpacked d.pool d.used p) h.state ≡ Some t → Fits d p → r < REGISTERS → t.registers ≡ put h.state.registers r (Some x) → t.slots ≡ h.state.slots
    → t.outputs ≡ h.state.outputs → Draft (record d { packed = d.packed ++ p ∷ []; written = set d.written r true })
draft-register d p r x t h has is ok lt registers slots outputs =
    let s = h.state in
    let size = length_push d.packed p in
    record {
      state = t;
      read = read-push d p s t h.read has is;
      packed = all-push (Fits d) d.packed p h.packed ok;
      few_literals = omega (arith, size, h.few_literals);
      few_slots = omega (arith, size, h.few_slots);
      width = length-set d.written r true ∙ h.width;
      registers = λ q. written-put d.written s.registers r x (omega (arith, h.width)) h.registers q ∙ ap (λ (f : ℕ → Option ℕ). is_some (f q)) (sym registers);
      stored = λ k a. ap (λ (f : ℕ → Option ℕ). is_some (f k)) slots ∙ h.stored k a;
      known = λ k e. h.known k (ap (λ (f : ℕ → Option ℕ). is_some (f k)) (sym slots) ∙ e);
      count = ap length outputs ∙ h.count;
      given = λ k. h.given k ∙ ap (λ (os : List (Option ℕ)). is_some (get_or os k None)) (sym outputs);
    }

-- an instruction that writes none
draft-plain : (d : Parts) (p : Packed) (t : State) (h : Draft d) → has_numbers (listing d).counts h.state (unpacked d.pool d.used p) ≡ true
    → moved (unpacked d.pool d.used p) h.state ≡ Some t → Fits d p → t.registers ≡ h.state.registers → t.slots ≡ h.state.slots
    → length t.outputs ≡ length h.state.outputs → (given' : BTreeSet ℕ) → ((k : ℕ) → contains nat_cmp given' k ≡ is_some (get_or t.outputs k None))
    → Draft (record d { packed = d.packed ++ p ∷ []; given = given' })
draft-plain d p t h has is ok registers slots outputs given' each =
    let s = h.state in
    let size = length_push d.packed p in
    record {
      state = t;
      read = read-push d p s t h.read has is;
      packed = all-push (Fits d) d.packed p h.packed ok;
      few_literals = omega (arith, size, h.few_literals);
      few_slots = omega (arith, size, h.few_slots);
      width = h.width;
      registers = λ q. h.registers q ∙ ap (λ (f : ℕ → Option ℕ). is_some (f q)) (sym registers);
      stored = λ k a. ap (λ (f : ℕ → Option ℕ). is_some (f k)) slots ∙ h.stored k a;
      known = λ k e. h.known k (ap (λ (f : ℕ → Option ℕ). is_some (f k)) (sym slots) ∙ e);
      count = outputs ∙ h.count;
      given = each;
    }

pub draft-take : (d : Parts) (r n : ℕ) → Draft d → IsRight (listing d) (Take r n)
    → Draft (record d { packed = d.packed ++ Takes r n ∷ []; written = set d.written r true })
draft-take d r n h right =
    let p = right-parts (listing d) (Take r n) h.state h.read right in
    let q = and_parts (ltb r REGISTERS) (ltb n d.inputs) p.0 in
    let lt = ltb-true r REGISTERS q.0 in
    draft-register d (Takes r n) r (length h.state.nodes) (with_node r (Input n) h.state) h p.0 refl (lt, ltb-true n d.inputs q.1) lt refl refl refl

pub draft-do : (d : Parts) (op : Op) (r a b c : ℕ) → Draft d → IsRight (listing d) (Do op r a b c)
    → Draft (record d { packed = d.packed ++ Does op r a b c ∷ []; written = set d.written r true })
draft-do d op r a b c h right =
    let s = h.state in
    let p = right-parts (listing d) (Do op r a b c) s h.read right in
    let q = and_parts (ltb r REGISTERS) _ p.0 in
    let qa = and_parts (ltb a REGISTERS) _ q.1 in
    let qb = and_parts (ltb b REGISTERS) _ qa.1 in
    let qc = and_parts (ltb c REGISTERS) (repeats_first op a b c) qb.1 in
    let lt = ltb-true r REGISTERS q.0 in
    let x = then-some (s.registers a) _ p.1 p.2 in
    let y = then-some (s.registers b) _ p.1 x.2 in
    let z = map-some (s.registers c) _ p.1 y.2 in
    let t = with_node r (DoNode op x.0 y.0 z.0) s in
    draft-register d (Does op r a b c) r (length s.nodes) t h p.0 (p.2 ∙ ap (λ (t : State). Some t) (sym z.2))
    (lt, ltb-true a REGISTERS qa.0, ltb-true b REGISTERS qb.0, ltb-true c REGISTERS qc.0) lt refl refl refl

pub draft-load : (d : Parts) (r k j : ℕ) → Draft d → IsRight (listing d) (Load r k) → j < length d.used → get_or d.used j 0 ≡ k
    → Draft (record d { packed = d.packed ++ Loads r j ∷ []; written = set d.written r true })
draft-load d r k j h right below at =
    let s = h.state in
    let right' = subst (λ i. IsRight (listing d) (Load r i)) (sym at) right in
    let p = right-parts (listing d) (Load r (get_or d.used j 0)) s h.read right' in
    let q = and_parts (ltb r REGISTERS) _ p.0 in
    let lt = ltb-true r REGISTERS q.0 in
    let x = map-some (s.slots (get_or d.used j 0)) _ p.1 p.2 in
    draft-register d (Loads r j) r x.0 p.1 h p.0 p.2 (lt, below) lt (ap (λ (t : State). t.registers) (sym x.2)) (ap (λ (t : State). t.slots) (sym x.2))
    (ap (λ (t : State). t.outputs) (sym x.2))

pub draft-check : (d : Parts) (g r : ℕ) (over_only : Bool) (label : ℕ) → Draft d → IsRight (listing d) (Test g r over_only label)
    → Draft (record d { packed = d.packed ++ Checks g r over_only label ∷ [] })
draft-check d g r over_only label h right =
    let s = h.state in
    let p = right-parts (listing d) (Test g r over_only label) s h.read right in
    let q = and_parts (ltb g REGISTERS) _ p.0 in
    let qr = and_parts (ltb r REGISTERS) _ q.1 in
    let x = then-some (s.registers g) _ p.1 p.2 in
    let y = map-some (s.registers r) _ p.1 x.2 in
    let outputs = ap (λ (t : State). t.outputs) y.2 in
    draft-plain d (Checks g r over_only label) p.1 h p.0 p.2 (ltb-true g REGISTERS q.0, ltb-true r REGISTERS qr.0) (ap (λ (t : State). t.registers) (sym y.2))
    (ap (λ (t : State). t.slots) (sym y.2)) (ap length (sym outputs)) d.given
    (λ k. h.given k ∙ ap (λ (os : List (Option ℕ)). is_some (get_or os k None)) outputs)

pub draft-output : (d : Parts) (k r : ℕ) (given' : BTreeSet ℕ) → Draft d → IsRight (listing d) (Output k r) → Updates nat_cmp d.given given' k true
    → Draft (record d { packed = d.packed ++ Outputs k r ∷ []; given = given' })
draft-output d k r given' h right updates =
    let s = h.state in
    let p = right-parts (listing d) (Output k r) s h.read right in
    let q = and_parts (ltb k d.outs) _ p.0 in
    let qr = and_parts (ltb r REGISTERS) _ q.1 in
    let below = ltb-true k d.outs q.0 in
    let x = map-some (s.registers r) _ p.1 p.2 in
    let outputs = ap (λ (t : State). t.outputs) x.2 in
    draft-plain d (Outputs k r) p.1 h p.0 p.2 (below, ltb-true r REGISTERS qr.0) (ap (λ (t : State). t.registers) (sym x.2))
    (ap (λ (t : State). t.slots) (sym x.2)) (ap length (sym outputs) ∙ length-set s.outputs k (Some x.0)) given'
    (λ j. outputs-put d.given given' s.outputs k x.0 updates (omega (arith, h.count)) h.given j
    ∙ ap (λ (os : List (Option ℕ)). is_some (get_or os j None)) outputs)

-- the same code, with one more literal in the pool
literal-same : (d : Parts) (v : Value) → Draft d → listing d ≡ listing (record d { pool = d.pool ++ v ∷ [] })
literal-same d v h = ap (λ (is : List Instr). record { counts = (listing d).counts; instrs = is })
    (map-same (Fits d) (unpacked d.pool d.used) (unpacked (d.pool ++ v ∷ []) d.used) d.packed (λ p f. unpacked-literal d.inputs d.outs d.pool d.used v p f)
    h.packed)

-- the code after a literal
pub literal-pushed : (d : Parts) (r : ℕ) (v : Value) → Draft d
    → listing (record d { packed = d.packed ++ Lits r (length d.pool) ∷ []; pool = d.pool ++ v ∷ [] }) ≡ with_instr (listing d) (Lit r v)
literal-pushed d r v h =
    pushed (record d { pool = d.pool ++ v ∷ [] }) (Lits r (length d.pool))
    ∙ ap (λ code. with_instr code (Lit r (get_or (d.pool ++ v ∷ []) (length d.pool) Undef))) (sym (literal-same d v h))
    ∙ ap (λ v. with_instr (listing d) (Lit r v)) (get_or_push d.pool v Undef (length d.pool) refl)

pub draft-literal : (d : Parts) (r : ℕ) (v : Value) → Draft d → IsRight (listing d) (Lit r v)
    → Draft (record d { packed = d.packed ++ Lits r (length d.pool) ∷ []; pool = d.pool ++ v ∷ []; written = set d.written r true })
draft-literal d r v h right =
    let s = h.state in
    let p = right-parts (listing d) (Lit r v) s h.read right in
    let lt = ltb-true r REGISTERS p.0 in
    let size = length_push d.packed (Lits r (length d.pool)) in
    let more = length_push d.pool v in
    record {
      state = with_node r (LitNode v) s;
      read = ap reading (literal-pushed d r v h) ∙ reads-on (listing d) (Lit r v) s (with_node r (LitNode v) s) h.read p.0 refl;
      packed = all-push (IsPacked d.inputs d.outs (length (d.pool ++ v ∷ [])) (length d.used)) d.packed (Lits r (length d.pool))
          (all-weaker (Fits d) (IsPacked d.inputs d.outs (length (d.pool ++ v ∷ [])) (length d.used)) d.packed
          (λ p f. packed-more d.inputs d.outs (length d.pool) (length (d.pool ++ v ∷ [])) (length d.used) (length d.used) (omega (arith, more)) (omega arith)
          p f) h.packed)
          (lt, omega (arith, more));
      few_literals = omega (arith, size, more, h.few_literals);
      few_slots = omega (arith, size, h.few_slots);
      width = length-set d.written r true ∙ h.width;
      registers = written-put d.written s.registers r (length s.nodes) (omega (arith, h.width)) h.registers;
      stored = h.stored;
      known = h.known;
      count = h.count;
      given = h.given;
    }

slot-same : (d : Parts) (used' : List ℕ) (k : ℕ) → Grown d.used used' k → Draft d → listing d ≡ listing (record d { used = used' })
slot-same d used' k g h = ap (λ (is : List Instr). record { counts = (listing d).counts; instrs = is })
    (map-same (Fits d) (unpacked d.pool d.used) (unpacked d.pool used') d.packed (λ p f. unpacked-slot d.inputs d.outs d.pool d.used used' k g p f) h.packed)

-- the code after a store
pub slot-pushed : (d : Parts) (used' : List ℕ) (k r j : ℕ) → Grown d.used used' k → get_or used' j 0 ≡ k → Draft d
    → listing (record d { packed = d.packed ++ Stores j r ∷ []; used = used' }) ≡ with_instr (listing d) (Store k r)
slot-pushed d used' k r j g at h =
    pushed (record d { used = used' }) (Stores j r)
    ∙ ap (λ code. with_instr code (Store (get_or used' j 0) r)) (sym (slot-same d used' k g h))
    ∙ ap (λ i. with_instr (listing d) (Store i r)) at

pub draft-store : (d : Parts) (used' : List ℕ) (k r j : ℕ) → Draft d → IsRight (listing d) (Store k r) → Grown d.used used' k → j < length used'
    → get_or used' j 0 ≡ k → Draft (record d { packed = d.packed ++ Stores j r ∷ []; used = used' })
draft-store d used' k r j h right g below at =
    let s = h.state in
    let p = right-parts (listing d) (Store k r) s h.read right in
    let q = and_parts (ltb k d.slots) _ p.0 in
    let x = map-some (s.registers r) _ p.1 p.2 in
    let size = length_push d.packed (Stores j r) in
    record {
      state = p.1;
      read = ap reading (slot-pushed d used' k r j g at h) ∙ reads-on (listing d) (Store k r) s p.1 h.read p.0 p.2;
      packed = all-push (IsPacked d.inputs d.outs (length d.pool) (length used')) d.packed (Stores j r)
          (all-weaker (Fits d) (IsPacked d.inputs d.outs (length d.pool) (length used')) d.packed
          (λ p f. packed-more d.inputs d.outs (length d.pool) (length d.pool) (length d.used) (length used') (omega arith) g.longer p f) h.packed)
          (below, ltb-true r REGISTERS q.1);
      few_literals = omega (arith, size, h.few_literals);
      few_slots = omega (arith, size, h.few_slots, g.most);
      width = h.width;
      registers = λ q. h.registers q ∙ ap (λ (t : State). is_some (t.registers q)) x.2;
      stored = λ y a. ap (λ (t : State). is_some (t.slots y)) (sym x.2) ∙ here x.0 y (g.only y a) (cases_eq y k);
      known = λ y e. there x.0 y (cases_eq y k) (ap (λ (t : State). is_some (t.slots y)) x.2 ∙ e);
      count = ap (λ (t : State). length t.outputs) (sym x.2) ∙ h.count;
      given = λ k. h.given k ∙ ap (λ (t : State). is_some (get_or t.outputs k None)) x.2;
    }
  where
    here : (x y : ℕ) → (y ≡ k) ⊎ IsAmong y d.used → (y ≡ k) ⊎ (y ≢ k) → is_some (put h.state.slots k (Some x) y) ≡ true
    here x y a (inl e) = subst (λ i. is_some (put h.state.slots k (Some x) i) ≡ true) (sym e) (ap is_some (put-same h.state.slots k (Some x)))
    here x y (inl e) (inr ne) = absurd (ne e)
    here x y (inr a) (inr ne) = ap is_some (put-other h.state.slots k (Some x) y ne) ∙ h.stored y a

    there : (x y : ℕ) → (y ≡ k) ⊎ (y ≢ k) → is_some (put h.state.slots k (Some x) y) ≡ true → IsAmong y used'
    there x y (inl e) f = (j, below, at ∙ sym e)
    there x y (inr ne) f = let a = h.known y (ap is_some (sym (put-other h.state.slots k (Some x) y ne)) ∙ f) in
        (a.0, omega (arith, g.longer, a.1), g.same a.0 a.1 ∙ a.2)

-- no instruction yet
pub draft-empty : (inputs slots labels outs : ℕ) (given : BTreeSet ℕ) → given.keys ≡ []
    → Draft (record {
      inputs = inputs;
      slots = slots;
      labels = labels;
      outs = outs;
      pool = [];
      used = [];
      packed = [];
      written = replicate REGISTERS false;
      given = given;
    })
draft-empty inputs slots labels outs given none = record {
  state = start outs;
  read = refl;
  packed = tt;
  few_literals = omega arith;
  few_slots = omega arith;
  width = refl;
  registers = λ r. none-of REGISTERS r;
  stored = λ k a. absurd (omega (arith, a.1));
  known = λ k e. absurd (let f : false ≡ true = e in (cc));
  count = length-none outs;
  given = λ k. ap (λ (ks : List ℕ). list_any (λ q. is_eq (nat_cmp k q)) ks) none ∙ sym (none-at outs k);
}
  where
    none-of : (n r : ℕ) → get_or (replicate n false) r false ≡ false
    none-of zero r = refl
    none-of (suc n) zero = refl
    none-of (suc n) (suc r) = none-of n r

    length-none : (n : ℕ) → length {A = Option ℕ} (replicate n None) ≡ n
    length-none zero = refl
    length-none (suc n) = ap suc (length-none n)

    none-at : (n k : ℕ) → is_some (get_or {A = Option ℕ} (replicate n None) k None) ≡ false
    none-at zero k = refl
    none-at (suc n) zero = refl
    none-at (suc n) (suc k) = none-at n k

-- ---- slots that are used
