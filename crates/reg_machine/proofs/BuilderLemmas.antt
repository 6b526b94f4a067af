-- A builder, one instruction after another.
use Rattle.std.proofs.Common.{◌≡◌, ◌≢◌, ℕ, zero, suc, ◌+◌, ◌<◌, ◌≤◌, Bool, true, false, cond, eqb, ltb, ◌⊎◌, List, [], ◌∷◌, ◌++◌, length, get_or, set, map}
use Rattle.std.proofs.Common.{replicate, Option, None, Some, is_some, refl, ap, sym, ◌∙◌, subst, inl, inr, ⊎_elim, arith}
use Rattle.std.specs.Prelude.{if◌then◌else◌, fold}
use Rattle.std.specs.List.{AllByRecursion, list_any}
use Rattle.std.specs.Option.{option_and_then, option_map, option_map_or, is_none}
use Rattle.std.specs.Ordering.{nat_cmp, is_eq}
use Rattle.std.specs.Map.{lookup}
use Rattle.std.specs.BTreeMap as tree
use Rattle.std.specs.BTreeMap.{BTreeMap, get, is_at}
use Rattle.std.specs.Map.{lookup}
use Rattle.std.specs.BTreeMap as tree
use Rattle.std.specs.BTreeMap.{BTreeMap, get, is_at}
use Rattle.std.specs.Map.{lookup}
use Rattle.std.specs.BTreeMap as tree
use Rattle.std.specs.BTreeMap.{BTreeMap, get, is_at}
use Rattle.std.specs.Map.{lookup}
use Rattle.std.specs.BTreeMap as tree
use Rattle.std.specs.BTreeMap.{BTreeMap, get, is_at}
use Rattle.std.specs.Map.{lookup}
use Rattle.std.specs.BTreeMap as tree
use Rattle.std.specs.BTreeMap.{BTreeMap, get, is_at}
use Rattle.std.specs.Map.{lookup}
use Rattle.std.specs.BTreeMap as tree
use Rattle.std.specs.BTreeMap.{BTreeMap, get, is_at}
use Rattle.std.specs.BTreeSet.{BTreeSet, contains, Updates}
use Rattle.std.proofs.lemmas.Bool.{cases_eq, eq-eqb, ne_eqb, and_parts, ltb-true}
use Rattle.std.proofs.lemmas.Bool.Decides.{nat_tests}
use Rattle.std.proofs.lemmas.List.{get_or_append_left, get_or_push, length_push, length-set, map-append, get_or-set_same, get_or-set_other}
use Rattle.std.proofs.lemmas.List.Sums.{fold_push}
use Rattle.m_fixed.specs.declared.operator.Op.{Op}
use Rattle.m_fixed.specs.declared.amount.Value.{Value}
use Rattle.m_fixed.specs.declared.amount.Value.TheVariants.{Undef}
use Rattle.flat_code.specs.declared.program.Node.TheVariants.{Input, Lit as LitNode, Do as DoNode}
use Rattle.reg_machine.specs.declared.instr.Instr.{Instr}
use Rattle.reg_machine.specs.declared.instr.Instr.TheVariants.{Take, Lit, Do, Store, Load, Check as Test, Output}
use Rattle.reg_machine.specs.declared.instr.TheConstants.{REGISTERS}
use Rattle.reg_machine.specs.declared.code.Packed.{Packed}
use Rattle.reg_machine.specs.declared.code.Packed.TheVariants.{Take as Takes, Lit as Lits, Do as Does, Store as Stores, Load as Loads, Check as Checks}
use Rattle.reg_machine.specs.declared.code.Packed.TheVariants.{Output as Outputs}
use Rattle.reg_machine.specs.declared.wrong.Wrong.{Wrong}
use Rattle.reg_machine.specs.declared.wrong.Wrong.TheVariants.{Number, Order}
use Rattle.reg_machine.specs.declared.wrong.CodeWrong.TheVariants.{BadNumber, BadOrder, NoOutput}
use Rattle.reg_machine.specs.Flow.{Counts, Listing, with_instr, State, put, start, with_node, step, has_numbers, moved, repeats_first, reading, wrong_at}
use Rattle.reg_machine.specs.Flow.{wrong_behind, placed, fault_from, code_fault, all_given}
use Rattle.reg_machine.specs.inner.Packed.{unpacked, IsPacked, listing_of, IsAmong, AreDistinct, IsNumbered, IsDraft, IsRight, Grown}
use Rattle.reg_machine.proofs.TableLemmas.{put-same, put-other, none≢some, some-is}
use Rattle.reg_machine.proofs.StepLaws.{reading-none}

-- ---- what is wrong

-- an instruction is valid: its numbers are, and there is a state after it
pub right-parts : (code : Listing) (i : Instr) (s : State) → reading code ≡ Some s → wrong_behind code i ≡ None → (has_numbers code.counts s i ≡ true)
    × (t : State) × (moved i s ≡ Some t)
right-parts code i s e f = from (has_numbers code.counts s i) refl (moved i s) refl (sym (ap (option_and_then (λ s. wrong_at code.counts s i)) e) ∙ f)
  where
    from : (b : Bool) → has_numbers code.counts s i ≡ b → (o : Option State) → moved i s ≡ o
        → (if b then (if is_none o then Some Order else None) else Some Number) ≡ None → (has_numbers code.counts s i ≡ true) × (t : State)
        × (moved i s ≡ Some t)
    from false is o is' g = absurd (none≢some Number (sym g))
    from true is None is' g = absurd (none≢some Order (sym g))
    from true is (Some t) is' g = (is, t, is')

-- one more instruction is read
pub reads-on : (code : Listing) (i : Instr) (s t : State) → reading code ≡ Some s → has_numbers code.counts s i ≡ true → moved i s ≡ Some t
    → reading (with_instr code i) ≡ Some t
reads-on code i s t e has is =
    fold_push (λ s i. option_and_then (step code.counts i) s) (Some (start code.counts.outputs)) code.instrs i
    ∙ ap (option_and_then (step code.counts i)) e
    ∙ ap (λ b. if b then moved i s else None) has
    ∙ is

-- the error of an instruction after code with this state
pub wrong-is : (code : Listing) (i : Instr) (s : State) → reading code ≡ Some s → wrong_behind code i ≡ wrong_at code.counts s i
wrong-is code i s e = ap (option_and_then (λ s. wrong_at code.counts s i)) e

pub fault-step : (n : Counts) (s t : State) (k : ℕ) (i : Instr) (rest : List Instr) → has_numbers n s i ≡ true → moved i s ≡ Some t
    → fault_from n s k (i ∷ rest) ≡ fault_from n t (suc k) rest
fault-step n s t k i rest has is =
    ap (λ b. if b then option_map_or (λ t. fault_from n t (suc k) rest) (moved i s) (Some (BadOrder k)) else Some (BadNumber k)) has
    ∙ ap (λ (o : Option State). option_map_or (λ t. fault_from n t (suc k) rest) o (Some (BadOrder k))) is

pub fault-wrong : (n : Counts) (s : State) (k : ℕ) (i : Instr) (rest : List Instr) (w : Wrong) → wrong_at n s i ≡ Some w
    → fault_from n s k (i ∷ rest) ≡ Some (placed k w)
fault-wrong n s k i rest w e = from (has_numbers n s i) refl (moved i s) refl e
  where
    from : (b : Bool) → has_numbers n s i ≡ b → (o : Option State) → moved i s ≡ o
        → (if b then (if is_none o then Some Order else None) else Some Number) ≡ Some w
        → (if b then option_map_or (λ t. fault_from n t (suc k) rest) o (Some (BadOrder k)) else Some (BadNumber k)) ≡ Some (placed k w)
    from false is o is' g = ap (λ w. Some (placed k w)) (some-is Number w g)
    from true is None is' g = ap (λ w. Some (placed k w)) (some-is Order w g)
    from true is (Some t) is' g = absurd (none≢some w g)

-- if no instruction of the code is wrong, its only error can be that an output is missing
pub fault-read : (n : Counts) (code : List Instr) (k : ℕ) (s t : State) → fold (λ s i. option_and_then (step n i) s) (Some s) code ≡ Some t
    → fault_from n s k code ≡ (if is_none (all_given t.outputs) then Some NoOutput else None)
fault-read n [] k s t e = ap (λ (u : State). if is_none (all_given u.outputs) then Some NoOutput else None) (some-is s t e)
fault-read n (i ∷ code) k s t e = from (λ u g. fault-read n code (suc k) u t g) (has_numbers n s i) refl (moved i s) refl e
  where
    from : ((u : State) → fold (λ s i. option_and_then (step n i) s) (Some u) code ≡ Some t
        → fault_from n u (suc k) code ≡ (if is_none (all_given t.outputs) then Some NoOutput else None)) → (b : Bool) → has_numbers n s i ≡ b
        → (o : Option State)
        → moved i s ≡ o → fold (λ s i. option_and_then (step n i) s) (if b then o else None) code ≡ Some t
        → fault_from n s k (i ∷ code) ≡ (if is_none (all_given t.outputs) then Some NoOutput else None)
    from rest false is o is' g = absurd (none≢some t (sym (reading-none n code) ∙ g))
    from rest true is None is' g = absurd (none≢some t (sym (reading-none n code) ∙ g))
    from rest true is (Some u) is' g = fault-step n s u k i code is is' ∙ rest u g

pub code-fault : (code : Listing) (s : State) → reading code ≡ Some s → code_fault code ≡ (if is_none (all_given s.outputs) then Some NoOutput else None)
code-fault code s e = fault-read code.counts code.instrs 0 (start code.counts.outputs) s e

-- ---- outputs

pub given-each : (outputs : List (Option ℕ)) → ((k : ℕ) → k < length outputs → is_some (get_or outputs k None) ≡ true) → is_some (all_given outputs) ≡ true
given-each [] each = refl
given-each (None ∷ outputs) each = absurd (let e : false ≡ true = each 0 (omega arith) in (cc))
given-each (Some x ∷ outputs) each = more (all_given outputs) (given-each outputs (λ k lt. each (suc k) (omega arith)))
  where
    more : (o : Option (List ℕ)) → is_some o ≡ true → is_some (option_map (λ xs. x ∷ xs) o) ≡ true
    more None e = e
    more (Some xs) e = refl

pub given-not : (outputs : List (Option ℕ)) (k : ℕ) → k < length outputs → is_some (get_or outputs k None) ≡ false → is_some (all_given outputs) ≡ false
given-not [] k lt e = absurd (omega arith)
given-not (None ∷ outputs) k lt e = refl
given-not (Some x ∷ outputs) zero lt e = absurd (let f : true ≡ false = e in (cc))
given-not (Some x ∷ outputs) (suc k) lt e = more (all_given outputs) (given-not outputs k (omega arith) e)
  where
    more : (o : Option (List ℕ)) → is_some o ≡ false → is_some (option_map (λ xs. x ∷ xs) o) ≡ false
    more None e = e
    more (Some xs) e = e

-- ---- lists

pub all-push : {X : Type 0} (P : X → Type 0) (xs : List X) (x : X) → AllByRecursion P xs → P x → AllByRecursion P (xs ++ x ∷ [])
all-push P [] x h p = (p, tt)
all-push P (y ∷ xs) x h p = (h.0, all-push P xs x h.1 p)

pub all-weaker : {X : Type 0} (P Q : X → Type 0) (xs : List X) → ((x : X) → P x → Q x) → AllByRecursion P xs → AllByRecursion Q xs
all-weaker P Q [] w h = tt
all-weaker P Q (x ∷ xs) w h = (w x h.0, all-weaker P Q xs w h.1)

pub packed-more : (inputs outputs pool pool' used used' : ℕ) → pool ≤ pool' → used ≤ used' → (p : Packed) → IsPacked inputs outputs pool used p
    → IsPacked inputs outputs pool' used' p
packed-more inputs outputs pool pool' used used' a b (Takes r n) h = h
packed-more inputs outputs pool pool' used used' a b (Lits r k) h = (h.0, omega (arith, h.1))
packed-more inputs outputs pool pool' used used' a b (Does op r x y z) h = h
packed-more inputs outputs pool pool' used used' a b (Stores k r) h = (omega (arith, h.0), h.1)
packed-more inputs outputs pool pool' used used' a b (Loads r k) h = (h.0, omega (arith, h.1))
packed-more inputs outputs pool pool' used used' a b (Checks g r o l) h = h
packed-more inputs outputs pool pool' used used' a b (Outputs k r) h = h

pub unpacked-literal : (inputs outputs : ℕ) (pool : List Value) (used : List ℕ) (v : Value) (p : Packed) → IsPacked inputs outputs (length pool) (length used) p
    → unpacked pool used p ≡ unpacked (pool ++ v ∷ []) used p
unpacked-literal inputs outputs pool used v (Takes r n) h = refl
unpacked-literal inputs outputs pool used v (Lits r k) h = ap (λ v. Lit r v) (sym (get_or_append_left pool (v ∷ []) Undef k h.1))
unpacked-literal inputs outputs pool used v (Does op r x y z) h = refl
unpacked-literal inputs outputs pool used v (Stores k r) h = refl
unpacked-literal inputs outputs pool used v (Loads r k) h = refl
unpacked-literal inputs outputs pool used v (Checks g r o l) h = refl
unpacked-literal inputs outputs pool used v (Outputs k r) h = refl

pub unpacked-slot : (inputs outputs : ℕ) (pool : List Value) (used used' : List ℕ) (q : ℕ) → Grown used used' q → (p : Packed)
    → IsPacked inputs outputs (length pool) (length used) p → unpacked pool used p ≡ unpacked pool used' p
unpacked-slot inputs outputs pool used used' q g (Takes r n) h = refl
unpacked-slot inputs outputs pool used used' q g (Lits r k) h = refl
unpacked-slot inputs outputs pool used used' q g (Does op r x y z) h = refl
unpacked-slot inputs outputs pool used used' q g (Stores k r) h = ap (λ j. Store j r) (sym (g.same k h.0))
unpacked-slot inputs outputs pool used used' q g (Loads r k) h = ap (λ j. Load r j) (sym (g.same k h.1))
unpacked-slot inputs outputs pool used used' q g (Checks g' r o l) h = refl
unpacked-slot inputs outputs pool used used' q g (Outputs k r) h = refl

pub map-same : {X Y : Type 0} (P : X → Type 0) (f g : X → Y) (xs : List X) → ((x : X) → P x → f x ≡ g x) → AllByRecursion P xs → map f xs ≡ map g xs
map-same P f g [] e h = refl
map-same P f g (x ∷ xs) e h = ap (λ y. y ∷ map f xs) (e x h.0) ∙ ap (λ ys. g x ∷ ys) (map-same P f g xs e h.1)

-- one more slot at the end, or none
pub grown-from : (used more : List ℕ) (k : ℕ) → (more ≡ used) ⊎ (more ≡ used ++ k ∷ []) → Grown used more k
grown-from used more k (inl e) = subst (λ (u : List ℕ). Grown used u k) (sym e)
    (record { same = λ d lt. refl; longer = omega arith; most = omega arith; only = λ q h. inr h })
grown-from used more k (inr e) =
    let size = length_push used k in
    subst (λ (u : List ℕ). Grown used u k) (sym e) (record {
      same = λ d lt. get_or_append_left used (k ∷ []) 0 d lt;
      longer = omega (arith, size);
      most = omega (arith, size);
      only = λ q h. at q h.0 (omega (arith, size, h.1)) h.2 (cases_eq h.0 (length used));
    })
  where
    at : (q d : ℕ) → d < length used + 1 → get_or (used ++ k ∷ []) d 0 ≡ q → (d ≡ length used) ⊎ (d ≢ length used) → (q ≡ k) ⊎ IsAmong q used
    at q d lt is (inl e) = inl (sym is ∙ get_or_push used k 0 d (sym e))
    at q d lt is (inr ne) = let lt' : d < length used = omega arith in inr (d, lt', sym (get_or_append_left used (k ∷ []) 0 d lt') ∙ is)

-- ---- registers, slots and outputs

pub written-put : (written : List Bool) (table : ℕ → Option ℕ) (r x : ℕ) → r < length written → ((q : ℕ) → get_or written q false ≡ is_some (table q)) → (q : ℕ)
    → get_or (set written r true) q false ≡ is_some (put table r (Some x) q)
written-put written table r x lt h q =
    ⊎_elim
    (λ (e : q ≡ r). subst (λ j. get_or (set written r true) j false ≡ is_some (put table r (Some x) j)) (sym e) (get_or-set_same written r true false lt
    ∙ ap is_some (sym (put-same table r (Some x)))))
    (λ (ne : q ≢ r). get_or-set_other written r q true false ne ∙ h q ∙ ap is_some (sym (put-other table r (Some x) q ne)))
    (cases_eq q r)

pub cmp-eq : (k q : ℕ) → is_eq (nat_cmp k q) ≡ eqb k q
cmp-eq k q = grind (arith, nat_tests)

given-put : (m n : BTreeSet ℕ) (k : ℕ) → Updates nat_cmp m n k true → (q : ℕ) → contains nat_cmp n q ≡ cond (eqb k q) true (contains nat_cmp m q)
given-put m n k h q = h.0 q ∙ ap (λ b. cond b true (contains nat_cmp m q)) (cmp-eq k q)

pub outputs-put : (m n : BTreeSet ℕ) (outputs : List (Option ℕ)) (k x : ℕ) → Updates nat_cmp m n k true → k < length outputs
    → ((q : ℕ) → contains nat_cmp m q ≡ is_some (get_or outputs q None)) → (q : ℕ) → contains nat_cmp n q ≡ is_some (get_or (set outputs k (Some x)) q None)
outputs-put m n outputs k x h lt each q =
    ⊎_elim
    (λ (e : q ≡ k). subst (λ j. contains nat_cmp n j ≡ is_some (get_or (set outputs k (Some x)) j None)) (sym e) (given-put m n k h k
    ∙ ap (λ b. cond b true (contains nat_cmp m k)) (eq-eqb k k refl) ∙ ap is_some (sym (get_or-set_same outputs k (Some x) None lt))))
    (λ (ne : q ≢ k). given-put m n k h q ∙ ap (λ b. cond b true (contains nat_cmp m q)) (ne_eqb k q (λ e. ne (sym e))) ∙ each q
    ∙ ap is_some (sym (get_or-set_other outputs k q (Some x) None ne)))
    (cases_eq q k)

-- ---- drafts

pub then-some : (o : Option ℕ) (f : ℕ → Option State) (t : State) → option_and_then f o ≡ Some t → (x : ℕ) × (o ≡ Some x) × (f x ≡ Some t)
then-some None f t e = absurd (none≢some t e)
then-some (Some x) f t e = (x, refl, e)

pub map-some : (o : Option ℕ) (f : ℕ → State) (t : State) → option_map f o ≡ Some t → (x : ℕ) × (o ≡ Some x) × (f x ≡ t)
map-some None f t e = absurd (none≢some t e)
map-some (Some x) f t e = (x, refl, some-is (f x) t e)
