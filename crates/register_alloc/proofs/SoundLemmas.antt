-- The allocator's invariant, one instruction after another.
use Rattle.std.proofs.Common.{◌≡◌, ◌≢◌, ℕ, zero, suc, ◌+◌, ◌-◌, ◌*◌, ◌<◌, ◌≤◌, Bool, true, false, cond, eqb, ltb, max, ◌⊎◌, List, [], ◌∷◌, ◌++◌, length, get_or}
use Rattle.std.proofs.Common.{set, take, drop, map, Option, None, Some, is_some, refl, ap, sym, ◌∙◌, subst, inl, inr, ⊎_elim, arith}
use mathlib.Core.Bool.{◌&&◌}
use Rattle.std.specs.Prelude.{if◌then◌else◌}
use Rattle.std.specs.Option.{option_and_then, option_map, option_map_or, is_none}
use Rattle.std.specs.List.{sum_by}
use Rattle.std.proofs.Math.Seq.{take-suc, drop-cons}
use Rattle.std.proofs.lemmas.Bool.{cases_eq, and_from, lt-ltb, le-ltb, cases_lt, or_left, eq-eqb, true≢false}
use Rattle.std.proofs.lemmas.List.{length-take-le, get_or_at, length-map, length-append, map-append, append_assoc, append-nil, set_at, take-append-drop}
use Rattle.std.proofs.lemmas.List.{take_all, drop_all, length_push}
use Rattle.std.proofs.lemmas.List.Sums.{fold_push, sum_by_push}
use Rattle.m_fixed.specs.declared.amount.Value.TheVariants.{Undef}
use Rattle.m_fixed.specs.declared.operator.Op.{Op}
use Rattle.flat_code.specs.declared.program.Node.{Node}
use Rattle.flat_code.specs.declared.program.Node.TheVariants.{Input, Lit as Number, Do as Work}
use Rattle.flat_code.specs.declared.program.Check.{Check}
use Rattle.flat_code.specs.declared.program.Flat.{Flat}
use Rattle.flat_code.specs.Entries.{node_at}
use Rattle.reg_machine.specs.declared.instr.TheConstants.{REGISTERS}
use Rattle.reg_machine.specs.declared.instr.Instr.{Instr}
use Rattle.reg_machine.specs.declared.instr.Instr.TheVariants.{Store, Load, Check as Test, Output}
use Rattle.reg_machine.specs.declared.wrong.Wrong.TheVariants.{Number as NumberWrong, Order as OrderWrong}
use Rattle.reg_machine.specs.Flow.{Counts, Listing, State, put, start, step, with_node, with_instr, with_slots, has_numbers, moved, reading, wrong_at}
use Rattle.reg_machine.specs.Flow.{wrong_behind, repeats_first, loads_of}
use Rattle.reg_machine.proofs.BuilderLemmas.{reads-on, wrong-is}
use Rattle.register_alloc.specs.declared.moment.TheConstants.{MOST}
use Rattle.register_alloc.specs.declared.sources.Sources.{Sources}
use Rattle.register_alloc.specs.Width.{reads, check_reads, reads_by, tests_by, one_if, width_of, is_held, moment_from}
use Rattle.register_alloc.specs.Allocation.{is_spill, spills_of, IsStoredTo}
use Rattle.register_alloc.specs.inner.Tables.{look, In, is_live, is_busy}
use Rattle.register_alloc.specs.inner.Valid.{IsInput}
use Rattle.register_alloc.specs.inner.Sound.{Once, Few, Sound, Counted, Spells, HasSources, instr_of, Cleared, nodes_read, checks_read, given_before}
use Rattle.register_alloc.specs.inner.Sound.{given_part, count_some, count_given}
use Rattle.register_alloc.proofs.CountLemmas.{places-and, held-width, width-nodes}
use Rattle.register_alloc.proofs.LiveLemmas.{live-parts, live-held, live-read, dies-read, live-checked, dies-checked, live-made, live-still, moment-rises}
use Rattle.register_alloc.proofs.LiveLemmas.{moment-reads}
use Rattle.register_alloc.proofs.TableLemmas.{none≢some, put-same, put-other, put-cases, in-other, look-set, tables-store, tables-write, tables-pass}
use Rattle.register_alloc.proofs.StepLemmas.{Next, reading-push, right-push, loads-read, spills-push, few-push, used-push, used-here, next-store, next-load}
use Rattle.register_alloc.proofs.StepLemmas.{next-node, next-test, next-give, put-suc, spill-node}
use Rattle.register_alloc.proofs.OutputLemmas.{part-at, part-next, part-other, part-this, part-free, length-part, part-none, part-all, count-set, count-gave}
use Rattle.register_alloc.proofs.OutputLemmas.{count-least, given-least, part-least}

-- the code has room for every number of slots that the allocator reaches
pub slots-fit : {flat : Flat} {made read checked : ℕ} {given : List (Option ℕ)} {code : Listing} {r s : ℕ → Option ℕ} {n : ℕ}
    → Sound flat made read checked given code r s n → (m : ℕ) → m ≤ width_of flat → m ≤ code.counts.slots
slots-fit {flat} {made} {read} {checked} {given} {code} {r} {s} {n} h m le =
    let most : width_of flat ≤ length flat.nodes = width-nodes flat in
    let few : length flat.nodes ≤ MOST = h.order.few_nodes in
    let slots : code.counts.slots ≡ 4294967295 = h.spelled.counted.slots in
    omega arith

-- if all slots hold live nodes, and one more node is live, the slots are fewer than the width
pub slots-below : {flat : Flat} {made read checked : ℕ} {given : List (Option ℕ)} {code : Listing} {r s : ℕ → Option ℕ} {n : ℕ}
    → Sound flat made read checked given code r s n → (x : ℕ) → is_live flat made read checked x ≡ true → (In s x → ⊥)
    → ((k : ℕ) → k < n → is_some (s k) ≡ true) → n < width_of flat
slots-below {flat} {made} {read} {checked} {given} {code} {r} {s} {n} h x live away all =
    let order = h.order in
    let parts = live-parts flat made read checked x live in
    let most : made ≤ read = order.made_read in
    let within : read ≤ length flat.nodes = order.read_within in
    let each : (k : ℕ) → k < n → (y : ℕ) × (s k ≡ Some y) × (is_held flat (read - 1) y ≡ true) × (y < length flat.nodes) = λ k lt.
    let e = some-from (s k) (all k lt) in
    let l = h.tables.owned k e.0 e.1 in
    let p = live-parts flat made read checked e.0 l in
    (e.0, e.1, live-held flat made read checked e.0 order l, omega arith) in
    let more = places-and s (is_held flat (read - 1)) n (length flat.nodes) x h.tables.one_slot each (live-held flat made read checked x order live)
    (omega arith) (λ k lt e. away (record { place = k; is = e })) in
    let q : read - 1 < length flat.nodes = omega arith in
    omega (arith, held-width flat (read - 1) q)
  where
    some-from : (o : Option ℕ) → is_some o ≡ true → (x : ℕ) × (o ≡ Some x)
    some-from None e = absurd (true≢false (sym e))
    some-from (Some x) e = (x, refl)

busy-from : (live : ℕ → Bool) (o : Option ℕ) → is_busy live o ≡ true → (x : ℕ) × (o ≡ Some x) × (live x ≡ true)
busy-from live None e = absurd (true≢false (sym e))
busy-from live (Some x) e = (x, refl, e)

-- if all registers hold live nodes, and one more node is held, the registers are fewer than the
-- width
pub registers-below : {flat : Flat} {made read checked : ℕ} {given : List (Option ℕ)} {code : Listing} {r s : ℕ → Option ℕ} {n : ℕ}
    → Sound flat made read checked given code r s n → (x : ℕ) → 0 < read → x < length flat.nodes → is_held flat (read - 1) x ≡ true → (In r x → ⊥)
    → ((k : ℕ) → k < REGISTERS → is_busy (is_live flat made read checked) (r k) ≡ true) → REGISTERS < width_of flat
registers-below {flat} {made} {read} {checked} {given} {code} {r} {s} {n} h x some below held away all =
    let order = h.order in
    let most : made ≤ read = order.made_read in
    let within : read ≤ length flat.nodes = order.read_within in
    let each : (k : ℕ) → k < REGISTERS → (y : ℕ) × (r k ≡ Some y) × (is_held flat (read - 1) y ≡ true) × (y < length flat.nodes) = λ k lt.
    let e = busy-from (is_live flat made read checked) (r k) (all k lt) in
    let p = live-parts flat made read checked e.0 e.2 in
    (e.0, e.1, live-held flat made read checked e.0 order e.2, omega arith) in
    let more = places-and r (is_held flat (read - 1)) REGISTERS (length flat.nodes) x h.tables.one_register each held below
    (λ k lt e. away (record { place = k; is = e })) in
    let q : read - 1 < length flat.nodes = omega arith in
    omega (arith, held-width flat (read - 1) q)

-- a register that is idle may be written
pub spare-idle : (live : ℕ → Bool) (o : Option ℕ) (s : ℕ → Option ℕ) → is_busy live o ≡ false → (x : ℕ) → o ≡ Some x → live x ≡ true → In s x
spare-idle live o s idle x e l = absurd (true≢false (sym l ∙ sym (ap (is_busy live) e) ∙ idle))

once-store : (stored : ℕ → ℕ) (x k made : ℕ) (live : ℕ → Bool) (s : ℕ → Option ℕ) → ((y : ℕ) → Once (stored y) y made live s) → live x ≡ true → x < made
    → s k ≡ None → (In s x → ⊥) → (y : ℕ) → Once (put stored x (suc (stored x)) y) y made live (put s k (Some x))
once-store stored x k made live s once lives lt free away y =
    ⊎_elim
    (λ (e : y ≡ x).
    let fresh : stored x ≡ 0 = ⊎_elim (λ z. z) (λ p. absurd (away (p.2 lives))) (once x) in
    let one : put stored x (suc (stored x)) x ≡ 1 = put-same stored x (suc (stored x)) ∙ ap suc fresh in
    subst (λ z. Once (put stored x (suc (stored x)) z) z made live (put s k (Some x))) (sym e)
    (inr (one, lt, λ l. record { place = k; is = put-same s k (Some x) })))
    (λ (ne : y ≢ x).
    let same = put-other stored x (suc (stored x)) y ne in
    ⊎_elim (λ z. inl (same ∙ z)) (λ p. inr (same ∙ p.0, p.1, λ l. in-other s k x y free (p.2 l))) (once y))
    (cases_eq y x)

-- what a register holds, by the table
pub held-by : {flat : Flat} {made read checked : ℕ} {given : List (Option ℕ)} {code : Listing} {r s : ℕ → Option ℕ} {n : ℕ}
    → (h : Sound flat made read checked given code r s n) → (i x : ℕ) → r i ≡ Some x → h.spelled.state.registers i ≡ Some x
held-by h i x at = ap (λ (f : ℕ → Option ℕ). f i) h.spelled.registers ∙ at

-- an instruction that may follow the code so far is valid
pub right-next : {flat : Flat} {made read checked : ℕ} {given : List (Option ℕ)} {code : Listing} {r s : ℕ → Option ℕ} {n : ℕ}
    → (h : Sound flat made read checked given code r s n) → (m : ℕ) (i : Instr) (after : State) → n ≤ m → m ≤ width_of flat
    → Next code m h.spelled.state i after → wrong_behind code i ≡ None
right-next {flat} {made} {read} {checked} {given} {code} {r} {s} {n} h m i after le fits next =
    right-push code i n m h.spelled.state after h.spelled.read le (slots-fit h m fits) next

-- how often a node is loaded after such an instruction
pub loads-next : {flat : Flat} {made read checked : ℕ} {given : List (Option ℕ)} {code : Listing} {r s : ℕ → Option ℕ} {n : ℕ}
    → (h : Sound flat made read checked given code r s n) → (m : ℕ) (i : Instr) (after : State) → n ≤ m → m ≤ width_of flat
    → Next code m h.spelled.state i after → (y : ℕ) → loads_of y (with_instr code i) ≡ after.loaded y
loads-next {flat} {made} {read} {checked} {given} {code} {r} {s} {n} h m i after le fits next y =
    loads-read (with_instr code i) m after (reading-push code i n m h.spelled.state after h.spelled.read le next) (slots-fit h m fits) y

pub loads-now : {flat : Flat} {made read checked : ℕ} {given : List (Option ℕ)} {code : Listing} {r s : ℕ → Option ℕ} {n : ℕ}
    → (h : Sound flat made read checked given code r s n) → (y : ℕ) → loads_of y code ≡ h.spelled.state.loaded y
loads-now {flat} {made} {read} {checked} {given} {code} {r} {s} {n} h y = loads-read code n h.spelled.state h.spelled.read (slots-fit h n h.few.within) y

-- a live node of a register is stored in a free slot, old or new
pub sound-store : {flat : Flat} {made read checked : ℕ} {given : List (Option ℕ)} {code : Listing} {r s : ℕ → Option ℕ} {n : ℕ}
    → Sound flat made read checked given code r s n → (k i x m : ℕ) → s k ≡ None → k < m → n ≤ m → ((j : ℕ) → j < m → (j < n) ⊎ (k ≡ j)) → m ≤ width_of flat
    → REGISTERS < width_of flat → i < REGISTERS → r i ≡ Some x → is_live flat made read checked x ≡ true → (In s x → ⊥)
    → Sound flat made read checked given (with_instr code (Store k i)) r (put s k (Some x)) m
sound-store {flat} {made} {read} {checked} {given} {code} {r} {s} {n} h k i x m free lt le grows fits crowded below at lives away =
    let live = is_live flat made read checked in
    let t = h.spelled.state in
    let parts = live-parts flat made read checked x lives in
    let next = next-store code m k i x t lt below (held-by h i x at) in
    record {
      order = h.order;
      tables = tables-store live made r s k x h.tables free lives away;
      spelled = record {
        state = record t { slots = put t.slots k (Some x); stored = put t.stored x (suc (t.stored x)) };
        counted = h.spelled.counted;
        read = reading-push code (Store k i) n m t _ h.spelled.read le next;
        registers = h.spelled.registers;
        slots = λ j y e. ⊎_elim
            (λ p. subst (λ i. put t.slots k (Some x) i ≡ Some y) (sym p.0) (put-same t.slots k (Some x) ∙ ap (λ (n : ℕ). Some n) p.1))
            (λ p. put-other t.slots k (Some x) j p.0 ∙ h.spelled.slots j y p.1)
            (put-cases s k x j y e);
        within = λ j y e. ⊎_elim
            (λ (p : (j ≡ k) × (x ≡ y)). let is : j ≡ k = p.0 in let z : j < m = omega arith in z)
            (λ (p : (j ≢ k) × (s j ≡ Some y)). let old : j < n = h.spelled.within j y p.1 in let z : j < m = omega arith in z)
            (put-cases s k x j y e);
        used = λ j l. ⊎_elim
            (λ (old : j < n). used-push code (Store k i) j (h.spelled.used j old))
            (λ (here : k ≡ j). subst (λ m. IsStoredTo m (with_instr code (Store k i))) here (used-here code k i))
            (grows j l);
        nodes = h.spelled.nodes;
        checks = h.spelled.checks;
        outputs = h.spelled.outputs;
        stored = once-store t.stored x k made live s h.spelled.stored lives parts.0 free away;
      };
      few = record { within = fits; direct = λ z. absurd (omega arith) };
    }

-- a node of a slot is loaded into a register that may be written
pub sound-load : {flat : Flat} {made read checked : ℕ} {given : List (Option ℕ)} {code : Listing} {r s : ℕ → Option ℕ} {n : ℕ}
    → Sound flat made read checked given code r s n → (k i x : ℕ) → k < REGISTERS → s i ≡ Some x → (In r x → ⊥)
    → ((y : ℕ) → r k ≡ Some y → is_live flat made read checked y ≡ true → In s y)
    → Sound flat made read checked given (with_instr code (Load k i)) (put r k (Some x)) s n
sound-load {flat} {made} {read} {checked} {given} {code} {r} {s} {n} h k i x lt at away spare =
    let live = is_live flat made read checked in
    let t = h.spelled.state in
    let parts = live-parts flat made read checked x (h.tables.owned i x at) in
    let next = next-load code n k i x t (h.spelled.within i x at) lt (h.spelled.slots i x at) in
    record {
      order = h.order;
      tables = tables-write live live made made r s k x h.tables (omega arith) parts.0 away spare (λ y l. l) (λ y l. inr l);
      spelled = record {
        state = record t { registers = put t.registers k (Some x); loaded = put t.loaded x (suc (t.loaded x)) };
        counted = h.spelled.counted;
        read = reading-push code (Load k i) n n t _ h.spelled.read (omega arith) next;
        registers = ap (λ f. put f k (Some x)) h.spelled.registers;
        slots = h.spelled.slots;
        within = h.spelled.within;
        used = λ j l. used-push code (Load k i) j (h.spelled.used j l);
        nodes = h.spelled.nodes;
        checks = h.spelled.checks;
        outputs = h.spelled.outputs;
        stored = h.spelled.stored;
      };
      few = record { within = h.few.within; direct = λ z. let none = (h.few.direct z).0 in let some : i < n = h.spelled.within i x at in absurd (omega arith) };
    }

pub right-load : {flat : Flat} {made read checked : ℕ} {given : List (Option ℕ)} {code : Listing} {r s : ℕ → Option ℕ} {n : ℕ}
    → Sound flat made read checked given code r s n → (k i x : ℕ) → k < REGISTERS → s i ≡ Some x → wrong_behind code (Load k i) ≡ None
right-load {flat} {made} {read} {checked} {given} {code} {r} {s} {n} h k i x lt at =
    right-next h n (Load k i) _ (omega arith) h.few.within (next-load code n k i x h.spelled.state (h.spelled.within i x at) lt (h.spelled.slots i x at))

pub loads-load : {flat : Flat} {made read checked : ℕ} {given : List (Option ℕ)} {code : Listing} {r s : ℕ → Option ℕ} {n : ℕ}
    → Sound flat made read checked given code r s n → (k i x : ℕ) → k < REGISTERS → s i ≡ Some x → (y : ℕ)
    → loads_of y (with_instr code (Load k i)) ≤ loads_of y code + one_if (eqb x y)
loads-load {flat} {made} {read} {checked} {given} {code} {r} {s} {n} h k i x lt at y =
    let t = h.spelled.state in
    let now = loads-now h y in
    let after = loads-next h n (Load k i) _ (omega arith) h.few.within (next-load code n k i x t (h.spelled.within i x at) lt (h.spelled.slots i x at)) y in
    omega (arith, put-suc t.loaded x y)

-- the next node may be made
next-made : {flat : Flat} {made read checked : ℕ} {given : List (Option ℕ)} {code : Listing} {r s : ℕ → Option ℕ} {n : ℕ}
    → (h : Sound flat made read checked given code r s n) → (k : ℕ) (node : Node) (q : Sources) → made < read → node ≡ node_at flat.nodes made → k < REGISTERS
    → HasSources r node q → Next code n h.spelled.state (instr_of node k q) (with_node k node h.spelled.state)
next-made {flat} {made} {read} {checked} {given} {code} {r} {s} {n} h k node q some is lt has =
    let within : read ≤ length flat.nodes = h.order.read_within in
    let below : made < length flat.nodes = omega arith in
    next-node code n k node q h.spelled.state lt
    (subst (λ (x : Node). IsInput code.counts.inputs x) (sym is) (h.spelled.counted.takes made (Number Undef) below))
    (subst (λ (f : ℕ → Option ℕ). HasSources f node q) (sym h.spelled.registers) has)

pub right-make : {flat : Flat} {made read checked : ℕ} {given : List (Option ℕ)} {code : Listing} {r s : ℕ → Option ℕ} {n : ℕ}
    → Sound flat made read checked given code r s n → (k : ℕ) (node : Node) (q : Sources) → made < read → node ≡ node_at flat.nodes made → k < REGISTERS
    → HasSources r node q → wrong_behind code (instr_of node k q) ≡ None
right-make {flat} {made} {read} {checked} {given} {code} {r} {s} {n} h k node q some is lt has =
    right-next h n (instr_of node k q) _ (omega arith) h.few.within (next-made h k node q some is lt has)

pub loads-make : {flat : Flat} {made read checked : ℕ} {given : List (Option ℕ)} {code : Listing} {r s : ℕ → Option ℕ} {n : ℕ}
    → Sound flat made read checked given code r s n → (k : ℕ) (node : Node) (q : Sources) → made < read → node ≡ node_at flat.nodes made → k < REGISTERS
    → HasSources r node q → (y : ℕ) → loads_of y (with_instr code (instr_of node k q)) ≡ loads_of y code
loads-make {flat} {made} {read} {checked} {given} {code} {r} {s} {n} h k node q some is lt has y =
    loads-next h n (instr_of node k q) _ (omega arith) h.few.within (next-made h k node q some is lt has) y ∙ sym (loads-now h y)

-- the next node is made in a register that may be written
pub sound-make : {flat : Flat} {made read checked : ℕ} {given : List (Option ℕ)} {code : Listing} {r s : ℕ → Option ℕ} {n : ℕ}
    → Sound flat made read checked given code r s n → (k : ℕ) (node : Node) (q : Sources) → made < read → node ≡ node_at flat.nodes made → k < REGISTERS
    → HasSources r node q → ((y : ℕ) → r k ≡ Some y → is_live flat made read checked y ≡ true → In s y)
    → Sound flat (suc made) read checked given (with_instr code (instr_of node k q)) (put r k (Some made)) s n
sound-make {flat} {made} {read} {checked} {given} {code} {r} {s} {n} h k node q some is lt has spare =
    let live = is_live flat made read checked in
    let live' = is_live flat (suc made) read checked in
    let t = h.spelled.state in
    let order = h.order in
    let within : read ≤ length flat.nodes = order.read_within in
    let below : made < length flat.nodes = omega arith in
    let size : length t.nodes ≡ made = ap length h.spelled.nodes ∙ length-take-le made flat.nodes (omega arith) in
    record {
      order = record {
        few_nodes = order.few_nodes;
        few_checks = order.few_checks;
        few_outputs = order.few_outputs;
        made_read = some;
        read_within = order.read_within;
        checked_within = order.checked_within;
        late = order.late;
      };
      tables = tables-write live live' made (suc made) r s k made h.tables (omega arith) (omega arith)
          (λ p. let lt : made < made = h.tables.earlier p.place made p.is in absurd (omega arith)) spare (λ y l. live-still flat made read checked y l)
          (λ y l. live-made flat made read checked y l);
      spelled = record {
        state = with_node k node t;
        counted = h.spelled.counted;
        read = reading-push code (instr_of node k q) n n t _ h.spelled.read (omega arith) (next-made h k node q some is lt has);
        registers = ap (λ f. put f k (Some (length t.nodes))) h.spelled.registers ∙ ap (λ (m : ℕ). put r k (Some m)) size;
        slots = h.spelled.slots;
        within = h.spelled.within;
        used = λ j l. used-push code (instr_of node k q) j (h.spelled.used j l);
        nodes = ap (λ xs. xs ++ node ∷ []) h.spelled.nodes ∙ ap (λ x. take made flat.nodes ++ x ∷ []) is ∙ sym (take-suc flat.nodes made (Number Undef) below);
        checks = h.spelled.checks;
        outputs = h.spelled.outputs;
        stored = λ y. ⊎_elim (λ z. inl z)
            (λ p. inr (
              p.0,
              omega (arith, p.1),
              λ l. p.2
                  (⊎_elim (λ (e : y ≡ made). absurd (omega (arith, p.1))) (λ l'. l') (live-made flat made read checked y l)),
            ))
            (h.spelled.stored y);
      };
      few = few-push flat code n (instr_of node k q) h.few (spill-node node k q);
    }

-- the arguments of a node are read, and the slots of those that are dead are freed
pub sound-pass : {flat : Flat} {made read checked : ℕ} {given : List (Option ℕ)} {code : Listing} {r s : ℕ → Option ℕ} {n : ℕ}
    → Sound flat made read checked given code r s n → (node : Node) (s' : ℕ → Option ℕ) → read < length flat.nodes → node ≡ node_at flat.nodes read
    → (checked < length flat.checks → read ≤ moment_from 0 flat.checks checked) → Cleared (λ x. reads x node) (is_live flat made (suc read) checked) s s'
    → Sound flat made (suc read) checked given code r s' n
sound-pass {flat} {made} {read} {checked} {given} {code} {r} {s} {n} h node s' below is late clear =
    let live = is_live flat made read checked in
    let live' = is_live flat made (suc read) checked in
    let order = h.order in
    let most : made ≤ read = order.made_read in
    let lives : (k y : ℕ) → s' k ≡ Some y → live' y ≡ true = λ k y e.
    let o = clear.only k y e in
    ⊎_elim
    (λ here. o.1 (ap (reads y) is ∙ here))
    (λ there. there)
    (dies-read flat made read checked y (Number Undef) below (h.tables.owned k y o.0)) in
    record {
      order = record {
        few_nodes = order.few_nodes;
        few_checks = order.few_checks;
        few_outputs = order.few_outputs;
        made_read = omega arith;
        read_within = below;
        checked_within = order.checked_within;
        late = λ lt. omega (arith, late lt);
      };
      tables = tables-pass live live' made r s s' h.tables (λ y l. live-read flat made read checked y node below l)
          (λ k y e. ((clear.only k y e).0, lives k y e)) clear.stays;
      spelled = record {
        state = h.spelled.state;
        counted = h.spelled.counted;
        read = h.spelled.read;
        registers = h.spelled.registers;
        slots = λ k y e. h.spelled.slots k y (clear.only k y e).0;
        within = λ k y e. h.spelled.within k y (clear.only k y e).0;
        used = h.spelled.used;
        nodes = h.spelled.nodes;
        checks = h.spelled.checks;
        outputs = h.spelled.outputs;
        stored = λ y. ⊎_elim (λ z. inl z)
            (λ p. inr (
              p.0,
              p.1,
              λ l. let w = p.2 (live-read flat made read checked y node below l) in
                  record { place = w.place; is = clear.stays w.place y w.is l },
            ))
            (h.spelled.stored y);
      };
      few = h.few;
    }
