use Rattle.std.proofs.Common.{◌≡◌, ◌≢◌, ℕ, zero, suc, ◌+◌, ◌-◌, ◌*◌, ◌<◌, ◌≤◌, Bool, true, false, cond, eqb, ltb, max, ◌⊎◌, List, [], ◌∷◌, ◌++◌, length, get_or}
use Rattle.std.proofs.Common.{set, take, drop, map, Option, None, Some, is_some, refl, ap, sym, ◌∙◌, subst, inl, inr, ⊎_elim, arith}
use mathlib.Core.Bool.{◌&&◌}
use Rattle.std.specs.Prelude.{if◌then◌else◌}
use Rattle.std.specs.Option.{option_and_then, option_map, option_map_or, is_none}
use Rattle.std.specs.List.{sum_by}
use Rattle.std.proofs.Math.Seq.{take-suc, drop-cons}
use Rattle.std.proofs.lemmas.Bool.{cases_eq, and_from, lt-ltb, le-ltb, cases_lt, or_left, eq-eqb, true≢false}
use Rattle.std.proofs.lemmas.List.{length-take-le, get_or_at, length-map, length-append, map-append, append_assoc, append-nil, set_at, take-append-drop}
use Rattle.std.proofs.lemmas.List.{take_all, drop_all, length_push}
use Rattle.std.proofs.lemmas.List.Sums.{fold_push, sum_by_push}
use Rattle.m_fixed.specs.declared.amount.Value.TheVariants.{Undef}
use Rattle.m_fixed.specs.declared.operator.Op.{Op}
use Rattle.flat_code.specs.declared.program.Node.{Node}
use Rattle.flat_code.specs.declared.program.Node.TheVariants.{Input, Lit as Number, Do as Work}
use Rattle.flat_code.specs.declared.program.Check.{Check}
use Rattle.flat_code.specs.declared.program.Flat.{Flat}
use Rattle.flat_code.specs.Entries.{node_at}
use Rattle.reg_machine.specs.declared.instr.TheConstants.{REGISTERS}
use Rattle.reg_machine.specs.declared.instr.Instr.{Instr}
use Rattle.reg_machine.specs.declared.instr.Instr.TheVariants.{Store, Load, Check as Test, Output}
use Rattle.reg_machine.specs.declared.wrong.Wrong.TheVariants.{Number as NumberWrong, Order as OrderWrong}
use Rattle.reg_machine.specs.Flow.{Counts, Listing, State, put, start, step, with_node, with_instr, with_slots, has_numbers, moved, reading, wrong_at}
use Rattle.reg_machine.specs.Flow.{wrong_behind, repeats_first, loads_of}
use Rattle.reg_machine.proofs.BuilderLemmas.{reads-on, wrong-is}
use Rattle.register_alloc.specs.declared.moment.TheConstants.{MOST}
use Rattle.register_alloc.specs.declared.sources.Sources.{Sources}
use Rattle.register_alloc.specs.Width.{reads, check_reads, reads_by, tests_by, one_if, width_of, is_held, moment_from}
use Rattle.register_alloc.specs.Allocation.{is_spill, spills_of, IsStoredTo}
use Rattle.register_alloc.specs.inner.Tables.{look, In, is_live, is_busy}
use Rattle.register_alloc.specs.inner.Valid.{IsInput}
use Rattle.register_alloc.specs.inner.Sound.{Once, Few, Sound, Counted, Spells, HasSources, instr_of, Cleared, nodes_read, checks_read, given_before}
use Rattle.register_alloc.specs.inner.Sound.{given_part, count_some, count_given}
use Rattle.register_alloc.proofs.CountLemmas.{places-and, held-width, width-nodes}
use Rattle.register_alloc.proofs.LiveLemmas.{live-parts, live-held, live-read, dies-read, live-checked, dies-checked, live-made, live-still, moment-rises}
use Rattle.register_alloc.proofs.LiveLemmas.{moment-reads}
use Rattle.register_alloc.proofs.TableLemmas.{none≢some, put-same, put-other, put-cases, in-other, look-set, tables-store, tables-write, tables-pass}
use Rattle.register_alloc.proofs.StepLemmas.{Next, reading-push, right-push, loads-read, spills-push, few-push, used-push, used-here, next-store, next-load}
use Rattle.register_alloc.proofs.StepLemmas.{next-node, next-test, next-give, put-suc, spill-node}
use Rattle.register_alloc.proofs.OutputLemmas.{part-at, part-next, part-other, part-this, part-free, length-part, part-none, part-all, count-set, count-gave}
use Rattle.register_alloc.proofs.OutputLemmas.{count-least, given-least, part-least}
use Rattle.register_alloc.proofs.SoundLemmas.{slots-below, held-by, right-next, loads-next, loads-now}

-- the next check may be done
next-tested : {flat : Flat} {made read checked : ℕ} {given : List (Option ℕ)} {code : Listing} {r s : ℕ → Option ℕ} {n : ℕ}
    → (h : Sound flat made read checked given code r s n) → (check : Check) (g k : ℕ) → checked < length flat.checks → check ≡ get_or flat.checks checked check
    → g < REGISTERS → k < REGISTERS → r g ≡ Some check.guard → r k ≡ Some check.condition
    → Next code n h.spelled.state (Test g k check.over_only check.label) (record h.spelled.state { checks = h.spelled.state.checks ++ check ∷ [] })
next-tested {flat} {made} {read} {checked} {given} {code} {r} {s} {n} h check g k below is lt lt' guard condition =
    next-test code n g k check h.spelled.state lt lt'
    (subst (λ (x : Check). x.label < code.counts.labels) (sym is) (h.spelled.counted.labels checked check below))
    (held-by h g check.guard guard) (held-by h k check.condition condition)

pub right-test : {flat : Flat} {made read checked : ℕ} {given : List (Option ℕ)} {code : Listing} {r s : ℕ → Option ℕ} {n : ℕ}
    → Sound flat made read checked given code r s n → (check : Check) (g k : ℕ) → checked < length flat.checks → check ≡ get_or flat.checks checked check
    → g < REGISTERS → k < REGISTERS → r g ≡ Some check.guard → r k ≡ Some check.condition → wrong_behind code (Test g k check.over_only check.label) ≡ None
right-test {flat} {made} {read} {checked} {given} {code} {r} {s} {n} h check g k below is lt lt' guard condition =
    right-next h n (Test g k check.over_only check.label) _ (omega arith) h.few.within (next-tested h check g k below is lt lt' guard condition)

pub loads-test : {flat : Flat} {made read checked : ℕ} {given : List (Option ℕ)} {code : Listing} {r s : ℕ → Option ℕ} {n : ℕ}
    → Sound flat made read checked given code r s n → (check : Check) (g k : ℕ) → checked < length flat.checks → check ≡ get_or flat.checks checked check
    → g < REGISTERS → k < REGISTERS → r g ≡ Some check.guard → r k ≡ Some check.condition → (y : ℕ)
    → loads_of y (with_instr code (Test g k check.over_only check.label)) ≡ loads_of y code
loads-test {flat} {made} {read} {checked} {given} {code} {r} {s} {n} h check g k below is lt lt' guard condition y =
    loads-next h n (Test g k check.over_only check.label) _ (omega arith) h.few.within (next-tested h check g k below is lt lt' guard condition) y
    ∙ sym (loads-now h y)

-- a check is done, and the slots of its dead nodes are freed
pub sound-test : {flat : Flat} {made read checked : ℕ} {given : List (Option ℕ)} {code : Listing} {r s : ℕ → Option ℕ} {n : ℕ}
    → Sound flat made read checked given code r s n → (check : Check) (g k : ℕ) (s' : ℕ → Option ℕ) → checked < length flat.checks
    → check ≡ get_or flat.checks checked check → g < REGISTERS → k < REGISTERS → r g ≡ Some check.guard → r k ≡ Some check.condition
    → Cleared (λ x. check_reads x check) (is_live flat made read (suc checked)) s s'
    → Sound flat made read (suc checked) given (with_instr code (Test g k check.over_only check.label)) r s' n
sound-test {flat} {made} {read} {checked} {given} {code} {r} {s} {n} h check g k s' below is lt lt' guard condition clear =
    let live = is_live flat made read checked in
    let live' = is_live flat made read (suc checked) in
    let t = h.spelled.state in
    let order = h.order in
    let lives : (k y : ℕ) → s' k ≡ Some y → live' y ≡ true = λ k y e.
    let o = clear.only k y e in
    ⊎_elim
    (λ here. o.1 (ap (check_reads y) is ∙ here))
    (λ there. there)
    (dies-checked flat made read checked y check below (h.tables.owned k y o.0)) in
    record {
      order = record {
        few_nodes = order.few_nodes;
        few_checks = order.few_checks;
        few_outputs = order.few_outputs;
        made_read = order.made_read;
        read_within = order.read_within;
        checked_within = below;
        late = λ lt. omega (arith, order.late below, moment-rises 0 flat.checks checked);
      };
      tables = tables-pass live live' made r s s' h.tables (λ y l. live-checked flat made read checked y check below l)
          (λ k y e. ((clear.only k y e).0, lives k y e)) clear.stays;
      spelled = record {
        state = record t { checks = t.checks ++ check ∷ [] };
        counted = h.spelled.counted;
        read = reading-push code (Test g k check.over_only check.label) n n t _ h.spelled.read (omega arith)
            (next-tested h check g k below is lt lt' guard condition);
        registers = h.spelled.registers;
        slots = λ k y e. h.spelled.slots k y (clear.only k y e).0;
        within = λ k y e. h.spelled.within k y (clear.only k y e).0;
        used = λ j l. used-push code (Test g k check.over_only check.label) j (h.spelled.used j l);
        nodes = h.spelled.nodes;
        checks = ap (λ xs. xs ++ check ∷ []) h.spelled.checks ∙ ap (λ x. take checked flat.checks ++ x ∷ []) is
            ∙ sym (take-suc flat.checks checked check below);
        outputs = h.spelled.outputs;
        stored = λ y. ⊎_elim (λ z. inl z)
            (λ p. inr (
              p.0,
              p.1,
              λ l. let w = p.2 (live-checked flat made read checked y check below l) in
                  record { place = w.place; is = clear.stays w.place y w.is l },
            ))
            (h.spelled.stored y);
      };
      few = few-push flat code n (Test g k check.over_only check.label) h.few refl;
    }

-- an output may be set
next-given : {flat : Flat} {made read checked : ℕ} {given : List (Option ℕ)} {code : Listing} {r s : ℕ → Option ℕ} {n : ℕ}
    → (h : Sound flat made read checked given code r s n) → (j k x : ℕ) → j < length flat.outputs → k < REGISTERS → get_or given j None ≡ None → r k ≡ Some x
    → Next code n h.spelled.state (Output j k) (record h.spelled.state { outputs = set h.spelled.state.outputs j (Some x) })
next-given {flat} {made} {read} {checked} {given} {code} {r} {s} {n} h j k x lt lt' free at =
    let count : code.counts.outputs ≡ length flat.outputs = h.spelled.counted.outputs in
    next-give code n j k x h.spelled.state (omega arith) lt' (ap (λ os. get_or os j None) h.spelled.outputs ∙ free) (held-by h k x at)

pub right-give : {flat : Flat} {made read checked : ℕ} {given : List (Option ℕ)} {code : Listing} {r s : ℕ → Option ℕ} {n : ℕ}
    → Sound flat made read checked given code r s n → (j k x : ℕ) → j < length flat.outputs → k < REGISTERS → get_or given j None ≡ None → r k ≡ Some x
    → wrong_behind code (Output j k) ≡ None
right-give {flat} {made} {read} {checked} {given} {code} {r} {s} {n} h j k x lt lt' free at =
    right-next h n (Output j k) _ (omega arith) h.few.within (next-given h j k x lt lt' free at)

pub loads-give : {flat : Flat} {made read checked : ℕ} {given : List (Option ℕ)} {code : Listing} {r s : ℕ → Option ℕ} {n : ℕ}
    → Sound flat made read checked given code r s n → (j k x : ℕ) → j < length flat.outputs → k < REGISTERS → get_or given j None ≡ None → r k ≡ Some x
    → (y : ℕ) → loads_of y (with_instr code (Output j k)) ≡ loads_of y code
loads-give {flat} {made} {read} {checked} {given} {code} {r} {s} {n} h j k x lt lt' free at y =
    loads-next h n (Output j k) _ (omega arith) h.few.within (next-given h j k x lt lt' free at) y ∙ sym (loads-now h y)

pub sound-give : {flat : Flat} {made read checked : ℕ} {given : List (Option ℕ)} {code : Listing} {r s : ℕ → Option ℕ} {n : ℕ}
    → Sound flat made read checked given code r s n → (j k x : ℕ) → j < length flat.outputs → k < REGISTERS → get_or given j None ≡ None → r k ≡ Some x
    → Sound flat made read checked (set given j (Some x)) (with_instr code (Output j k)) r s n
sound-give {flat} {made} {read} {checked} {given} {code} {r} {s} {n} h j k x lt lt' free at =
    let t = h.spelled.state in
    record {
      order = h.order;
      tables = h.tables;
      spelled = record {
        state = record t { outputs = set t.outputs j (Some x) };
        counted = h.spelled.counted;
        read = reading-push code (Output j k) n n t _ h.spelled.read (omega arith) (next-given h j k x lt lt' free at);
        registers = h.spelled.registers;
        slots = h.spelled.slots;
        within = h.spelled.within;
        used = λ i l. used-push code (Output j k) i (h.spelled.used i l);
        nodes = h.spelled.nodes;
        checks = h.spelled.checks;
        outputs = ap (λ xs. set xs j (Some x)) h.spelled.outputs;
        stored = h.spelled.stored;
      };
      few = few-push flat code n (Output j k) h.few refl;
    }

-- a new slot, or a free one, is within the width
pub slots-more : {flat : Flat} {made read checked : ℕ} {given : List (Option ℕ)} {code : Listing} {r : ℕ → Option ℕ} (old : List (Option ℕ)) (size : ℕ)
    → Sound flat made read checked given code r (look old) (length old) → (x : ℕ)
    → (size ≡ length old) ⊎ ((size ≡ suc (length old)) × ((j : ℕ) → j < length old → is_some (look old j) ≡ true)) → is_live flat made read checked x ≡ true
    → ((j : ℕ) → look old j ≡ Some x → ⊥) → (length old ≤ size) × (size ≤ width_of flat)
slots-more {flat} old size h x grows live away =
    let away' : In (look old) x → ⊥ = λ p. away p.place p.is in
    let more = slots-below h x live away' in
    let within : length old ≤ width_of flat = h.few.within in
    ⊎_elim (λ e. (omega arith, omega arith)) (λ p. (omega (arith, p.0), omega (arith, p.0, more p.1))) grows

-- a slot is an old one, or the free one that is taken
pub slots-grown : (old : List (Option ℕ)) (size k : ℕ) → look old k ≡ None → k < size
    → (size ≡ length old) ⊎ ((size ≡ suc (length old)) × ((j : ℕ) → j < length old → is_some (look old j) ≡ true)) → (j : ℕ) → j < size
    → (j < length old) ⊎ (k ≡ j)
slots-grown old size k free lt grows j below =
    ⊎_elim
    (λ (same : size ≡ length old). inl (omega arith))
    (λ p. ⊎_elim
    (λ (within : k < length old). absurd (true≢false (sym (p.1 k within) ∙ ap is_some free)))
    (λ (past : length old ≤ k). ⊎_elim
    (λ (l : j < length old). inl l)
    (λ (l : length old ≤ j). let here : k ≡ j = omega (arith, p.0) in inr here)
    (cases_lt j (length old)))
    (cases_lt k (length old)))
    grows
