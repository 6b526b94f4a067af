use Rattle.std.proofs.Common.{◌≡◌, ◌≢◌, ℕ, zero, suc, ◌+◌, ◌-◌, ◌*◌, ◌<◌, ◌≤◌, Bool, true, false, cond, eqb, ltb, max, ◌⊎◌, List, [], ◌∷◌, ◌++◌, length, get_or}
use Rattle.std.proofs.Common.{set, take, drop, map, Option, None, Some, is_some, refl, ap, sym, ◌∙◌, subst, inl, inr, ⊎_elim, arith}
use mathlib.Core.Bool.{◌&&◌}
use Rattle.std.specs.Prelude.{if◌then◌else◌}
use Rattle.std.specs.Option.{option_and_then, option_map, option_map_or, is_none}
use Rattle.std.specs.List.{sum_by}
use Rattle.std.proofs.Math.Seq.{take-suc, drop-cons}
use Rattle.std.proofs.lemmas.Bool.{cases_eq, and_from, lt-ltb, le-ltb, cases_lt, or_left, eq-eqb, true≢false}
use Rattle.std.proofs.lemmas.List.{length-take-le, get_or_at, length-map, length-append, map-append, append_assoc, append-nil, set_at, take-append-drop}
use Rattle.std.proofs.lemmas.List.{take_all, drop_all, length_push}
use Rattle.std.proofs.lemmas.List.Sums.{fold_push, sum_by_push}
use Rattle.m_fixed.specs.declared.amount.Value.TheVariants.{Undef}
use Rattle.m_fixed.specs.declared.operator.Op.{Op}
use Rattle.flat_code.specs.declared.program.Node.{Node}
use Rattle.flat_code.specs.declared.program.Node.TheVariants.{Input, Lit as Number, Do as Work}
use Rattle.flat_code.specs.declared.program.Check.{Check}
use Rattle.flat_code.specs.declared.program.Flat.{Flat}
use Rattle.flat_code.specs.Entries.{node_at}
use Rattle.reg_machine.specs.declared.instr.TheConstants.{REGISTERS}
use Rattle.reg_machine.specs.declared.instr.Instr.{Instr}
use Rattle.reg_machine.specs.declared.instr.Instr.TheVariants.{Store, Load, Check as Test, Output}
use Rattle.reg_machine.specs.declared.wrong.Wrong.TheVariants.{Number as NumberWrong, Order as OrderWrong}
use Rattle.reg_machine.specs.Flow.{Counts, Listing, State, put, start, step, with_node, with_instr, with_slots, has_numbers, moved, reading, wrong_at}
use Rattle.reg_machine.specs.Flow.{wrong_behind, repeats_first, loads_of}
use Rattle.reg_machine.proofs.BuilderLemmas.{reads-on, wrong-is}
use Rattle.register_alloc.specs.declared.moment.TheConstants.{MOST}
use Rattle.register_alloc.specs.declared.sources.Sources.{Sources}
use Rattle.register_alloc.specs.Width.{reads, check_reads, reads_by, tests_by, one_if, width_of, is_held, moment_from}
use Rattle.register_alloc.specs.Allocation.{is_spill, spills_of, IsStoredTo}
use Rattle.register_alloc.specs.inner.Tables.{look, In, is_live, is_busy}
use Rattle.register_alloc.specs.inner.Valid.{IsInput}
use Rattle.register_alloc.specs.inner.Sound.{Once, Few, Sound, Counted, Spells, HasSources, instr_of, Cleared, nodes_read, checks_read, given_before}
use Rattle.register_alloc.specs.inner.Sound.{given_part, count_some, count_given}
use Rattle.register_alloc.proofs.CountLemmas.{places-and, held-width, width-nodes}
use Rattle.register_alloc.proofs.LiveLemmas.{live-parts, live-held, live-read, dies-read, live-checked, dies-checked, live-made, live-still, moment-rises}
use Rattle.register_alloc.proofs.LiveLemmas.{moment-reads}
use Rattle.register_alloc.proofs.TableLemmas.{none≢some, put-same, put-other, put-cases, in-other, look-set, tables-store, tables-write, tables-pass}
use Rattle.register_alloc.proofs.StepLemmas.{Next, reading-push, right-push, loads-read, spills-push, few-push, used-push, used-here, next-store, next-load}
use Rattle.register_alloc.proofs.StepLemmas.{next-node, next-test, next-give, put-suc, spill-node}
use Rattle.register_alloc.proofs.OutputLemmas.{part-at, part-next, part-other, part-this, part-free, length-part, part-none, part-all, count-set, count-gave}
use Rattle.register_alloc.proofs.OutputLemmas.{count-least, given-least, part-least}
use Rattle.register_alloc.proofs.SoundLemmas.{registers-below, held-by, right-next, loads-next, loads-now, sound-store, sound-load, sound-make, sound-pass}
use Rattle.register_alloc.proofs.SoundTests.{sound-test, right-give, loads-give, sound-give, slots-more, slots-grown}

-- `sound-store` by the contract of `occupy`
pub sound-stored : {flat : Flat} {made read checked : ℕ} {given : List (Option ℕ)} {code : Listing} {r : ℕ → Option ℕ} (old new : List (Option ℕ))
    → Sound flat made read checked given code r (look old) (length old) → (k i x : ℕ) → k < length new → look old k ≡ None
    → ((j : ℕ) → look new j ≡ put (look old) k (Some x) j)
    → (length new ≡ length old) ⊎ ((length new ≡ suc (length old)) × ((j : ℕ) → j < length old → is_some (look old j) ≡ true)) → REGISTERS < width_of flat
    → i < REGISTERS → r i ≡ Some x → is_live flat made read checked x ≡ true → ((j : ℕ) → look old j ≡ Some x → ⊥)
    → Sound flat made read checked given (with_instr code (Store k i)) r (look new) (length new)
sound-stored {flat} {made} {read} {checked} {given} {code} {r} old new h k i x lt free same grows crowded below at live away =
    let fits = slots-more old (length new) h x grows live away in
    subst (λ (f : ℕ → Option ℕ). Sound flat made read checked given (with_instr code (Store k i)) r f (length new)) (λ i. λ j. sym (same j) i)
    (sound-store h k i x (length new) free lt fits.0 (slots-grown old (length new) k free lt grows) fits.1 crowded below at live (λ p. away p.place p.is))

pub right-stored : {flat : Flat} {made read checked : ℕ} {given : List (Option ℕ)} {code : Listing} {r : ℕ → Option ℕ} (old : List (Option ℕ)) (size : ℕ)
    → Sound flat made read checked given code r (look old) (length old) → (k i x : ℕ) → k < size
    → (size ≡ length old) ⊎ ((size ≡ suc (length old)) × ((j : ℕ) → j < length old → is_some (look old j) ≡ true)) → i < REGISTERS → r i ≡ Some x
    → is_live flat made read checked x ≡ true → ((j : ℕ) → look old j ≡ Some x → ⊥) → wrong_behind code (Store k i) ≡ None
right-stored {flat} {made} {read} {checked} {given} {code} {r} old size h k i x lt grows below at live away =
    let fits = slots-more old size h x grows live away in
    right-next h size (Store k i) _ fits.0 fits.1 (next-store code size k i x h.spelled.state lt below (held-by h i x at))

pub loads-stored : {flat : Flat} {made read checked : ℕ} {given : List (Option ℕ)} {code : Listing} {r : ℕ → Option ℕ} (old : List (Option ℕ)) (size : ℕ)
    → Sound flat made read checked given code r (look old) (length old) → (k i x : ℕ) → k < size
    → (size ≡ length old) ⊎ ((size ≡ suc (length old)) × ((j : ℕ) → j < length old → is_some (look old j) ≡ true)) → i < REGISTERS → r i ≡ Some x
    → is_live flat made read checked x ≡ true → ((j : ℕ) → look old j ≡ Some x → ⊥) → (y : ℕ) → loads_of y (with_instr code (Store k i)) ≡ loads_of y code
loads-stored {flat} {made} {read} {checked} {given} {code} {r} old size h k i x lt grows below at live away y =
    let fits = slots-more old size h x grows live away in
    loads-next h size (Store k i) _ fits.0 fits.1 (next-store code size k i x h.spelled.state lt below (held-by h i x at)) y ∙ sym (loads-now h y)

-- a slot's number fits in 32 bits
pub slot-small : {flat : Flat} {made read checked : ℕ} {given : List (Option ℕ)} {code : Listing} {r : ℕ → Option ℕ} (old : List (Option ℕ)) (size : ℕ)
    → Sound flat made read checked given code r (look old) (length old) → (x : ℕ)
    → (size ≡ length old) ⊎ ((size ≡ suc (length old)) × ((j : ℕ) → j < length old → is_some (look old j) ≡ true)) → is_live flat made read checked x ≡ true
    → ((j : ℕ) → look old j ≡ Some x → ⊥) → size ≤ 200000000
slot-small {flat} {made} {read} {checked} {given} {code} {r} old size h x grows live away =
    let fits = slots-more old size h x grows live away in
    let most = width-nodes flat in
    let few : length flat.nodes ≤ MOST = h.order.few_nodes in
    omega (arith, fits.1)

-- `sound-load` of lists
pub sound-loaded : {flat : Flat} {made read checked : ℕ} {given : List (Option ℕ)} {code : Listing} {s : ℕ → Option ℕ} {n : ℕ} (table : List (Option ℕ))
    → Sound flat made read checked given code (look table) s n → (k i x : ℕ) → k < REGISTERS → k < length table → s i ≡ Some x
    → ((j : ℕ) → look table j ≡ Some x → ⊥) → ((y : ℕ) → look table k ≡ Some y → is_live flat made read checked y ≡ true → In s y)
    → Sound flat made read checked given (with_instr code (Load k i)) (look (set table k (Some x))) s n
sound-loaded {flat} {made} {read} {checked} {given} {code} {s} {n} table h k i x lt within at away spare =
    subst (λ (f : ℕ → Option ℕ). Sound flat made read checked given (with_instr code (Load k i)) f s n) (look-set table k (Some x) within)
    (sound-load h k i x lt at (λ p. away p.place p.is) spare)

-- `sound-make` of lists
pub sound-made : {flat : Flat} {made read checked : ℕ} {given : List (Option ℕ)} {code : Listing} {s : ℕ → Option ℕ} {n : ℕ} (table : List (Option ℕ))
    → Sound flat made read checked given code (look table) s n → (k : ℕ) (node : Node) (q : Sources) → made < read → node ≡ node_at flat.nodes made
    → k < REGISTERS → k < length table → HasSources (look table) node q → ((y : ℕ) → look table k ≡ Some y → is_live flat made read checked y ≡ true → In s y)
    → Sound flat (suc made) read checked given (with_instr code (instr_of node k q)) (look (set table k (Some made))) s n
sound-made {flat} {made} {read} {checked} {given} {code} {s} {n} table h k node q some is lt within has spare =
    subst (λ (f : ℕ → Option ℕ). Sound flat (suc made) read checked given (with_instr code (instr_of node k q)) f s n) (look-set table k (Some made) within)
    (sound-make h k node q some is lt has spare)

-- `sound-pass` with numbers that are equal
pub sound-passed : {flat : Flat} {made read checked : ℕ} {given : List (Option ℕ)} {code : Listing} {r s : ℕ → Option ℕ} {n : ℕ}
    → Sound flat made read checked given code r s n → (node : Node) (s' : ℕ → Option ℕ) (read' n' : ℕ) → suc read ≡ read' → n ≡ n' → read < length flat.nodes
    → node ≡ node_at flat.nodes read → (checked < length flat.checks → read ≤ moment_from 0 flat.checks checked)
    → Cleared (λ x. reads x node) (is_live flat made read' checked) s s' → Sound flat made read' checked given code r s' n'
sound-passed {flat} {made} {read} {checked} {given} {code} {r} {s} {n} h node s' read' n' e f below is late =
    subst (λ m. Cleared (λ x. reads x node) (is_live flat made m checked) s s' → Sound flat made m checked given code r s' n') e
    (λ clear. subst (λ m. Sound flat made (suc read) checked given code r s' m) f (sound-pass h node s' below is late clear))

-- `sound-test` with numbers that are equal
pub sound-tested : {flat : Flat} {made read checked : ℕ} {given : List (Option ℕ)} {code : Listing} {r s : ℕ → Option ℕ} {n : ℕ}
    → Sound flat made read checked given code r s n → (check : Check) (g k : ℕ) (s' : ℕ → Option ℕ) (checked' n' : ℕ) → suc checked ≡ checked' → n ≡ n'
    → checked < length flat.checks → check ≡ get_or flat.checks checked check → g < REGISTERS → k < REGISTERS → r g ≡ Some check.guard
    → r k ≡ Some check.condition → Cleared (λ x. check_reads x check) (is_live flat made read checked') s s'
    → Sound flat made read checked' given (with_instr code (Test g k check.over_only check.label)) r s' n'
sound-tested {flat} {made} {read} {checked} {given} {code} {r} {s} {n} h check g k s' checked' n' e f below is lt lt' guard condition =
    subst (λ m. Cleared (λ x. check_reads x check) (is_live flat made read m) s s'
    → Sound flat made read m given (with_instr code (Test g k check.over_only check.label)) r s' n') e
    (λ clear. subst (λ m. Sound flat made read (suc checked) given (with_instr code (Test g k check.over_only check.label)) r s' m) f
    (sound-test h check g k s' below is lt lt' guard condition clear))

-- `sound-made` with a number that is equal
pub sound-made-at : {flat : Flat} {made read checked : ℕ} {given : List (Option ℕ)} {code : Listing} {s : ℕ → Option ℕ} {n : ℕ} (table : List (Option ℕ))
    → Sound flat made read checked given code (look table) s n → (made' : ℕ) → suc made ≡ made' → (k : ℕ) (node : Node) (q : Sources) → made < read
    → node ≡ node_at flat.nodes made → k < REGISTERS → k < length table → HasSources (look table) node q
    → ((y : ℕ) → look table k ≡ Some y → is_live flat made read checked y ≡ true → In s y)
    → Sound flat made' read checked given (with_instr code (instr_of node k q)) (look (set table k (Some made))) s n
sound-made-at {flat} {made} {read} {checked} {given} {code} {s} {n} table h made' e k node q some is lt within has spare =
    subst (λ m. Sound flat m read checked given (with_instr code (instr_of node k q)) (look (set table k (Some made))) s n) e
    (sound-made table h k node q some is lt within has spare)

-- if all registers hold live nodes at the next node, the registers are fewer than the width
pub turn-crowded : {flat : Flat} {made read checked : ℕ} {given : List (Option ℕ)} {code : Listing} {r s : ℕ → Option ℕ} {n : ℕ}
    → Sound flat made read checked given code r s n → read ≡ suc made → made < length flat.nodes
    → ((k : ℕ) → k < REGISTERS → is_busy (is_live flat made read checked) (r k) ≡ true) → REGISTERS < width_of flat
turn-crowded {flat} {made} {read} {checked} {given} {code} {r} {s} {n} h e below all =
    let same : made ≡ read - 1 = omega arith in
    let held : is_held flat (read - 1) made ≡ true = or_left (eqb made (read - 1)) _ (eq-eqb made (read - 1) same) in
    registers-below h made (omega arith) below held (λ p. let lt : made < made = h.tables.earlier p.place made p.is in absurd (omega arith)) all

-- the reads of one more node
pub reads-more : (flat : Flat) (made : ℕ) (node : Node) → made < length flat.nodes → node ≡ node_at flat.nodes made → (y : ℕ)
    → nodes_read flat (suc made) y ≡ nodes_read flat made y + reads_by y node
reads-more flat made node below is y =
    ap (sum_by (reads_by y)) (take-suc flat.nodes made (Number Undef) below) ∙ sum_by_push (reads_by y) (take made flat.nodes) (node_at flat.nodes made)
    ∙ ap (λ x. nodes_read flat made y + reads_by y x) (sym is)

-- the reads of one more check
pub tests-more : (flat : Flat) (checked : ℕ) (check : Check) → checked < length flat.checks → check ≡ get_or flat.checks checked check → (y : ℕ)
    → checks_read flat (suc checked) y ≡ checks_read flat checked y + tests_by y check
tests-more flat checked check below is y =
    ap (sum_by (tests_by y)) (take-suc flat.checks checked check below) ∙ sum_by_push (tests_by y) (take checked flat.checks) (get_or flat.checks checked check)
    ∙ ap (λ x. checks_read flat checked y + tests_by y x) (sym is)

-- the next check isn't ready
pub settled-from : (flat : Flat) (made checked : ℕ) (check : Check) → check ≡ get_or flat.checks checked check → made ≤ max check.guard check.condition
    → checked < length flat.checks → made ≤ moment_from 0 flat.checks checked
settled-from flat made checked check is le lt =
    let guard : check.guard ≡ (get_or flat.checks checked check).guard = ap (λ (c : Check). c.guard) is in
    let condition : check.condition ≡ (get_or flat.checks checked check).condition = ap (λ (c : Check). c.condition) is in
    omega (arith, moment-reads 0 flat.checks checked check lt)

-- an output is set, or isn't of this node
pub sound-gave : {flat : Flat} {made read checked : ℕ} {code : Listing} {r s : ℕ → Option ℕ} {n : ℕ} (p j : ℕ)
    → Sound flat made read checked (given_part p j flat.outputs) code r s n → (j' k : ℕ) → suc j ≡ j' → j < length flat.outputs → k < REGISTERS → r k ≡ Some p
    → get_or flat.outputs j 0 ≡ p → Sound flat made read checked (given_part p j' flat.outputs) (with_instr code (Output j k)) r s n
sound-gave {flat} {made} {read} {checked} {code} {r} {s} {n} p j h j' k e lt lt' at is =
    subst (λ (given : List (Option ℕ)). Sound flat made read checked given (with_instr code (Output j k)) r s n)
    (part-this p j flat.outputs lt is ∙ ap (λ m. given_part p m flat.outputs) e)
    (sound-give h j k p lt lt' (part-free p j flat.outputs lt is) at)

pub right-gave : {flat : Flat} {made read checked : ℕ} {code : Listing} {r s : ℕ → Option ℕ} {n : ℕ} (p j : ℕ)
    → Sound flat made read checked (given_part p j flat.outputs) code r s n → (k : ℕ) → j < length flat.outputs → k < REGISTERS → r k ≡ Some p
    → get_or flat.outputs j 0 ≡ p → wrong_behind code (Output j k) ≡ None
right-gave {flat} p j h k lt lt' at is = right-give h j k p lt lt' (part-free p j flat.outputs lt is) at

pub loads-gave : {flat : Flat} {made read checked : ℕ} {code : Listing} {r s : ℕ → Option ℕ} {n : ℕ} (p j : ℕ)
    → Sound flat made read checked (given_part p j flat.outputs) code r s n → (k : ℕ) → j < length flat.outputs → k < REGISTERS → r k ≡ Some p
    → get_or flat.outputs j 0 ≡ p → (y : ℕ) → loads_of y (with_instr code (Output j k)) ≡ loads_of y code
loads-gave {flat} p j h k lt lt' at is y = loads-give h j k p lt lt' (part-free p j flat.outputs lt is) at y

-- the number of slots fits in 32 bits
pub slots-small : {flat : Flat} {made read checked : ℕ} {given : List (Option ℕ)} {code : Listing} {r s : ℕ → Option ℕ} {n : ℕ}
    → Sound flat made read checked given code r s n → n ≤ 200000000
slots-small {flat} {made} {read} {checked} {given} {code} {r} {s} {n} h =
    let within : n ≤ width_of flat = h.few.within in
    let few : length flat.nodes ≤ MOST = h.order.few_nodes in
    omega (arith, width-nodes flat)

-- there is room for the instructions of one more node, and of one more check
pub turn-room : {flat : Flat} {made read checked : ℕ} {given : List (Option ℕ)} {code : Listing} {r s : ℕ → Option ℕ} {n : ℕ}
    → Sound flat made read checked given code r s n → length code.instrs ≤ 8 * made + 5 * checked + count_given made flat.outputs
    → length code.instrs + 8 + length flat.outputs < 4294967295
turn-room {flat} {made} {read} {checked} {given} {code} {r} {s} {n} h short =
    let nodes : length flat.nodes ≤ MOST = h.order.few_nodes in
    let checks : length flat.checks ≤ MOST = h.order.few_checks in
    let outputs : length flat.outputs ≤ MOST = h.order.few_outputs in
    let a : made ≤ read = h.order.made_read in
    let b : read ≤ length flat.nodes = h.order.read_within in
    let d : checked ≤ length flat.checks = h.order.checked_within in
    omega (arith, given-least made flat.outputs)
