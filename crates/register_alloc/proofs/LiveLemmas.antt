-- Live nodes, from one moment to the next.
use Rattle.std.proofs.Common.{◌≡◌, ◌≢◌, ℕ, zero, suc, ◌-◌, ◌<◌, ◌≤◌, Bool, true, eqb, ltb, leb, max, ◌⊎◌, List, [], ◌∷◌, length, drop, get_or, ap, sym, ◌∙◌}
use Rattle.std.proofs.Common.{subst, inl, inr, ⊎_elim, arith, drop-cons}
use mathlib.Core.Bool.{◌&&◌, ◌||◌}
use Rattle.std.specs.List.{list_any}
use Rattle.std.proofs.lemmas.Bool.{cases_eq, ltb-true, lt-ltb, le-leb, eq-eqb, and_from, and_parts, or_cases, or_left, or_right}
use Rattle.flat_code.specs.declared.program.Node.{Node}
use Rattle.flat_code.specs.declared.program.Check.{Check}
use Rattle.flat_code.specs.declared.program.Flat.{Flat}
use Rattle.register_alloc.specs.Width.{reads, check_reads, later, moment_from, read_late, is_held}
use Rattle.register_alloc.specs.inner.Tables.{is_live}
use Rattle.register_alloc.specs.inner.Sound.{Order}

-- whether an item from place p on reads x
any-drop : {X : Type 0} (f : X → Bool) (xs : List X) (p : ℕ) (d : X) → p < length xs
    → list_any f (drop p xs) ≡ (f (get_or xs p d) || list_any f (drop (suc p) xs))
any-drop f xs p d lt = ap (list_any f) (drop-cons xs p d lt)

-- what is live is made, and read by a node or a check to come
pub live-parts : (flat : Flat) (made read checked x : ℕ) → is_live flat made read checked x ≡ true
    → (x < made) × ((list_any (reads x) (drop read flat.nodes) ≡ true) ⊎ (list_any (check_reads x) (drop checked flat.checks) ≡ true))
live-parts flat made read checked x live =
    let h = and_parts (ltb x made) (list_any (reads x) (drop read flat.nodes) || list_any (check_reads x) (drop checked flat.checks)) live in
    (ltb-true x made h.0, or_cases (list_any (reads x) (drop read flat.nodes)) (list_any (check_reads x) (drop checked flat.checks)) h.1)

pub live-by_node : (flat : Flat) (made read checked x : ℕ) → x < made → list_any (reads x) (drop read flat.nodes) ≡ true
    → is_live flat made read checked x ≡ true
live-by_node flat made read checked x lt e =
    and_from (ltb x made) _ (lt-ltb x made lt) (or_left (list_any (reads x) (drop read flat.nodes)) (list_any (check_reads x) (drop checked flat.checks)) e)

pub live-by_check : (flat : Flat) (made read checked x : ℕ) → x < made → list_any (check_reads x) (drop checked flat.checks) ≡ true
    → is_live flat made read checked x ≡ true
live-by_check flat made read checked x lt e =
    and_from (ltb x made) _ (lt-ltb x made lt) (or_right (list_any (reads x) (drop read flat.nodes)) (list_any (check_reads x) (drop checked flat.checks)) e)

-- the arguments of the next node are live
pub live-argument : (flat : Flat) (made read checked x : ℕ) (node : Node) → x < made → read < length flat.nodes → reads x (get_or flat.nodes read node) ≡ true
    → is_live flat made read checked x ≡ true
live-argument flat made read checked x node lt within e =
    live-by_node flat made read checked x lt (any-drop (reads x) flat.nodes read node within
    ∙ or_left (reads x (get_or flat.nodes read node)) (list_any (reads x) (drop (suc read) flat.nodes)) e)

-- the guard and the condition of the next check are live
pub live-guard : (flat : Flat) (made read checked x : ℕ) (check : Check) → x < made → checked < length flat.checks
    → check_reads x (get_or flat.checks checked check) ≡ true → is_live flat made read checked x ≡ true
live-guard flat made read checked x check lt within e =
    live-by_check flat made read checked x lt (any-drop (check_reads x) flat.checks checked check within
    ∙ or_left (check_reads x (get_or flat.checks checked check)) (list_any (check_reads x) (drop (suc checked) flat.checks)) e)

-- a node that is live after a node has read its arguments was live before
pub live-read : (flat : Flat) (made read checked x : ℕ) (node : Node) → read < length flat.nodes → is_live flat made (suc read) checked x ≡ true
    → is_live flat made read checked x ≡ true
live-read flat made read checked x node within live =
    let h = live-parts flat made (suc read) checked x live in
    ⊎_elim
    (λ e. live-by_node flat made read checked x h.0 (any-drop (reads x) flat.nodes read node within
    ∙ or_right (reads x (get_or flat.nodes read node)) (list_any (reads x) (drop (suc read) flat.nodes)) e))
    (λ e. live-by_check flat made read checked x h.0 e)
    h.1

-- a node that is no longer live was read by that node
pub dies-read : (flat : Flat) (made read checked x : ℕ) (node : Node) → read < length flat.nodes → is_live flat made read checked x ≡ true
    → (reads x (get_or flat.nodes read node) ≡ true) ⊎ (is_live flat made (suc read) checked x ≡ true)
dies-read flat made read checked x node within live =
    let h = live-parts flat made read checked x live in
    ⊎_elim
    (λ e. ⊎_elim
    (λ here. inl here)
    (λ there. inr (live-by_node flat made (suc read) checked x h.0 there))
    (or_cases (reads x (get_or flat.nodes read node)) (list_any (reads x) (drop (suc read) flat.nodes)) (sym (any-drop (reads x) flat.nodes read node within)
    ∙ e)))
    (λ e. inr (live-by_check flat made (suc read) checked x h.0 e))
    h.1

-- the same for a check
pub live-checked : (flat : Flat) (made read checked x : ℕ) (check : Check) → checked < length flat.checks → is_live flat made read (suc checked) x ≡ true
    → is_live flat made read checked x ≡ true
live-checked flat made read checked x check within live =
    let h = live-parts flat made read (suc checked) x live in
    ⊎_elim
    (λ e. live-by_node flat made read checked x h.0 e)
    (λ e. live-by_check flat made read checked x h.0 (any-drop (check_reads x) flat.checks checked check within
    ∙ or_right (check_reads x (get_or flat.checks checked check)) (list_any (check_reads x) (drop (suc checked) flat.checks)) e))
    h.1

pub dies-checked : (flat : Flat) (made read checked x : ℕ) (check : Check) → checked < length flat.checks → is_live flat made read checked x ≡ true
    → (check_reads x (get_or flat.checks checked check) ≡ true) ⊎ (is_live flat made read (suc checked) x ≡ true)
dies-checked flat made read checked x check within live =
    let h = live-parts flat made read checked x live in
    ⊎_elim
    (λ e. inr (live-by_node flat made read (suc checked) x h.0 e))
    (λ e. ⊎_elim
    (λ here. inl here)
    (λ there. inr (live-by_check flat made read (suc checked) x h.0 there))
    (or_cases (check_reads x (get_or flat.checks checked check)) (list_any (check_reads x) (drop (suc checked) flat.checks))
    (sym (any-drop (check_reads x) flat.checks checked check within) ∙ e)))
    h.1

-- one more node is made: it may be live, and the other live nodes are those before
pub live-made : (flat : Flat) (made read checked x : ℕ) → is_live flat (suc made) read checked x ≡ true → (x ≡ made) ⊎ (is_live flat made read checked x ≡ true)
live-made flat made read checked x live =
    let h = live-parts flat (suc made) read checked x live in
    ⊎_elim
    (λ e. inl e)
    (λ ne. inr (let lt : x < made = omega arith in ⊎_elim (λ e. live-by_node flat made read checked x lt e) (λ e. live-by_check flat made read checked x lt e)
    h.1))
    (cases_eq x made)

pub live-still : (flat : Flat) (made read checked x : ℕ) → is_live flat made read checked x ≡ true → is_live flat (suc made) read checked x ≡ true
live-still flat made read checked x live =
    let h = live-parts flat made read checked x live in
    let lt : x < suc made = omega arith in
    ⊎_elim (λ e. live-by_node flat (suc made) read checked x lt e) (λ e. live-by_check flat (suc made) read checked x lt e) h.1

-- moments never decrease
moment-least : (m : ℕ) (checks : List Check) (j : ℕ) → m ≤ moment_from m checks j
moment-least m [] j = omega arith
moment-least m (check ∷ checks) zero = omega arith
moment-least m (check ∷ checks) (suc j) = omega (arith, moment-least (later m check) checks j)

pub moment-rises : (m : ℕ) (checks : List Check) (j : ℕ) → moment_from m checks j ≤ moment_from m checks (suc j)
moment-rises m [] j = omega arith
moment-rises m (check ∷ checks) zero = moment-least (later m check) checks zero
moment-rises m (check ∷ checks) (suc j) = moment-rises (later m check) checks j

-- the moment of a check is at least the nodes that it reads
pub moment-reads : (m : ℕ) (checks : List Check) (j : ℕ) (check : Check) → j < length checks
    → max (get_or checks j check).guard (get_or checks j check).condition ≤ moment_from m checks j
moment-reads m [] j check lt = absurd (omega arith)
moment-reads m (check' ∷ checks) zero check lt = omega arith
moment-reads m (check' ∷ checks) (suc j) check lt = moment-reads (later m check') checks j check (omega arith)

late-all : (p x m : ℕ) (checks : List Check) → p ≤ m → list_any (check_reads x) checks ≡ true → read_late p x m checks ≡ true
late-all p x m [] le e = e
late-all p x m (check ∷ checks) le e =
    let le' : p ≤ later m check = omega arith in
    ⊎_elim
    (λ here. or_left (leb p (later m check) && check_reads x check) (read_late p x (later m check) checks)
    (and_from (leb p (later m check)) (check_reads x check) (le-leb p (later m check) le') here))
    (λ there. or_right (leb p (later m check) && check_reads x check) (read_late p x (later m check) checks) (late-all p x (later m check) checks le' there))
    (or_cases (check_reads x check) (list_any (check_reads x) checks) e)

-- a node that a check from j on reads is read late if the moment of check j is late
late-drop : (p x m : ℕ) (checks : List Check) (j : ℕ) → (j < length checks → p ≤ moment_from m checks j) → list_any (check_reads x) (drop j checks) ≡ true
    → read_late p x m checks ≡ true
late-drop p x m [] zero late e = e
late-drop p x m [] (suc j) late e = e
late-drop p x m (check ∷ checks) zero late e =
    let le' : p ≤ later m check = late (omega arith) in
    ⊎_elim
    (λ here. or_left (leb p (later m check) && check_reads x check) (read_late p x (later m check) checks)
    (and_from (leb p (later m check)) (check_reads x check) (le-leb p (later m check) le') here))
    (λ there. or_right (leb p (later m check) && check_reads x check) (read_late p x (later m check) checks) (late-all p x (later m check) checks le' there))
    (or_cases (check_reads x check) (list_any (check_reads x) checks) e)
late-drop p x m (check ∷ checks) (suc j) late e =
    or_right (leb p (later m check) && check_reads x check) (read_late p x (later m check) checks)
    (late-drop p x (later m check) checks j (λ lt. late (omega arith)) e)

held-from : (flat : Flat) (q x : ℕ) → x ≤ q → (list_any (reads x) (drop (suc q) flat.nodes) ≡ true) ⊎ (read_late q x 0 flat.checks ≡ true)
    → is_held flat q x ≡ true
held-from flat q x le h =
    let rest = list_any (reads x) (drop (suc q) flat.nodes) || read_late q x 0 flat.checks in
    ⊎_elim
    (λ (e : x ≡ q). or_left (eqb x q) (ltb x q && rest) (eq-eqb x q e))
    (λ (ne : x ≢ q). let lt : x < q = omega arith in
    or_right (eqb x q) (ltb x q && rest) (and_from (ltb x q) rest (lt-ltb x q lt)
    (⊎_elim (λ e. or_left (list_any (reads x) (drop (suc q) flat.nodes)) (read_late q x 0 flat.checks) e)
    (λ e. or_right (list_any (reads x) (drop (suc q) flat.nodes)) (read_late q x 0 flat.checks) e) h)))
    (cases_eq x q)

-- A live node is held at the last node that has read its arguments.
pub live-held : (flat : Flat) (made read checked x : ℕ) → Order flat made read checked → is_live flat made read checked x ≡ true
    → is_held flat (read - 1) x ≡ true
live-held flat made zero checked x order live =
    let h = live-parts flat made zero checked x live in
    let none : made ≤ zero = order.made_read in
    absurd (omega arith)
live-held flat made (suc q) checked x order live =
    let h = live-parts flat made (suc q) checked x live in
    let same : suc q - 1 ≡ q = omega arith in
    let most : made ≤ suc q = order.made_read in
    let le : x ≤ q = omega arith in
    let late : checked < length flat.checks → q ≤ moment_from 0 flat.checks checked = λ lt. omega (arith, order.late lt) in
    subst (λ p. is_held flat p x ≡ true) (sym same)
    (held-from flat q x le (⊎_elim (λ e. inl e) (λ e. inr (late-drop q x 0 flat.checks checked late e)) h.1))
