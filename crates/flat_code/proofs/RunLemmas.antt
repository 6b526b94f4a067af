-- Runs, from one node, check or output to the next.
use Rattle.std.proofs.Common.{◌≡◌, ℕ, zero, suc, ◌+◌, ◌<◌, length, get_or, take, drop, List, [], ◌∷◌, ◌++◌, Option, None, Some, sym, ◌∙◌, ap, subst, arith}
use Rattle.std.proofs.Common.{length-append}
use Rattle.std.specs.Prelude.{fold, map, slice_get}
use Rattle.std.specs.List.{AllByRecursion}
use Rattle.std.specs.Option.{option_or, option_map_or}
use Rattle.std.proofs.lemmas.List.{take_more, drop_more, map-append}
use Rattle.std.proofs.lemmas.List.Sums.{fold-append}
use Rattle.std.proofs.lemmas.Option.{get_or_from_slice_get, slice_get-get_or}
use Rattle.m_fixed.specs.declared.amount.Value.{Value}
use Rattle.m_fixed.specs.declared.amount.Value.TheVariants.{Undef}
use Rattle.observables.specs.declared.answer.Stop.{Stop}
use Rattle.observables.specs.declared.answer.Answer.TheVariants.{Values, Stopped}
use Rattle.flat_code.specs.declared.program.Flat.{Flat}
use Rattle.flat_code.specs.declared.program.Node.{Node}
use Rattle.flat_code.specs.declared.program.Check.{Check}
use Rattle.flat_code.specs.Runs.{Reading, IsNode, AreNodes, entry_of, entries_of, values_for, node_values, value_at, check_stop, first_stop, flat_run}

-- one node more
pub entries_next : {X : Type 0} (reading : Reading X) (nodes : List Node) (i : ℕ) (node : Node) (entries : List X) → i < length nodes
    → node ≡ get_or nodes i node → entries ≡ entries_of reading (take i nodes)
    → entries_of reading (take (i + 1) nodes) ≡ entries ++ entry_of reading entries node ∷ []
entries_next reading nodes i node entries h is before =
    ap (entries_of reading) (take_more nodes i node h)
    ∙ fold-append (λ es n. es ++ entry_of reading es n ∷ []) [] (take i nodes) (get_or nodes i node ∷ [])
    ∙ ap (λ es. es ++ entry_of reading es (get_or nodes i node) ∷ []) (sym before)
    ∙ ap (λ n. entries ++ entry_of reading entries n ∷ []) (sym is)

-- if a check doesn't stop, the later checks decide
pub first_next : (vs : List Value) (checks : List Check) (i : ℕ) (check : Check) (found : Option Stop) → i < length checks → check ≡ get_or checks i check
    → found ≡ check_stop vs check → first_stop vs (drop i checks) ≡ option_or found (first_stop vs (drop (i + 1) checks))
first_next vs checks i check found h is stop =
    ap (first_stop vs) (drop_more checks i check h)
    ∙ ap (λ c. option_or (check_stop vs c) (first_stop vs (drop (i + 1) checks))) (sym is)
    ∙ ap (λ s. option_or s (first_stop vs (drop (i + 1) checks))) (sym stop)

-- as many entries as nodes
length-fold : {X : Type 0} (reading : Reading X) (nodes : List Node) (entries : List X)
    → length (fold (λ es n. es ++ entry_of reading es n ∷ []) entries nodes) ≡ length entries + length nodes
length-fold reading [] entries = omega arith
length-fold reading (node ∷ nodes) entries =
    let behind = length-fold reading nodes (entries ++ entry_of reading entries node ∷ []) in
    omega (arith, behind, length-append entries (entry_of reading entries node ∷ []))

pub length-node_values : (inputs : List Value) (nodes : List Node) → length (node_values inputs nodes) ≡ length nodes
length-node_values inputs nodes = let all = length-fold (values_for inputs) nodes [] in omega (arith, all)

-- within a list the default for places past its end doesn't matter
same_read : (vs : List Value) (k : ℕ) (d e : Value) → k < length vs → get_or vs k d ≡ get_or vs k e
same_read vs k d e h = get_or_from_slice_get vs k (get_or vs k e) d (slice_get-get_or vs k e h)

-- one output more
pub outputs_next : (vs : List Value) (outputs : List ℕ) (i : ℕ) (value : Value) (given new : List Value) → i < length outputs
    → get_or outputs i 0 < length vs → value ≡ get_or vs (get_or outputs i 0) value → given ≡ map (value_at vs) (take i outputs)
    → new ≡ given ++ value ∷ [] → new ≡ map (value_at vs) (take (i + 1) outputs)
outputs_next vs outputs i value given new h within is before more =
    more ∙ ap (λ values. values ++ value ∷ []) before
    ∙ ap (λ v. map (value_at vs) (take i outputs) ++ v ∷ []) (is ∙ same_read vs (get_or outputs i 0) value Undef within)
    ∙ sym (map-append (value_at vs) (take i outputs) (get_or outputs i 0 ∷ [])) ∙ ap (map (value_at vs)) (sym (take_more outputs i 0 h))

-- a run that a check stops, and one that none stops
pub run_stops : (flat : Flat) (inputs vs : List Value) (stop : Stop) → vs ≡ node_values inputs flat.nodes → Some stop ≡ first_stop vs flat.checks
    → Stopped stop ≡ flat_run flat inputs
run_stops flat inputs vs stop held stops =
    ap (λ found. option_map_or Stopped found (Values (map (value_at (node_values inputs flat.nodes)) flat.outputs)))
    (stops ∙ ap (λ values. first_stop values flat.checks) held)

pub run_ends : (flat : Flat) (inputs vs given : List Value) → vs ≡ node_values inputs flat.nodes → None ≡ first_stop vs flat.checks
    → given ≡ map (value_at vs) flat.outputs → Values given ≡ flat_run flat inputs
run_ends flat inputs vs given held stops outputs =
    ap Values (outputs ∙ ap (λ values. map (value_at values) flat.outputs) held)
    ∙ ap (λ found. option_map_or Stopped found (Values (map (value_at (node_values inputs flat.nodes)) flat.outputs)))
    (stops ∙ ap (λ values. first_stop values flat.checks) held)

-- what holds of all elements holds of the one at a place
pub node_at : (inputs j : ℕ) (nodes : List Node) (k : ℕ) (node : Node) → AreNodes inputs j nodes → slice_get nodes k ≡ Some node → IsNode inputs (j + k) node
node_at inputs j [] k node all is = absurd (cc is)
node_at inputs j (n ∷ nodes) zero node all is =
    let same : n ≡ node = cc is in
    let here : j ≡ j + 0 = omega arith in
    subst (λ m. IsNode inputs (j + 0) m) same (subst (λ i. IsNode inputs i n) here all.0)
node_at inputs j (n ∷ nodes) (suc k) node all is =
    let there : (j + 1) + k ≡ j + suc k = omega arith in
    subst (λ i. IsNode inputs i node) there (node_at inputs (j + 1) nodes k node all.1 is)

pub one_of_all : {X : Type 0} (P : X → Type 0) (xs : List X) (k : ℕ) (x : X) → AllByRecursion P xs → slice_get xs k ≡ Some x → P x
one_of_all P [] k x all is = absurd (cc is)
one_of_all P (y ∷ xs) zero x all is = let same : y ≡ x = cc is in subst P same all.0
one_of_all P (y ∷ xs) (suc k) x all is = one_of_all P xs k x all.1 is
