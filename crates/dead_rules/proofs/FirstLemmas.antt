-- Duplicate checks: only the first of equal checks is kept.
use Rattle.std.proofs.Common.{◌≡◌, ℕ, suc, zero, ◌+◌, ◌<◌, ◌≤◌, Bool, true, false, List, [], ◌∷◌, ◌++◌, length, map, refl, ap, sym, ◌∙◌, subst, inl, inr}
use Rattle.std.proofs.Common.{⊎_elim, arith}
use Rattle.std.specs.Prelude.{Option, Some, None}
use Rattle.std.specs.Option.{option_or, option_map_or}
use Rattle.std.proofs.lemmas.Bool.{cases_lt}
use Rattle.std.proofs.lemmas.List.{get_or_append_left, get_or_push, length_push, length-map, get_or-map}
use Rattle.std.proofs.lemmas.Option.{slice_get-get_or}
use Rattle.m_fixed.specs.declared.amount.Value.{Value}
use Rattle.m_fixed.specs.declared.amount.Value.TheVariants.{Undef}
use Rattle.m_fixed.specs.declared.operator.Op.{Op}
use Rattle.m_fixed.specs.declared.operator.Op.TheVariants.{And}
use Rattle.observables.specs.declared.answer.Answer.TheVariants.{Values, Stopped}
use Rattle.observables.specs.declared.answer.Stop.{Stop}
use Rattle.flat_code.specs.declared.program.Node.{Node}
use Rattle.flat_code.specs.declared.program.Node.TheVariants.{Input, Lit, Do}
use Rattle.flat_code.specs.declared.program.Check.{Check}
use Rattle.flat_code.specs.declared.program.Flat.{Flat}
use Rattle.flat_code.specs.Runs.{node_values, value_at, check_stop, first_stop, IsCheck, IsFlat}
use Rattle.flat_code.specs.Entries.{node_at}
use Rattle.flat_code.specs.Tidy.{ReadsCheck, IsRoot, IsReached, root, argument, IsTidy, check_at}
use Rattle.flat_code.specs.Passes.{Becomes}
use Rattle.flat_code.proofs.RunLemmas.{one_of_all}
use Rattle.common_terms.specs.Numbers.{IsEntered}
use Rattle.dead_rules.specs.inner.Firsts.{kind_op, check_node, IsTaken, there, added, AreFirsts, IsPruned, with_checks}
use Rattle.dead_rules.proofs.MoveLemmas.{all-from}

-- ---- checks as nodes

abbrev is-and : Op → Bool
is-and And = true
is-and _ = false

abbrev no-check : Check
no-check = record { guard = 0; condition = 0; over_only = false; label = 0 }

abbrev check-of : Node → Check
check-of (Do op a b c) = record { guard = a; condition = b; over_only = is-and op; label = c }
check-of (Input n) = no-check
check-of (Lit v) = no-check

of-parts : (g d : ℕ) (b : Bool) (l : ℕ) → check-of (Do (kind_op b) g d l) ≡ record { guard = g; condition = d; over_only = b; label = l }
of-parts g d true l = refl
of-parts g d false l = refl

check-back : (c : Check) → check-of (check_node c) ≡ c
check-back c = of-parts c.guard c.condition c.over_only c.label

same-check : (c d : Check) → check_node c ≡ check_node d → c ≡ d
same-check c d e = sym (check-back c) ∙ ap check-of e ∙ check-back d

node-of : (checks : List Check) (j : ℕ) → j < length checks → node_at (map check_node checks) j ≡ check_node (check_at checks j)
node-of checks j lt = get_or-map check_node checks j no-check (Lit Undef) lt

-- ---- a check is taken

pub taken-there : (table : List Node) (old : List Check) (check : Check) (new : List Node) (number : ℕ) → table ≡ map check_node old
    → IsEntered table new (check_node check) number → (number ≡ length table → ⊥)
    → (new ≡ table) × IsTaken old old check
taken-there table old check new number e entered other =
    let size : length table ≡ length old = ap length e ∙ length-map old check_node in
    ⊎_elim
    (λ (same : new ≡ table).
    let size' : length new ≡ length table = ap length same in
    let lt : number < length new = entered.within in
    let k : number < length old = omega arith in
    let is : check_node (check_at old number) ≡ check_node check = sym (node-of old number k) ∙ sym (ap (λ ns. node_at ns number) (same ∙ e)) ∙ entered.is in
    (same, there number k (same-check (check_at old number) check is) refl))
    (λ more.
    let size' : length new ≡ length table + 1 = ap length more.0 ∙ length_push table (check_node check) in
    let lt : number < length new = entered.within in
    ⊎_elim
    (λ (k : number < length table). absurd (more.1 number k (sym (get_or_append_left table (check_node check ∷ []) (Lit Undef) number k)
    ∙ sym (ap (λ ns. node_at ns number) more.0) ∙ entered.is)))
    (λ (g : length table ≤ number). absurd (other (omega arith)))
    (cases_lt number (length table)))
    entered.adds

pub taken-added : (table : List Node) (old : List Check) (check : Check) (new : List Node) (number : ℕ) → table ≡ map check_node old
    → IsEntered table new (check_node check) number → number ≡ length table
    → (new ≡ map check_node (old ++ check ∷ [])) × IsTaken old (old ++ check ∷ []) check
taken-added table old check new number e entered last =
    let size : length table ≡ length old = ap length e ∙ length-map old check_node in
    ⊎_elim
    (λ (same : new ≡ table). let size' : length new ≡ length table = ap length same in let lt : number < length new = entered.within in absurd (omega arith))
    (λ more. (
      more.0 ∙ ap (λ ns. ns ++ check_node check ∷ []) e ∙ sym (map-push old check),
      added (λ j lt same. more.1 j (omega arith) (ap (λ ns. node_at ns j) e ∙ node-of old j lt ∙ ap check_node same)) refl,
    ))
    entered.adds
  where
    map-push : (xs : List Check) (c : Check) → map check_node (xs ++ c ∷ []) ≡ map check_node xs ++ check_node c ∷ []
    map-push [] c = refl
    map-push (x ∷ xs) c = ap (λ ns. check_node x ∷ ns) (map-push xs c)

-- ---- the first stop

or-none : (a : Option Stop) → option_or a None ≡ a
or-none (Some s) = refl
or-none None = refl

or-three : (a b c : Option Stop) → option_or (option_or a b) c ≡ option_or a (option_or b c)
or-three (Some s) b c = refl
or-three None b c = refl

or-twice : (a b : Option Stop) → option_or (option_or a b) a ≡ option_or a b
or-twice (Some s) b = refl
or-twice None (Some s) = refl
or-twice None None = refl

stop-push : (vs : List Value) (checks : List Check) (c : Check) → first_stop vs (checks ++ c ∷ []) ≡ option_or (first_stop vs checks) (check_stop vs c)
stop-push vs [] c = or-none (check_stop vs c)
stop-push vs (x ∷ checks) c = ap (option_or (check_stop vs x)) (stop-push vs checks c)
    ∙ sym (or-three (check_stop vs x) (first_stop vs checks) (check_stop vs c))

stop-again : (vs : List Value) (checks : List Check) (j : ℕ) → j < length checks
    → option_or (first_stop vs checks) (check_stop vs (check_at checks j)) ≡ first_stop vs checks
stop-again vs [] j lt = absurd (omega arith)
stop-again vs (x ∷ checks) zero lt = or-twice (check_stop vs x) (first_stop vs checks)
stop-again vs (x ∷ checks) (suc j) lt =
    or-three (check_stop vs x) (first_stop vs checks) (check_stop vs (check_at checks j))
    ∙ ap (option_or (check_stop vs x)) (stop-again vs checks j (omega arith))

-- ---- the loop

pub firsts-start : AreFirsts [] []
firsts-start = record {
  unlike = λ i j lt lt' e. absurd (omega arith);
  few = omega arith;
  from = λ j lt. absurd (omega arith);
  all = λ i lt. absurd (omega arith);
  stop = λ vs. refl;
}

at-left : (checks : List Check) (c : Check) (j : ℕ) → j < length checks → check_at (checks ++ c ∷ []) j ≡ check_at checks j
at-left checks c j lt = get_or_append_left checks (c ∷ []) no-check j lt

at-last : (checks : List Check) (c : Check) (j : ℕ) → length checks ≡ j → check_at (checks ++ c ∷ []) j ≡ c
at-last checks c j e = get_or_push checks c no-check j e

with-there : (old new : List Check) (c : Check) (k : ℕ) → k < length new → check_at new k ≡ c → AreFirsts old new → AreFirsts (old ++ c ∷ []) new
with-there old new c k lt is h =
    let size : length (old ++ c ∷ []) ≡ length old + 1 = length_push old c in
    let few : length new ≤ length old = h.few in
    record {
      unlike = h.unlike;
      few = omega arith;
      from = λ j l. let f = h.from j l in let g : f.0 < length old = f.1 in (f.0, omega arith, f.2 ∙ sym (at-left old c f.0 g));
      all = λ i l. ⊎_elim
          (λ (m : i < length old). let f = h.all i m in (f.0, f.1, f.2 ∙ sym (at-left old c i m)))
          (λ (g : length old ≤ i). (k, lt, is ∙ sym (at-last old c i (omega arith))))
          (cases_lt i (length old));
      stop = λ vs. sym (stop-push vs old c ∙ ap (λ s. option_or s (check_stop vs c)) (sym (h.stop vs))
          ∙ ap (λ d. option_or (first_stop vs new) (check_stop vs d)) (sym is) ∙ stop-again vs new k lt);
    }

with-added : (old new : List Check) (c : Check) → ((j : ℕ) → j < length new → check_at new j ≡ c → ⊥) → AreFirsts old new
    → AreFirsts (old ++ c ∷ []) (new ++ c ∷ [])
with-added old new c absent h =
    let size : length (old ++ c ∷ []) ≡ length old + 1 = length_push old c in
    let size' : length (new ++ c ∷ []) ≡ length new + 1 = length_push new c in
    let few : length new ≤ length old = h.few in
    record {
      unlike = λ i j lt lt' e. ⊎_elim
          (λ (l : i < length new). ⊎_elim
          (λ (m : j < length new). h.unlike i j l m (sym (at-left new c i l) ∙ e ∙ at-left new c j m))
          (λ (g : length new ≤ j). absurd (absent i l (sym (at-left new c i l) ∙ e ∙ at-last new c j (omega arith))))
          (cases_lt j (length new)))
          (λ (f : length new ≤ i). ⊎_elim
          (λ (m : j < length new). absurd (absent j m (sym (at-left new c j m) ∙ sym e ∙ at-last new c i (omega arith))))
          (λ (g : length new ≤ j). omega arith)
          (cases_lt j (length new)))
          (cases_lt i (length new));
      few = omega arith;
      from = λ j l. ⊎_elim
          (λ (m : j < length new). let f = h.from j m in let g : f.0 < length old = f.1 in (
            f.0,
            omega arith,
            at-left new c j m ∙ f.2
                ∙ sym (at-left old c f.0 g),
          ))
          (λ (g : length new ≤ j). (length old, omega arith, at-last new c j (omega arith) ∙ sym (at-last old c (length old) refl)))
          (cases_lt j (length new));
      all = λ i l. ⊎_elim
          (λ (m : i < length old). let f = h.all i m in let g : f.0 < length new = f.1 in (
            f.0,
            omega arith,
            at-left new c f.0 g ∙ f.2
                ∙ sym (at-left old c i m),
          ))
          (λ (g : length old ≤ i). (length new, omega arith, at-last new c (length new) refl ∙ sym (at-last old c i (omega arith))))
          (cases_lt i (length old));
      stop = λ vs. stop-push vs new c ∙ ap (λ s. option_or s (check_stop vs c)) (h.stop vs) ∙ sym (stop-push vs old c);
    }

pub firsts-step : (old new new' : List Check) (c : Check) → AreFirsts old new → IsTaken new new' c → AreFirsts (old ++ c ∷ []) new'
firsts-step old new new' c h (there k lt is same) = subst (AreFirsts (old ++ c ∷ [])) (sym same) (with-there old new c k lt is h)
firsts-step old new new' c h (added absent same) = subst (AreFirsts (old ++ c ∷ [])) (sym same) (with-added old new c absent h)

-- ---- the program

pub becomes-firsts : (flat : Flat) (checks : List Check) → IsFlat flat → AreFirsts flat.checks checks → Becomes flat (with_checks flat checks)
becomes-firsts flat checks valid h = record {
  valid = record {
    nodes = valid.nodes;
    checks = all-from (IsCheck (length flat.nodes)) no-check checks (λ j lt.
        let f = h.from j lt in
        subst (IsCheck (length flat.nodes)) (sym f.2) (one_of_all (IsCheck (length flat.nodes)) flat.checks f.0 (check_at flat.checks f.0) valid.checks
        (slice_get-get_or flat.checks f.0 _ f.1)));
    outputs = valid.outputs;
  };
  inputs = refl;
  outputs = refl;
  nodes = omega arith;
  checks = h.few;
  labels = λ j lt. let f = h.from j lt in (f.0, f.1, ap (λ (c : Check). c.label) f.2);
  answer = λ inputs plain. let vs = node_values inputs flat.nodes in ap (λ found. option_map_or Stopped found (Values (map (value_at vs) flat.outputs)))
      (h.stop vs);
}

root-stays : (flat : Flat) (checks : List Check) (x : ℕ) → AreFirsts flat.checks checks → IsRoot flat x → IsRoot (with_checks flat checks) x
root-stays flat checks x h r = ⊎_elim
    (λ o. inl o)
    (λ k. let f = h.all k.0 k.1 in inr (f.0, f.1, subst (λ c. ReadsCheck c x) (sym f.2) k.2))
    r

reached-stays : (flat : Flat) (checks : List Check) → AreFirsts flat.checks checks → {x : ℕ} → IsReached flat x → IsReached (with_checks flat checks) x
reached-stays flat checks h {x} (root r) = root (root-stays flat checks x h r)
reached-stays flat checks h {x} (argument before lt r) = argument (reached-stays flat checks h before) lt r

pub tidy-firsts : (flat : Flat) (checks : List Check) → IsPruned flat → AreFirsts flat.checks checks → IsTidy (with_checks flat checks)
tidy-firsts flat checks pruned h = record {
  folded = pruned.folded;
  reached = λ p lt. reached-stays flat checks h (pruned.reached p lt);
  unlike = h.unlike;
}
