use Rattle.std.proofs.Common.{◌≡◌, ◌≢◌, ℕ, zero, suc, ◌+◌, ◌<◌, ◌≤◌, Bool, true, false, cond, eqb, ltb, ◌⊎◌, List, [], ◌∷◌, ◌++◌, length, get_or, set, map}
use Rattle.std.proofs.Common.{replicate, Option, None, Some, is_some, refl, ap, sym, ◌∙◌, subst, inl, inr, ⊎_elim, arith}
use Rattle.std.specs.Prelude.{if◌then◌else◌, fold}
use Rattle.std.specs.List.{AllByRecursion, list_any}
use Rattle.std.specs.Option.{option_and_then, option_map, option_map_or, is_none}
use Rattle.std.specs.Ordering.{nat_cmp, is_eq}
use Rattle.std.specs.Map.{lookup}
use Rattle.std.specs.BTreeMap as tree
use Rattle.std.specs.BTreeMap.{BTreeMap, get, is_at}
use Rattle.std.specs.Map.{lookup}
use Rattle.std.specs.BTreeMap as tree
use Rattle.std.specs.BTreeMap.{BTreeMap, get, is_at}
use Rattle.std.specs.Map.{lookup}
use Rattle.std.specs.BTreeMap as tree
use Rattle.std.specs.BTreeMap.{BTreeMap, get, is_at}
use Rattle.std.specs.Map.{lookup}
use Rattle.std.specs.BTreeMap as tree
use Rattle.std.specs.BTreeMap.{BTreeMap, get, is_at}
use Rattle.std.specs.Map.{lookup}
use Rattle.std.specs.BTreeMap as tree
use Rattle.std.specs.BTreeMap.{BTreeMap, get, is_at}
use Rattle.std.specs.Map.{lookup}
use Rattle.std.specs.BTreeMap as tree
use Rattle.std.specs.BTreeMap.{BTreeMap, get, is_at}
use Rattle.std.specs.BTreeSet.{BTreeSet, contains, Updates}
use Rattle.std.proofs.lemmas.Bool.{cases_eq, eq-eqb, ne_eqb, and_parts, ltb-true}
use Rattle.std.proofs.lemmas.Bool.Decides.{nat_tests}
use Rattle.std.proofs.lemmas.List.{get_or_append_left, get_or_push, length_push, length-set, map-append, get_or-set_same, get_or-set_other}
use Rattle.std.proofs.lemmas.List.Sums.{fold_push}
use Rattle.m_fixed.specs.declared.operator.Op.{Op}
use Rattle.m_fixed.specs.declared.amount.Value.{Value}
use Rattle.m_fixed.specs.declared.amount.Value.TheVariants.{Undef}
use Rattle.flat_code.specs.declared.program.Node.TheVariants.{Input, Lit as LitNode, Do as DoNode}
use Rattle.reg_machine.specs.declared.instr.Instr.{Instr}
use Rattle.reg_machine.specs.declared.instr.Instr.TheVariants.{Take, Lit, Do, Store, Load, Check as Test, Output}
use Rattle.reg_machine.specs.declared.instr.TheConstants.{REGISTERS}
use Rattle.reg_machine.specs.declared.code.Packed.{Packed}
use Rattle.reg_machine.specs.declared.code.Packed.TheVariants.{Take as Takes, Lit as Lits, Do as Does, Store as Stores, Load as Loads, Check as Checks}
use Rattle.reg_machine.specs.declared.code.Packed.TheVariants.{Output as Outputs}
use Rattle.reg_machine.specs.declared.wrong.Wrong.{Wrong}
use Rattle.reg_machine.specs.declared.wrong.Wrong.TheVariants.{Number, Order}
use Rattle.reg_machine.specs.declared.wrong.CodeWrong.TheVariants.{BadNumber, BadOrder, NoOutput}
use Rattle.reg_machine.specs.Flow.{Counts, Listing, with_instr, State, put, start, with_node, step, has_numbers, moved, repeats_first, reading, wrong_at}
use Rattle.reg_machine.specs.Flow.{wrong_behind, placed, fault_from, code_fault, all_given}
use Rattle.reg_machine.specs.inner.Packed.{unpacked, IsPacked, listing_of, IsAmong, AreDistinct, IsNumbered, IsDraft, IsRight, Grown}
use Rattle.reg_machine.proofs.TableLemmas.{put-same, put-other, none≢some, some-is}
use Rattle.reg_machine.proofs.StepLaws.{reading-none}
use Rattle.reg_machine.proofs.BuilderLemmas.{right-parts, reads-on, wrong-is, fault-step, fault-wrong, code-fault, given-each, given-not, cmp-eq}
use Rattle.reg_machine.proofs.DraftLemmas.{Parts, listing, Draft}

-- a map that is unchanged
pub numbered-same : (m n : BTreeMap ℕ ℕ) (used used' : List ℕ) → n.entries ≡ m.entries → used' ≡ used → IsNumbered m used → IsNumbered n used'
numbered-same m n used used' same e h =
    subst (λ (u : List ℕ). IsNumbered n u) (sym e) (record {
      found = λ k d f. h.found k d (ap (λ (es : List (ℕ × ℕ)). lookup (is_at (nat_cmp k)) es) (sym same) ∙ f);
      all = λ d lt. ap (λ (es : List (ℕ × ℕ)). lookup (is_at (nat_cmp (get_or used d 0))) es) same ∙ h.all d lt;
    })

number-put : (m n : BTreeMap ℕ ℕ) (k d : ℕ) → tree.Updates nat_cmp m n k (Some d) → (q : ℕ) → get nat_cmp n q ≡ cond (eqb k q) (Some d) (get nat_cmp m q)
number-put m n k d h q = h.0 q ∙ ap (λ b. cond b (Some d) (get nat_cmp m q)) (cmp-eq k q)

-- one more slot
pub numbered-push : (m n : BTreeMap ℕ ℕ) (used : List ℕ) (k d : ℕ) → IsNumbered m used → tree.Updates nat_cmp m n k (Some d) → d ≡ length used
    → (IsAmong k used → ⊥) → IsNumbered n (used ++ k ∷ [])
numbered-push m n used k d h updates is away =
    let size = length_push used k in
    record {
      found = λ q e f. found q e f (cases_eq k q);
      all = λ j lt. all j (omega (arith, size, lt)) (cases_eq j (length used));
    }
  where
    found : (q e : ℕ) → get nat_cmp n q ≡ Some e → (k ≡ q) ⊎ (k ≢ q) → (e < length (used ++ k ∷ [])) × (get_or (used ++ k ∷ []) e 0 ≡ q)
    found q e f (inl same) =
        let there : Some d ≡ Some e = sym (number-put m n k d updates q ∙ ap (λ b. cond b (Some d) (get nat_cmp m q)) (eq-eqb k q same)) ∙ f in
        let at : length used ≡ e = sym is ∙ some-is d e there in
        (omega (arith, length_push used k, at), get_or_push used k 0 e at ∙ same)
    found q e f (inr ne) =
        let there = h.found q e (sym (number-put m n k d updates q ∙ ap (λ b. cond b (Some d) (get nat_cmp m q)) (ne_eqb k q ne)) ∙ f) in
        (omega (arith, length_push used k, there.0), get_or_append_left used (k ∷ []) 0 e there.0 ∙ there.1)

    all : (j : ℕ) → j < length used + 1 → (j ≡ length used) ⊎ (j ≢ length used) → get nat_cmp n (get_or (used ++ k ∷ []) j 0) ≡ Some j
    all j lt (inl e) =
        ap (get nat_cmp n) (get_or_push used k 0 j (sym e)) ∙ number-put m n k d updates k ∙ ap (λ b. cond b (Some d) (get nat_cmp m k)) (eq-eqb k k refl)
        ∙ ap (λ (i : ℕ). Some i) (is ∙ sym e)
    all j lt (inr ne) =
        let lt' : j < length used = omega arith in
        let q = get_or used j 0 in
        let apart : k ≢ q = λ e. away (j, lt', sym e) in
        ap (get nat_cmp n) (get_or_append_left used (k ∷ []) 0 j lt') ∙ number-put m n k d updates q
        ∙ ap (λ b. cond b (Some d) (get nat_cmp m q)) (ne_eqb k q apart) ∙ h.all j lt'

pub numbered-distinct : (m : BTreeMap ℕ ℕ) (used : List ℕ) → IsNumbered m used → AreDistinct used
numbered-distinct m used h = λ i j a b e. some-is i j (sym (h.all i a) ∙ ap (get nat_cmp m) e ∙ h.all j b)

-- ---- whether all outputs were set

pub whole-not : (d : Parts) (k : ℕ) → Draft d → k < d.outs → contains nat_cmp d.given k ≡ false → (s : State) → reading (listing d) ≡ Some s
    → false ≡ is_some (all_given s.outputs)
whole-not d k h lt out s e =
    let same = some-is h.state s (sym h.read ∙ e) in
    subst (λ (t : State). false ≡ is_some (all_given t.outputs)) same (sym (given-not h.state.outputs k (omega (arith, h.count)) (sym (h.given k) ∙ out)))

pub whole-all : (d : Parts) → Draft d → ((k : ℕ) → k < d.outs → contains nat_cmp d.given k ≡ true) → (s : State) → reading (listing d) ≡ Some s
    → true ≡ is_some (all_given s.outputs)
whole-all d h each s e =
    let same = some-is h.state s (sym h.read ∙ e) in
    subst (λ (t : State). true ≡ is_some (all_given t.outputs)) same
    (sym (given-each h.state.outputs (λ k lt. sym (h.given k) ∙ each k (omega (arith, h.count)))))

-- the error of the end of code, by whether all outputs were set
pub end-whole : (code : Listing) (s : State) → reading code ≡ Some s → true ≡ is_some (all_given s.outputs) → code_fault code ≡ None
end-whole code s e whole = code-fault code s e ∙ from (all_given s.outputs) whole
  where
    from : (o : Option (List ℕ)) → true ≡ is_some o → (if is_none o then Some NoOutput else None) ≡ None
    from None w = absurd (let f : true ≡ false = w in (cc))
    from (Some xs) w = refl

pub end-missing : (code : Listing) (s : State) → reading code ≡ Some s → false ≡ is_some (all_given s.outputs) → code_fault code ≡ Some NoOutput
end-missing code s e whole = code-fault code s e ∙ from (all_given s.outputs) whole
  where
    from : (o : Option (List ℕ)) → false ≡ is_some o → (if is_none o then Some NoOutput else None) ≡ Some NoOutput
    from None w = refl
    from (Some xs) w = absurd (let f : false ≡ true = w in (cc))

-- ---- a list of instructions

-- the loop over a list of instructions
pub record Rest (code whole : Listing) (k : ℕ) (left : List Instr) : Type 0 where
  pub state : State
  pub counts : code.counts ≡ whole.counts
  pub read : reading code ≡ Some state
  pub fault : fault_from whole.counts state k left ≡ code_fault whole

pub rest-start : (whole : Listing) → Rest (record { counts = whole.counts; instrs = [] }) whole 0 whole.instrs
rest-start whole = record { state = start whole.counts.outputs; counts = refl; read = refl; fault = refl }

pub rest-next : (code whole : Listing) (k : ℕ) (i : Instr) (left : List Instr) → Rest code whole k (i ∷ left) → wrong_behind code i ≡ None
    → Rest (with_instr code i) whole (suc k) left
rest-next code whole k i left h right =
    let p = right-parts code i h.state h.read right in
    record {
      state = p.1;
      counts = h.counts;
      read = reads-on code i h.state p.1 h.read p.0 p.2;
      fault = sym (fault-step whole.counts h.state p.1 k i left (ap (λ n. has_numbers n h.state i) (sym h.counts) ∙ p.0) p.2) ∙ h.fault;
    }

pub rest-wrong : (code whole : Listing) (k : ℕ) (i : Instr) (left : List Instr) (w : Wrong) → Rest code whole k (i ∷ left) → wrong_behind code i ≡ Some w
    → code_fault whole ≡ Some (placed k w)
rest-wrong code whole k i left w h wrong =
    sym h.fault ∙ fault-wrong whole.counts h.state k i left w (ap (λ n. wrong_at n h.state i) (sym h.counts) ∙ sym (wrong-is code i h.state h.read) ∙ wrong)
