-- Tables, one entry after another.
use Rattle.std.proofs.Common.{◌≡◌, ◌≢◌, ℕ, zero, suc, ◌<◌, ◌≤◌, Bool, true, cond, eqb, ◌⊎◌, List, [], ◌∷◌, length, set, Option, None, Some, refl, ap, sym, ◌∙◌}
use Rattle.std.proofs.Common.{subst, inl, inr, ⊎_elim, arith}
use mathlib.Core.Bool.{◌||◌}
use Rattle.std.proofs.lemmas.Bool.{cases_eq, eq-eqb, ne_eqb, eqb-true, or_cases}
use Rattle.std.proofs.lemmas.List.{get_or-set_same, get_or-set_other}
use Rattle.m_fixed.specs.declared.operator.Op.{Op}
use Rattle.flat_code.specs.declared.program.Node.TheVariants.{Do as Work}
use Rattle.flat_code.specs.declared.program.Check.{Check}
use Rattle.register_alloc.specs.Width.{reads, check_reads}
use Rattle.reg_machine.specs.Flow.{put}
use Rattle.register_alloc.specs.inner.Sound.{Cleared}
use Rattle.register_alloc.specs.inner.Tables.{look, In, Tables}

pub put-same : {A : Type 0} (f : ℕ → A) (k : ℕ) (v : A) → put f k v k ≡ v
put-same f k v = ap (λ b. cond b v (f k)) (eq-eqb k k refl)

pub put-other : {A : Type 0} (f : ℕ → A) (k : ℕ) (v : A) (j : ℕ) → j ≢ k → put f k v j ≡ f j
put-other f k v j ne = ap (λ b. cond b v (f j)) (ne_eqb j k ne)

-- an entry after a write is the one that was written, or one of another place
pub put-cases : (f : ℕ → Option ℕ) (k x j y : ℕ) → put f k (Some x) j ≡ Some y → ((j ≡ k) × (x ≡ y)) ⊎ ((j ≢ k) × (f j ≡ Some y))
put-cases f k x j y e =
    ⊎_elim
    (λ (is : j ≡ k). let there : Some x ≡ Some y = sym (put-same f k (Some x)) ∙ subst (λ i. put f k (Some x) i ≡ Some y) is e in inl (is, (cc)))
    (λ (ne : j ≢ k). inr (ne, sym (put-other f k (Some x) j ne) ∙ e))
    (cases_eq j k)

-- a write into a list of entries
pub look-set : (table : List (Option ℕ)) (k : ℕ) (entry : Option ℕ) → k < length table → put (look table) k entry ≡ look (set table k entry)
look-set table k entry lt =
    let each : (j : ℕ) → put (look table) k entry j ≡ look (set table k entry) j = λ j.
    ⊎_elim
    (λ (is : j ≡ k). subst (λ i. put (look table) k entry i ≡ look (set table k entry) i) (sym is) (put-same (look table) k entry
    ∙ sym (get_or-set_same table k entry None lt)))
    (λ (ne : j ≢ k). put-other (look table) k entry j ne ∙ sym (get_or-set_other table k j entry None ne))
    (cases_eq j k) in
    λ i. λ j. each j i

pub none≢some : (x : ℕ) → None ≡ Some x → ⊥
none≢some x e = cc

-- an entry is within its table
pub look-within : (table : List (Option ℕ)) (k x : ℕ) → look table k ≡ Some x → k < length table
look-within [] k x e = absurd (none≢some x e)
look-within (entry ∷ table) zero x e = omega arith
look-within (entry ∷ table) (suc k) x e = omega (arith, look-within table k x e)

pub in-other : (f : ℕ → Option ℕ) (k x y : ℕ) → f k ≡ None → In f y → In (put f k (Some x)) y
in-other f k x y free h =
    let ne : h.place ≢ k = λ e. none≢some y (sym free ∙ ap f (sym e) ∙ h.is) in
    record { place = h.place; is = put-other f k (Some x) h.place ne ∙ h.is }

-- a live node is stored in a free slot
pub tables-store : (live : ℕ → Bool) (made : ℕ) (r s : ℕ → Option ℕ) (k x : ℕ) → Tables live made r s → s k ≡ None → live x ≡ true → (In s x → ⊥)
    → Tables live made r (put s k (Some x))
tables-store live made r s k x t free lives away = record {
  earlier = t.earlier;
  one_register = t.one_register;
  one_slot = λ i j y a b. ⊎_elim
      (λ p. ⊎_elim (λ q. p.0 ∙ sym q.0) (λ q. absurd (away (record { place = j; is = q.1 ∙ ap (λ (n : ℕ). Some n) (sym p.1) }))) (put-cases s k x j y b))
      (λ p. ⊎_elim (λ q. absurd (away (record { place = i; is = p.1 ∙ ap (λ (n : ℕ). Some n) (sym q.1) }))) (λ q. t.one_slot i j y p.1 q.1)
      (put-cases s k x j y b))
      (put-cases s k x i y a);
  owned = λ j y a. ⊎_elim (λ p. subst (λ n. live n ≡ true) p.1 lives) (λ p. t.owned j y p.1) (put-cases s k x j y a);
  placed = λ y l. ⊎_elim (λ p. inl p) (λ p. inr (in-other s k x y free p)) (t.placed y l);
}

-- a node that is in no register is written into one whose node is dead or stored
pub tables-write : (live live' : ℕ → Bool) (made made' : ℕ) (r s : ℕ → Option ℕ) (k x : ℕ) → Tables live made r s → made ≤ made' → x < made' → (In r x → ⊥)
    → ((y : ℕ) → r k ≡ Some y → live y ≡ true → In s y) → ((y : ℕ) → live y ≡ true → live' y ≡ true) → ((y : ℕ) → live' y ≡ true → (y ≡ x) ⊎ (live y ≡ true))
    → Tables live' made' (put r k (Some x)) s
tables-write live live' made made' r s k x t le lt away spare still now = record {
  earlier = λ j y a. ⊎_elim (λ p. subst (λ n. n < made') p.1 lt) (λ p. omega (arith, t.earlier j y p.1)) (put-cases r k x j y a);
  one_register = λ i j y a b. ⊎_elim
      (λ p. ⊎_elim (λ q. p.0 ∙ sym q.0) (λ q. absurd (away (record { place = j; is = q.1 ∙ ap (λ (n : ℕ). Some n) (sym p.1) }))) (put-cases r k x j y b))
      (λ p. ⊎_elim (λ q. absurd (away (record { place = i; is = p.1 ∙ ap (λ (n : ℕ). Some n) (sym q.1) }))) (λ q. t.one_register i j y p.1 q.1)
      (put-cases r k x j y b))
      (put-cases r k x i y a);
  one_slot = t.one_slot;
  owned = λ j y a. still y (t.owned j y a);
  placed = λ y l. ⊎_elim
      (λ (e : y ≡ x). inl (record { place = k; is = put-same r k (Some x) ∙ ap (λ (n : ℕ). Some n) (sym e) }))
      (λ (l' : live y ≡ true). ⊎_elim
      (λ p. ⊎_elim
      (λ (e : p.place ≡ k). inr (spare y (ap r (sym e) ∙ p.is) l'))
      (λ (ne : p.place ≢ k). inl (record { place = p.place; is = put-other r k (Some x) p.place ne ∙ p.is }))
      (cases_eq p.place k))
      (λ p. inr p)
      (t.placed y l'))
      (now y l);
}

-- some nodes die, and only slots of dead nodes are freed
pub tables-pass : (live live' : ℕ → Bool) (made : ℕ) (r s s' : ℕ → Option ℕ) → Tables live made r s → ((y : ℕ) → live' y ≡ true → live y ≡ true)
    → ((k y : ℕ) → s' k ≡ Some y → (s k ≡ Some y) × (live' y ≡ true)) → ((k y : ℕ) → s k ≡ Some y → live' y ≡ true → s' k ≡ Some y) → Tables live' made r s'
tables-pass live live' made r s s' t fewer only stays = record {
  earlier = t.earlier;
  one_register = t.one_register;
  one_slot = λ i j y a b. t.one_slot i j y (only i y a).0 (only j y b).0;
  owned = λ k y a. (only k y a).1;
  placed = λ y l. ⊎_elim (λ p. inl p) (λ p. inr (record { place = p.place; is = stays p.place y p.is l })) (t.placed y (fewer y l));
}

-- the slot of one node is freed unless the node is live
pub record Clears (live : ℕ → Bool) (x : ℕ) (old new : ℕ → Option ℕ) : Type 0 where
  pub stays : (k y : ℕ) → old k ≡ Some y → live y ≡ true → new k ≡ Some y
  pub only : (k y : ℕ) → new k ≡ Some y → (old k ≡ Some y) × (y ≡ x → live y ≡ true)

pub clears : (live : ℕ → Bool) (x : ℕ) (b : Bool) (old new : ℕ → Option ℕ) → b ≡ live x → ((k y : ℕ) → old k ≡ Some y → (y ≡ x → b ≡ true) → new k ≡ Some y)
    → ((k y : ℕ) → new k ≡ Some y → (old k ≡ Some y) × (y ≡ x → b ≡ true)) → Clears live x old new
clears live x b old new is stays only = record {
  stays = λ k y e l. stays k y e (λ same. is ∙ ap live (sym same) ∙ l);
  only = λ k y e. ((only k y e).0, λ same. ap live same ∙ sym is ∙ (only k y e).1 same);
}

pub apart-cleared : (live : ℕ → Bool) (x : ℕ) (old new : ℕ → Option ℕ) → Clears live x old new → ((i j y : ℕ) → old i ≡ Some y → old j ≡ Some y → i ≡ j)
    → (i j y : ℕ) → new i ≡ Some y → new j ≡ Some y → i ≡ j
apart-cleared live x old new h apart i j y a b = apart i j y (h.only i y a).0 (h.only j y b).0

-- the slots of a check's guard and condition are freed
pub cleared-tested : (live : ℕ → Bool) (check : Check) (s0 s1 s2 : ℕ → Option ℕ) → Clears live check.guard s0 s1 → Clears live check.condition s1 s2
    → Cleared (λ x. check_reads x check) live s0 s2
cleared-tested live check s0 s1 s2 a b = record {
  stays = λ k y e l. b.stays k y (a.stays k y e l) l;
  only = λ k y e. let f = b.only k y e in let g = a.only k y f.0 in (
    g.0,
    λ read. ⊎_elim (λ t. g.1 (sym (eqb-true check.guard y t))) (λ t. f.1 (sym (eqb-true check.condition y t)))
        (or_cases (eqb check.guard y) (eqb check.condition y) read),
  );
}

-- the slots of a node's arguments are freed
pub cleared-arguments : (live : ℕ → Bool) (op : Op) (a b c : ℕ) (s0 s1 s2 s3 : ℕ → Option ℕ) → Clears live a s0 s1 → Clears live b s1 s2 → Clears live c s2 s3
    → Cleared (λ x. reads x (Work op a b c)) live s0 s3
cleared-arguments live op a b c s0 s1 s2 s3 h i j = record {
  stays = λ k y e l. j.stays k y (i.stays k y (h.stays k y e l) l) l;
  only = λ k y e. let f = j.only k y e in let g = i.only k y f.0 in let o = h.only k y g.0 in (
    o.0,
    λ read. ⊎_elim (λ t. o.1 (sym (eqb-true a y t))) (λ t. ⊎_elim (λ u. g.1 (sym (eqb-true b y u))) (λ u. f.1 (sym (eqb-true c y u)))
        (or_cases (eqb b y) (eqb c y) t)) (or_cases (eqb a y) (eqb b y || eqb c y) read),
  );
}
