-- Marks grow by the cells that are read, and cells known to be marked stay marked.
use Rattle.std.proofs.Common.{◌≡◌, ℕ, ◌+◌, ◌<◌, ◌≤◌, Bool, true, false, nat_eq, List, length, get_or, set, refl, ap, sym, ◌∙◌, subst, inl, inr, arith}
use mathlib.Core.Bool.{◌||◌}
use Rattle.std.proofs.lemmas.List.{length-set, get_or-set_same, get_or-set_other, set_past}
use Rattle.std.proofs.lemmas.Bool.{cases_eq, cases_lt}
use Rattle.micro_m.specs.declared.table.Picked.{Picked}
use Rattle.micro_m.specs.declared.table.Picked.TheVariants.{Cell, Fixed}
use Rattle.m_fixed.specs.declared.amount.Value.{Value}
use Rattle.micro_m.specs.Values.{picked}
use Rattle.micro_m.proofs.NumberLemmas.{same, itself, or-true}
use Rattle.micro_m.proofs.TermLemmas.{picked-within}
use Rattle.micro_m.specs.ReadTests.{is_in_run}
use Rattle.why_report.specs.inner.Plans.{is_marked, AllMarked, AreSpots, IsMarking, Marks, PickedIsWithin}
use Rattle.why_report.proofs.ReadLemmas.{or-left, or-either, or-none, or-last, or-assoc, truth-same}
use Rattle.micro_m.proofs.ReadTestLemmas.{run-has, has-run}
use Rattle.why_report.proofs.DownLemmas.{not-true}

-- ---- marks

pub marks-none : (spots : List ℕ) (old : List Bool) → Marks spots old old (λ c. false)
marks-none spots old = record { size = refl; each = λ c low. sym (or-none (is_marked spots old c)) }

pub marks-same : (spots : List ℕ) (old new : List Bool) (reads others : ℕ → Bool) → ((c : ℕ) → reads c ≡ others c) → Marks spots old new reads
    → Marks spots old new others
marks-same spots old new reads others is m = record { size = m.size; each = λ c low. m.each c low ∙ ap (λ b. is_marked spots old c || b) (is c) }

pub marks-both : (spots : List ℕ) (old now new : List Bool) (a b : ℕ → Bool) → Marks spots old now a → Marks spots now new b
    → Marks spots old new (λ c. a c || b c)
marks-both spots old now new a b m n = record {
  size = n.size ∙ m.size;
  each = λ c low. n.each c low ∙ ap (λ x. x || b c) (m.each c low) ∙ or-assoc (is_marked spots old c) (a c) (b c);
}

pub marks-keep : (spots : List ℕ) (old new : List Bool) (reads : ℕ → Bool) → Marks spots old new reads → (c : ℕ) → c < length spots
    → is_marked spots old c ≡ true → is_marked spots new c ≡ true
marks-keep spots old new reads m c low h = m.each c low ∙ or-left (is_marked spots old c) (reads c) h

pub spots-more : (spots : List ℕ) (m n : ℕ) → m ≡ n → AreSpots spots m → AreSpots spots n
spots-more spots m n e s = subst (AreSpots spots) e s

pub marking-more : (spots : List ℕ) (old new : List Bool) (known : List ℕ) (reads : ℕ → Bool) → IsMarking spots old known → Marks spots old new reads
    → IsMarking spots new known
marking-more spots old new known reads k m = record {
  are_spots = spots-more spots (length old) (length new) (sym m.size) k.are_spots;
  size = k.size;
  knows = λ first c low from below. marks-keep spots old new reads m c low (k.knows first c low from below);
}

-- ---- a cell

pub marks-cell : (spots : List ℕ) (old : List Bool) (cell : ℕ) → cell < length spots → AreSpots spots (length old)
    → Marks spots old (set old (get_or spots cell 0) true) (λ c. nat_eq c cell)
marks-cell spots old cell low are = record {
  size = length-set old (get_or spots cell 0) true;
  each = λ c here. elim (cases_eq c cell) [
    | inl e ↦ ap (λ n. get_or (set old (get_or spots cell 0) true) (get_or spots n 0) false) e
        ∙ get_or-set_same old (get_or spots cell 0) true false (are.within cell low)
        ∙ sym (ap (λ b. is_marked spots old c || b) (ap (λ n. nat_eq n cell) e ∙ itself cell) ∙ or-last (is_marked spots old c))
    | inr n ↦ get_or-set_other old (get_or spots cell 0) (get_or spots c 0) true false (λ e. n (are.one c cell here low e))
        ∙ sym (ap (λ b. is_marked spots old c || b) (not-true (nat_eq c cell) (λ t. n (same c cell t))) ∙ or-none (is_marked spots old c))
  ];
}

-- ---- cells in a row

pub run-first : (spots : List ℕ) (old : List Bool) (first known : ℕ) → AllMarked spots old first known → Marks spots old old (is_in_run first known)
run-first spots old first known all = record {
  size = refl;
  each = λ c low. truth-same (is_marked spots old c) (is_marked spots old c || is_in_run first known c)
      (λ t. or-left (is_marked spots old c) (is_in_run first known c) t)
      (λ t. elim (or-either (is_marked spots old c) (is_in_run first known c) t) [ inl k ↦ k | inr k ↦ let r = run-has first known c k in all c low r.0 r.1 ]);
}

pub run-turn : (spots : List ℕ) (old now new : List Bool) (first passed : ℕ) → Marks spots old now (is_in_run first passed)
    → Marks spots now new (λ c. nat_eq c (first + passed)) → Marks spots old new (is_in_run first (passed + 1))
run-turn spots old now new first passed m n =
    marks-same spots old new (λ c. is_in_run first passed c || nat_eq c (first + passed)) (is_in_run first (passed + 1))
    (λ c. truth-same (is_in_run first passed c || nat_eq c (first + passed)) (is_in_run first (passed + 1) c)
    (λ t. elim (or-either (is_in_run first passed c) (nat_eq c (first + passed)) t) [
      | inl k ↦ let r = run-has first passed c k in has-run first (passed + 1) c r.0 (omega (arith, r.1))
      | inr k ↦ let e = same c (first + passed) k in has-run first (passed + 1) c (omega arith) (omega arith)
    ])
    (λ t. let r = run-has first (passed + 1) c t in
    elim (cases_eq c (first + passed)) [
      | inl e ↦ or-true (is_in_run first passed c) (nat_eq c (first + passed)) (ap (λ x. nat_eq x (first + passed)) e ∙ itself (first + passed))
      | inr other ↦ or-left (is_in_run first passed c) (nat_eq c (first + passed)) (has-run first passed c r.0 (below c r.1 other))
    ]))
    (marks-both spots old now new (is_in_run first passed) (λ c. nat_eq c (first + passed)) m n)
  where
    below : (c : ℕ) → c < first + (passed + 1) → (c ≡ first + passed → ⊥) → c < first + passed
    below c l o = omega arith

-- a run that is known to be marked
pub run-known : (spots : List ℕ) (old : List Bool) (known : List ℕ) (first size : ℕ) → IsMarking spots old known → size ≤ get_or known first 0
    → Marks spots old old (is_in_run first size)
run-known spots old known first size k low =
    run-first spots old first size (λ c here from below. k.knows first c here from (omega arith))

-- a run that is known to be marked from now on
pub knows-run : (spots : List ℕ) (old new : List Bool) (known : List ℕ) (first size : ℕ) → IsMarking spots old known
    → Marks spots old new (is_in_run first size) → IsMarking spots new (set known first size)
knows-run spots old new known first size k m = record {
  are_spots = spots-more spots (length old) (length new) (sym m.size) k.are_spots;
  size = length-set known first size ∙ k.size;
  knows = λ f c low from below. elim (cases_eq f first) [
    | inl e ↦ elim (cases_lt first (length known)) [
      | inl here ↦ m.each c low ∙ or-true (is_marked spots old c) (is_in_run first size c)
          (has-run first size c (omega (arith, e)) (omega (arith, e, ap (λ n. get_or (set known first size) n 0) e, get_or-set_same known first size 0 here)))
      | inr past ↦ marks-keep spots old new (is_in_run first size) m c low
          (k.knows f c low from (subst (λ (xs : List ℕ). c < f + get_or xs f 0) (set_past known first size past) below))
    ]
    | inr n ↦ marks-keep spots old new (is_in_run first size) m c low
        (k.knows f c low from (subst (λ v. c < f + v) (get_or-set_other known first f size 0 n) below))
  ];
}

pub pick-within : (cells first size : ℕ) (v : Value) (p : Picked) → p ≡ picked first size v → first + size ≤ cells → PickedIsWithin cells p
pick-within cells first size v (Cell c) e h = let k = picked-within first size v c (sym e) in omega arith
pick-within cells first size v (Fixed w) e h = tt

-- ---- several terms

-- the marks so far, with what the rest reads, are the first marks with all that is read
pub record MarksOn (spots : List ℕ) (old now : List Bool) (rest whole : ℕ → Bool) : Type 0 where
  pub size : length now ≡ length old
  pub each : (c : ℕ) → c < length spots → (is_marked spots now c || rest c) ≡ (is_marked spots old c || whole c)

pub on-first : (spots : List ℕ) (old : List Bool) (whole : ℕ → Bool) → MarksOn spots old old whole whole
on-first spots old whole = record { size = refl; each = λ c low. refl }

pub on-turn : (spots : List ℕ) (old now new : List Bool) (a rest before whole : ℕ → Bool) → ((c : ℕ) → before c ≡ (a c || rest c))
    → MarksOn spots old now before whole → Marks spots now new a → MarksOn spots old new rest whole
on-turn spots old now new a rest before whole is on m = record {
  size = m.size ∙ on.size;
  each = λ c low. ap (λ x. x || rest c) (m.each c low) ∙ or-assoc (is_marked spots now c) (a c) (rest c)
      ∙ ap (λ b. is_marked spots now c || b) (sym (is c)) ∙ on.each c low;
}

pub on-end : (spots : List ℕ) (old now : List Bool) (rest whole : ℕ → Bool) → ((c : ℕ) → rest c ≡ false) → MarksOn spots old now rest whole
    → Marks spots old now whole
on-end spots old now rest whole none on = record {
  size = on.size;
  each = λ c low. sym (or-none (is_marked spots now c)) ∙ ap (λ b. is_marked spots now c || b) (sym (none c)) ∙ on.each c low;
}
