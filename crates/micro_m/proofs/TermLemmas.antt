-- The values of arguments, and the cells on which a term depends.
use Rattle.std.proofs.Common.{◌≡◌, ℕ, zero, suc, ◌+◌, ◌<◌, ◌≤◌, Bool, true, false, cond, ltb, List, [], ◌∷◌, length, get_or, refl, ap, ◌∙◌, inl, inr, arith, ℤ}
use Rattle.std.proofs.Common.{pos, negsuc}
use Rattle.std.proofs.lemmas.Bool.Decides.{nat_tests}
use Rattle.m_fixed.specs.declared.amount.Value.{Value}
use Rattle.m_fixed.specs.declared.amount.Value.TheVariants.{Undef, Num, Over}
use Rattle.m_fixed.specs.Operators.{op_value, cut}
use Rattle.micro_m.specs.declared.table.Picked.{Picked}
use Rattle.micro_m.specs.declared.table.Picked.TheVariants.{Cell, Fixed}
use Rattle.micro_m.specs.Trees.{Tree, lit, cell, pick, apply, chain, Trees, none, more, Steps, end, step}
use Rattle.micro_m.specs.Views.{trees_of}
use Rattle.micro_m.specs.Values.{Environment, picked_at, picked, picked_value, applied, term_value, argument_values, folded}
use Rattle.micro_m.specs.Reads.{PickReads, TermReads, ArgumentsRead, StepsRead}

-- the value of the argument at an index
pub argument_values-at : (values : Environment) (all : List Tree) (at : ℕ) (x : Tree) → at < length all → x ≡ get_or all at x
    → term_value values x ≡ get_or (argument_values values (trees_of all)) at Undef
argument_values-at values [] at x h e = absurd (omega arith)
argument_values-at values (a ∷ all) zero x h e = ap (term_value values) e
argument_values-at values (a ∷ all) (suc at) x h e = argument_values-at values all at x (omega arith) e

-- undefined past the last
pub argument_values-past : (values : Environment) (all : List Tree) (at : ℕ) → length all ≤ at → Undef ≡ get_or (argument_values values (trees_of all)) at Undef
argument_values-past values [] at h = refl
argument_values-past values (a ∷ all) zero h = absurd (omega arith)
argument_values-past values (a ∷ all) (suc at) h = argument_values-past values all at (omega arith)

-- ---- a term depends only on the cells that it reads

-- the selected cell is one of the table
within : (b : Bool) (first size k c : ℕ) → ltb k size ≡ b → cond b (Cell (first + k)) (Fixed Undef) ≡ Cell c → (first ≤ c) × (c < first + size)
within true first size k c t e = let is : first + k ≡ c = cc in let low : k < size = grind (arith, nat_tests) in (omega arith, omega arith)
within false first size k c t e = absurd (cc)

pub picked-within : (first size : ℕ) (v : Value) (c : ℕ) → picked first size v ≡ Cell c → (first ≤ c) × (c < first + size)
picked-within first size Undef c e = absurd (cc)
picked-within first size Over c e = absurd (cc)
picked-within first size (Num z) c e = at (cut z) e
  where
    at : (i : ℤ) → picked_at first size i ≡ Cell c → (first ≤ c) × (c < first + size)
    at (pos k) e = within (ltb k size) first size k c refl e
    at (negsuc k) e = absurd (cc)

picked_value-same : (p : Picked) (e f : Environment) → ((c : ℕ) → p ≡ Cell c → e c ≡ f c) → picked_value e p ≡ picked_value f p
picked_value-same (Cell c) e f h = h c refl
picked_value-same (Fixed v) e f h = refl

-- one index of a table, if all its cells agree
any-same : (first size : ℕ) (e f : Environment) (v w : Value) → ((c : ℕ) → (first ≤ c) × (c < first + size) → e c ≡ f c) → v ≡ w
    → picked_value e (picked first size v) ≡ picked_value f (picked first size w)
any-same first size e f v w h is =
    ap (λ x. picked_value e (picked first size x)) is
    ∙ picked_value-same (picked first size w) e f (λ c p. h c (picked-within first size w c p))

pick-same : (first size : ℕ) (index : Tree) (e f : Environment) → ((c : ℕ) → PickReads first size index c → e c ≡ f c) → term_value e index ≡ term_value f index
    → picked_value e (picked first size (term_value e index)) ≡ picked_value f (picked first size (term_value f index))
pick-same first size (lit v) e f h is = picked_value-same (picked first size v) e f h
pick-same first size (cell c) e f h is = any-same first size e f (e c) (f c) h is
pick-same first size (pick g s i) e f h is = any-same first size e f (term_value e (pick g s i)) (term_value f (pick g s i)) h is
pick-same first size (apply o as') e f h is = any-same first size e f (term_value e (apply o as')) (term_value f (apply o as')) h is
pick-same first size (chain a ss) e f h is = any-same first size e f (term_value e (chain a ss)) (term_value f (chain a ss)) h is

mutual
  pub term_value-same : (t : Tree) (e f : Environment) → ((c : ℕ) → TermReads t c → e c ≡ f c) → term_value e t ≡ term_value f t
  term_value-same (lit v) e f h = refl
  term_value-same (cell c) e f h = h c refl
  term_value-same (pick first size index) e f h =
      pick-same first size index e f (λ c r. h c (inr r)) (term_value-same index e f (λ c r. h c (inl r)))
  term_value-same (apply op all) e f h = ap (applied op) (argument_values-same all e f h)
  term_value-same (chain a steps) e f h =
      ap (λ v. folded e v steps) (term_value-same a e f (λ c r. h c (inl r))) ∙ folded-same steps (term_value f a) e f (λ c r. h c (inr r))

  argument_values-same : (all : Trees) (e f : Environment) → ((c : ℕ) → ArgumentsRead all c → e c ≡ f c) → argument_values e all ≡ argument_values f all
  argument_values-same none e f h = refl
  argument_values-same (more a rest) e f h = λ i. term_value-same a e f (λ c r. h c (inl r)) i ∷ argument_values-same rest e f (λ c r. h c (inr r)) i

  folded-same : (steps : Steps) (v : Value) (e f : Environment) → ((c : ℕ) → StepsRead steps c → e c ≡ f c) → folded e v steps ≡ folded f v steps
  folded-same end v e f h = refl
  folded-same (step op a rest) v e f h =
      ap (λ x. folded e (op_value op v x Undef) rest) (term_value-same a e f (λ c r. h c (inl r)))
      ∙ folded-same rest (op_value op v (term_value f a) Undef) e f (λ c r. h c (inr r))
