-- The test whether a cell is read agrees with the relation.
use Rattle.std.proofs.Common.{◌≡◌, ℕ, zero, suc, ◌<◌, true, false, eqb, List, [], ◌∷◌, length, get_or, map, None, refl, ◌⊎◌, inl, inr, arith}
use Rattle.std.proofs.lemmas.Bool.{or_cases, or_left, or_right, or_parts}
use Rattle.micro_m.specs.Trees.{Tree}
use Rattle.micro_m.specs.declared.base.Base.{Base}
use Rattle.micro_m.specs.Bases.{Definition, definition_among, is_among, terms_of}
use Rattle.micro_m.specs.Reads.{TermReads}
use Rattle.micro_m.specs.ReadTests.{term_reads}
use Rattle.micro_m.proofs.ReadTestLemmas.{term-is, is-term}
use Rattle.m_lint.specs.Readings.{are_read, conditions_of, is_read}
use Rattle.m_lint.specs.Truths.{AreRead}

-- ---- lists of terms

terms-are : (ts : List Tree) (c : ℕ) → are_read ts c ≡ true → AreRead ts c
terms-are [] c e = cc e
terms-are (t ∷ ts) c e = elim (or_cases (term_reads t c) (are_read ts c) e)
    [ inl k ↦ (t, (0, omega arith, refl), term-is t c k) | inr k ↦ later (terms-are ts c k) ]
  where
    later : AreRead ts c → AreRead (t ∷ ts) c
    later h = (h.0, (suc h.1.0, omega (arith, h.1.1), h.1.2), h.2)

are-terms : (ts : List Tree) (c : ℕ) → AreRead ts c → are_read ts c ≡ true
are-terms ts c h = at ts h.1.0 h.0 h.1.1 h.1.2 h.2
  where
    at : (ts : List Tree) (k : ℕ) (t : Tree) → k < length ts → get_or ts k t ≡ t → TermReads t c → are_read ts c ≡ true
    at [] k t low e h = absurd (omega (arith, low))
    at (u ∷ us) zero t low e h = or_left (term_reads u c) (are_read us c) (rw e (is-term t c h))
    at (u ∷ us) (suc k) t low e h = or_right (term_reads u c) (are_read us c) (at us k t (omega (arith, low)) e h)

pub read-is : (base : Base) (c : ℕ) → is_read base c ≡ true → AreRead (terms_of base) c ⊎ AreRead (conditions_of base) c
read-is base c e = elim (or_cases (are_read (terms_of base) c) (are_read (conditions_of base) c) e)
    [ inl k ↦ inl (terms-are (terms_of base) c k) | inr k ↦ inr (terms-are (conditions_of base) c k) ]

pub is-read : (base : Base) (c : ℕ) → AreRead (terms_of base) c ⊎ AreRead (conditions_of base) c → is_read base c ≡ true
is-read base c (inl h) = or_left (are_read (terms_of base) c) (are_read (conditions_of base) c) (are-terms (terms_of base) c h)
is-read base c (inr h) = or_right (are_read (terms_of base) c) (are_read (conditions_of base) c) (are-terms (conditions_of base) c h)

-- a cell that is no target has no definition
pub no-definition : (ds : List Definition) (c : ℕ) → is_among c (map (λ d. d.0) ds) ≡ false → definition_among ds c ≡ None
no-definition [] c e = refl
no-definition (d ∷ ds) c e =
    let k = or_parts (eqb c d.0) (is_among c (map (λ x. x.0) ds)) e in
    rw k.0 (no-definition ds c k.1)
