-- Codes of inputs are distinct free words.
use Rattle.std.proofs.Common.{◌≡◌, ◌<◌, ℕ, zero, suc, true, false, List, [], ◌∷◌, length, get_or, refl, sym, ap, ◌∙◌, arith}
use mathlib.Core.Bool.{◌||◌}
use Rattle.std.specs.List.{AllByRecursion}
use Rattle.std.specs.Str.{bytes_eq}
use Rattle.m_names.specs.Names.{AreDistinct, has}
use Rattle.m_names.proofs.NameLemmas.{itself, or-true_right}
use Rattle.m_symbols.specs.declared.variable.Variable.{Variable}
use Rattle.m_symbols.specs.Declarations.{code_of, codes_of}
use Rattle.code_file.specs.Printable.{IsFreeWord, AreApart}
use Rattle.m_compile.proofs.words.Declared.{IsGood, all_filtered}

pub codes_free : (vs : List Variable) → AllByRecursion (λ (v : Variable). IsGood v.item) vs → AllByRecursion IsFreeWord (codes_of vs)
codes_free vs a = all_filtered code_of (λ (v : Variable). IsGood v.item) IsFreeWord (λ v h. h.0.1) vs a

-- a name at a position is a member
there : (n : List ℕ) (ns : List (List ℕ)) (i : ℕ) → i < length ns → n ≡ get_or ns i [] → has n ns ≡ true
there n [] i h e = absurd (omega (arith, h))
there n (m ∷ ns) zero h e = ap (λ x. bytes_eq n x || has n ns) (sym e) ∙ ap (λ b. b || has n ns) (itself n)
there n (m ∷ ns) (suc i) h e = or-true_right (bytes_eq n m) (has n ns) (there n ns i (omega (arith, h)) e)

new : (n : List ℕ) (ns : List (List ℕ)) (i : ℕ) → has n ns ≡ false → i < length ns → n ≡ get_or ns i [] → ⊥
new n ns i f h e = let t = there n ns i h e in absurd (cc)

pub are_apart : (names : List (List ℕ)) → AreDistinct names → AreApart names
are_apart [] d i j h k e = absurd (omega (arith, h))
are_apart (n ∷ ns) d zero zero h k e = refl
are_apart (n ∷ ns) d zero (suc j) h k e = absurd (new n ns j d.0 (omega (arith, k)) e)
are_apart (n ∷ ns) d (suc i) zero h k e = absurd (new n ns i d.0 (omega (arith, h)) (sym e))
are_apart (n ∷ ns) d (suc i) (suc j) h k e = ap suc (are_apart ns d.1 i j (omega (arith, h)) (omega (arith, k)) e)
