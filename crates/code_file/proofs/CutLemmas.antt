-- Splitting at a separator.
use Rattle.std.proofs.Common.{◌≡◌, ◌≢◌, ◌<◌, ◌≤◌, ◌+◌, ◌==◌, ℕ, Bool, false, true, not, cond, List, [], ◌∷◌, ◌++◌, length, take, drop, get_or, Option, Some}
use Rattle.std.proofs.Common.{None, refl, sym, ap, ◌∙◌, subst, append_assoc, ◌&&◌}
use Rattle.std.specs.Option.{option_map}
use Rattle.std.specs.List.{list_all}
use Rattle.std.proofs.lemmas.List.{take_more, drop_more, drop_all}
use Rattle.std.proofs.lemmas.Bool.{eqb-true, eq-eqb, ne_eqb, and_parts}
use Rattle.reg_machine.proofs.TableLemmas.{none≢some, some-is}
use Rattle.code_file.specs.inner.Spelled.{cut, in_front}

-- bytes put before the first part
abbrev pub onto : List ℕ → List ℕ × List ℕ → List ℕ × List ℕ
onto w p = (w ++ p.0, p.1)

-- splitting a text is splitting its suffix from a position on
abbrev pub CutFrom : ℕ → List ℕ → ℕ → Type 0
CutFrom mark bytes k = cut mark bytes ≡ option_map (onto (take k bytes)) (cut mark (drop k bytes))

map-itself : (o : Option (List ℕ × List ℕ)) → o ≡ option_map (onto []) o
map-itself None = refl
map-itself (Some p) = refl

pub cut-start : (mark : ℕ) (bytes : List ℕ) → CutFrom mark bytes 0
cut-start mark bytes = map-itself (cut mark bytes)

map-front : (w v : List ℕ) (x : ℕ) (o : Option (List ℕ × List ℕ)) → v ≡ w ++ x ∷ [] → option_map (onto w) (option_map (in_front x) o) ≡ option_map (onto v) o
map-front w v x None e = refl
map-front w v x (Some p) e = ap (λ l. Some (l, p.1)) (sym (append_assoc w (x ∷ []) p.0) ∙ ap (λ l. l ++ p.0) (sym e))

pub cut-next : (mark : ℕ) (bytes : List ℕ) (k : ℕ) → k < length bytes → get_or bytes k 0 ≢ mark → CutFrom mark bytes k → CutFrom mark bytes (k + 1)
cut-next mark bytes k lt ne h =
    h ∙ ap (λ l. option_map (onto (take k bytes)) (cut mark l)) (drop_more bytes k 0 lt)
    ∙ ap (λ b. option_map (onto (take k bytes))
    (cond b (Some ([], drop (k + 1) bytes)) (option_map (in_front (get_or bytes k 0)) (cut mark (drop (k + 1) bytes))))) (ne_eqb (get_or bytes k 0) mark ne)
    ∙ map-front (take k bytes) (take (k + 1) bytes) (get_or bytes k 0) (cut mark (drop (k + 1) bytes)) (take_more bytes k 0 lt)

nothing-behind : (w r : List ℕ) → w ++ [] ≡ w → option_map (onto w) (Some ([], r)) ≡ Some (w, r)
nothing-behind w r e = ap (λ l. Some (l, r)) e

pub cut-here : (mark : ℕ) (bytes : List ℕ) (k : ℕ) → k < length bytes → get_or bytes k 0 ≡ mark → CutFrom mark bytes k
    → cut mark bytes ≡ Some (take k bytes, drop (k + 1) bytes)
cut-here mark bytes k lt e h =
    h ∙ ap (λ l. option_map (onto (take k bytes)) (cut mark l)) (drop_more bytes k 0 lt)
    ∙ ap (λ b. option_map (onto (take k bytes))
    (cond b (Some ([], drop (k + 1) bytes)) (option_map (in_front (get_or bytes k 0)) (cut mark (drop (k + 1) bytes))))) (eq-eqb (get_or bytes k 0) mark e)
    ∙ nothing-behind (take k bytes) (drop (k + 1) bytes) (nil (take k bytes))
  where
    nil : (l : List ℕ) → l ++ [] ≡ l
    nil [] = refl
    nil (x ∷ xs) = ap (λ l. x ∷ l) (nil xs)

pub cut-none : (mark : ℕ) (bytes : List ℕ) (k : ℕ) → length bytes ≤ k → CutFrom mark bytes k → cut mark bytes ≡ None
cut-none mark bytes k le h = h ∙ ap (λ l. option_map (onto (take k bytes)) (cut mark l)) (drop_all k bytes le)

-- ---- known texts

-- whether no byte is the separator
abbrev pub lacks : ℕ → List ℕ → Bool
lacks mark bytes = list_all (λ b. not (b == mark)) bytes

pub not-true : (b : Bool) → not b ≡ true → b ≡ false
not-true true h = sym h
not-true false h = refl

-- a text without the separator, then the separator and more, is split there
pub cut-at : (mark : ℕ) (w r : List ℕ) → lacks mark w ≡ true → cut mark (w ++ mark ∷ r) ≡ Some (w, r)
cut-at mark [] r h = ap (λ b. cond b (Some ([], r)) (option_map (in_front mark) (cut mark r))) (eq-eqb mark mark refl)
cut-at mark (b ∷ w) r h =
    let k = and_parts (not (b == mark)) (lacks mark w) h in
    ap (λ t. cond t (Some ([], w ++ mark ∷ r)) (option_map (in_front b) (cut mark (w ++ mark ∷ r)))) (not-true (b == mark) k.0)
    ∙ ap (option_map (in_front b)) (cut-at mark w r k.1)

-- a text without the separator isn't split
pub cut-not : (mark : ℕ) (w : List ℕ) → lacks mark w ≡ true → cut mark w ≡ None
cut-not mark [] h = refl
cut-not mark (b ∷ w) h =
    let k = and_parts (not (b == mark)) (lacks mark w) h in
    ap (λ t. cond t (Some ([], w)) (option_map (in_front b) (cut mark w))) (not-true (b == mark) k.0)
    ∙ ap (option_map (in_front b)) (cut-not mark w k.1)

-- the parts with the separator between them are the text
pub record Parts (mark : ℕ) (text : List ℕ) (p : List ℕ × List ℕ) : Type 0 where
  pub whole : text ≡ p.0 ++ mark ∷ p.1
  pub free : lacks mark p.0 ≡ true

parts-front : (mark b : ℕ) (bs : List ℕ) (p : List ℕ × List ℕ) (o : Option (List ℕ × List ℕ)) → ((r : List ℕ × List ℕ) → o ≡ Some r → Parts mark bs r)
    → (b == mark) ≡ false → option_map (in_front b) o ≡ Some p → Parts mark (b ∷ bs) p
parts-front mark b bs p None behind n q = absurd (none≢some p q)
parts-front mark b bs p (Some r) behind n q =
    let k = behind r refl in
    subst (Parts mark (b ∷ bs)) (some-is (in_front b r) p q) (record {
      whole = ap (λ l. b ∷ l) k.whole;
      free = ap (λ t. not t && lacks mark r.0) n ∙ k.free;
    })

parts-by : (mark b : ℕ) (bs : List ℕ) (p : List ℕ × List ℕ) (t : Bool) → (b == mark) ≡ t → ((r : List ℕ × List ℕ) → cut mark bs ≡ Some r → Parts mark bs r)
    → cond t (Some ([], bs)) (option_map (in_front b) (cut mark bs)) ≡ Some p → Parts mark (b ∷ bs) p
parts-by mark b bs p true e behind q = subst (Parts mark (b ∷ bs)) (some-is ([], bs) p q) (record { whole = ap (λ x. x ∷ bs) (eqb-true b mark e); free = refl })
parts-by mark b bs p false e behind q = parts-front mark b bs p (cut mark bs) behind e q

pub cut-parts : (mark : ℕ) (text : List ℕ) (p : List ℕ × List ℕ) → cut mark text ≡ Some p → Parts mark text p
cut-parts mark [] p h = absurd (none≢some p h)
cut-parts mark (b ∷ bs) p h = parts-by mark b bs p (b == mark) refl (cut-parts mark bs) h
