-- Prefixes of byte lists: the end of a run of one kind, and the longer of two prefixes.
use Rattle.std.proofs.Common.{◌≡◌, ℕ, ◌+◌, ◌-◌, ◌<◌, ◌≤◌, List, [], ◌∷◌, ◌++◌, length, get_or, take, drop, refl, sym, ap, ◌∙◌, subst, arith, inl, inr}
use Rattle.std.specs.List.{AllByRecursion}
use Rattle.std.proofs.lemmas.Bool.{cases_lt}
use Rattle.std.proofs.lemmas.List.{take-append-drop, drop-drop, drop_more, drop_all, get_or-take, get_or-drop, get_or_default, length-take, length-drop}
use Rattle.std.proofs.lemmas.List.Elements.{recursion_from_All}
use Rattle.m_text.specs.Bytes.{RunsTo}

-- the next byte, if any, isn't of the kind
abbrev pub Stops : (ℕ → Type 0) → List ℕ → Type 0
Stops P [] = Unit {0}
Stops P (b ∷ bytes) = P b → ⊥

pub not_next : (P : ℕ → Type 0) (x : List ℕ) (c : ℕ) (r : List ℕ) → x ≡ c ∷ r → Stops P x → P c → ⊥
not_next P [] c r e s p = cc
not_next P (d ∷ x) c r e s p = let q : d ≡ c = cc in s (subst P (sym q) p)

-- a run of one kind has one end
pub one_front : (P : ℕ → Type 0) (a b x y : List ℕ) → AllByRecursion P a → AllByRecursion P b → Stops P x → Stops P y → a ++ x ≡ b ++ y → (a ≡ b) × (x ≡ y)
one_front P [] [] x y pa pb sx sy e = (refl, e)
one_front P [] (c ∷ b) x y pa pb sx sy e = absurd (not_next P x c (b ++ y) e sx pb.0)
one_front P (c ∷ a) [] x y pa pb sx sy e = absurd (not_next P y c (a ++ x) (sym e) sy pa.0)
one_front P (c ∷ a) (d ∷ b) x y pa pb sx sy e =
    let tails : a ++ x ≡ b ++ y = cc in
    let heads : c ≡ d = cc in
    let q = one_front P a b x y pa.1 pb.1 sx sy tails in
    ((λ i. heads i ∷ q.0 i), q.1)

-- the longer of two prefixes extends the shorter
pub longer : (t r u v : List ℕ) → t ++ r ≡ u ++ v → length t < length u → (c : ℕ) × (more : List ℕ) × (u ≡ t ++ c ∷ more) × (r ≡ c ∷ (more ++ v))
longer [] r [] v e h = absurd (omega arith)
longer [] r (c ∷ u) v e h = (c, u, refl, e)
longer (b ∷ t) r [] v e h = absurd (omega arith)
longer (b ∷ t) r (c ∷ u) v e h =
    let tails : t ++ r ≡ u ++ v = cc in
    let heads : c ≡ b = cc in
    let q = longer t r u v tails (omega arith) in
    (q.0, q.1, (λ i. heads i ∷ q.2 i), q.3)

-- two prefixes of equal length are equal
pub same_length : (t r u v : List ℕ) → t ++ r ≡ u ++ v → length t ≡ length u → (t ≡ u) × (r ≡ v)
same_length [] r [] v e h = (refl, e)
same_length [] r (c ∷ u) v e h = absurd (omega arith)
same_length (b ∷ t) r [] v e h = absurd (omega arith)
same_length (b ∷ t) r (c ∷ u) v e h =
    let tails : t ++ r ≡ u ++ v = cc in
    let heads : b ≡ c = cc in
    let q = same_length t r u v tails (omega arith) in
    ((λ i. heads i ∷ q.0 i), q.1)

-- the bytes between two positions
abbrev pub part : List ℕ → ℕ → ℕ → List ℕ
part bytes from to = take (to - from) (drop from bytes)

pub parts : (bytes : List ℕ) (from to : ℕ) → from ≤ to → drop from bytes ≡ part bytes from to ++ drop to bytes
parts bytes from to h =
    let e : from + (to - from) ≡ to = omega arith in
    let f : drop (to - from) (drop from bytes) ≡ drop to bytes = drop-drop (to - from) from bytes ∙ ap (λ n. drop n bytes) e in
    sym (take-append-drop (to - from) (drop from bytes)) ∙ ap (λ r. part bytes from to ++ r) f

pub length-part : (bytes : List ℕ) (from to : ℕ) → from ≤ to → to ≤ length bytes → length (part bytes from to) ≡ to - from
length-part bytes from to h k = simp (length-take, length-drop) (omega arith)

pub all_part : (P : ℕ → Type 0) (bytes : List ℕ) (from to : ℕ) → RunsTo P bytes from to → AllByRecursion P (part bytes from to)
all_part P bytes from to r = recursion_from_All P (part bytes from to) (λ k d h. at k d (omega (arith, length-part bytes from to r.onward r.within, h)))
  where
    at : (k d : ℕ) → k < to - from → P (get_or (part bytes from to) k d)
    at k d h =
        let e : get_or (part bytes from to) k d ≡ get_or bytes (from + k) 0 = get_or-take (to - from) (drop from bytes) k d h ∙ get_or-drop from bytes k d
        ∙ get_or_default bytes (from + k) d 0 (omega (arith, r.within)) in
        subst P (sym e) (r.each (from + k) (omega arith) (omega arith))

pub stops_part : (P : ℕ → Type 0) (bytes : List ℕ) (from to : ℕ) → RunsTo P bytes from to → Stops P (drop to bytes)
stops_part P bytes from to r = elim (cases_lt to (length bytes)) [
  | inl h ↦ subst (Stops P) (sym (drop_more bytes to 0 h)) (r.stops h)
  | inr h ↦ subst (Stops P) (sym (drop_all to bytes h)) tt
]

-- elements of one kind
pub all_left : (P : ℕ → Type 0) (a b : List ℕ) → AllByRecursion P (a ++ b) → AllByRecursion P a
all_left P [] b h = tt
all_left P (x ∷ a) b h = (h.0, all_left P a b h.1)

pub all_right : (P : ℕ → Type 0) (a b : List ℕ) → AllByRecursion P (a ++ b) → AllByRecursion P b
all_right P [] b h = h
all_right P (x ∷ a) b h = all_right P a b h.1

pub all_weaker : (P Q : ℕ → Type 0) → ((b : ℕ) → P b → Q b) → (a : List ℕ) → AllByRecursion P a → AllByRecursion Q a
all_weaker P Q w [] h = tt
all_weaker P Q w (x ∷ a) h = (w x h.0, all_weaker P Q w a h.1)

pub all_both : (P : ℕ → Type 0) (a b : List ℕ) → AllByRecursion P a → AllByRecursion P b → AllByRecursion P (a ++ b)
all_both P [] b h k = k
all_both P (x ∷ a) b h k = (h.0, all_both P a b h.1 k)
