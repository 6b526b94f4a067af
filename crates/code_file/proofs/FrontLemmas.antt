-- The first line of a text.
use Rattle.std.proofs.Common.{◌≡◌, ◌<◌, ℕ, true, List, [], ◌∷◌, ◌++◌, length, Option, Some, None, refl, sym, ap, ◌∙◌, arith, append_assoc, append-nil}
use Rattle.std.proofs.Common.{length-append}
use Rattle.std.specs.List.{AllByRecursion, flat_map}
use Rattle.reg_machine.proofs.TableLemmas.{none≢some, some-is}
use Rattle.code_file.specs.inner.Spelled.{cut}
use Rattle.code_file.specs.inner.Faces.{IsRead, IsNoFront, IsFront}
use Rattle.code_file.proofs.CutLemmas.{lacks, cut-at, cut-parts}

-- a line, without its line feed, that is parsed as x
pub record Spells {X : Type 0} (line : X → List ℕ) (of : List ℕ → Option X) (x : X) : Type 0 where
  pub body : List ℕ
  pub text : line x ≡ body ++ 10 ∷ []
  pub free : lacks 10 body ≡ true
  pub reads : of body ≡ Some x

-- printer and parser agree: what is parsed is printed so, and each valid element is parsed back
pub record IsSpelling {X : Type 0} (line : X → List ℕ) (of : List ℕ → Option X) (Is : X → Type 0) : Type 0 where
  pub sound : (body : List ℕ) (x : X) → of body ≡ Some x → Is x → line x ≡ body ++ 10 ∷ []
  pub complete : (x : X) → Is x → Spells line of x

-- a line followed by more is split at its end
pub cut-line : {X : Type 0} (line : X → List ℕ) (of : List ℕ → Option X) (x : X) (s : Spells line of x) (text behind : List ℕ) → text ≡ line x ++ behind
    → cut 10 text ≡ Some (s.body, behind)
cut-line line of x s text behind e =
    ap (cut 10) (e ∙ ap (λ l. l ++ behind) s.text ∙ append_assoc s.body (10 ∷ []) behind) ∙ cut-at 10 s.body behind s.free

module _ {X : Type 0} (line : X → List ℕ) (of : List ℕ → Option X) (Is : X → Type 0) (spelling : IsSpelling line of Is) where
  -- a text without a line feed doesn't begin with a line
  pub no-line : (text : List ℕ) → cut 10 text ≡ None → IsNoFront line Is text
  no-line text e x behind r h = none≢some _ (sym e ∙ cut-line line of x (spelling.complete x r) text behind h)

  -- the first line is of no valid element
  pub no-front : (text first behind : List ℕ) → cut 10 text ≡ Some (first, behind) → IsRead of Is first None → IsNoFront line Is text
  no-front text first behind e other x more r h =
      let s = spelling.complete x r in
      let same = some-is _ _ (sym e ∙ cut-line line of x s text more h) in
      other x (ap of (ap (λ p. p.0) same) ∙ s.reads) r

  -- the first line is of a valid element
  pub front-is : (text first behind : List ℕ) (x : X) → cut 10 text ≡ Some (first, behind) → IsRead of Is first (Some x) → IsFront line Is text x behind
  front-is text first behind x e r =
      ((cut-parts 10 text (first, behind) e).whole ∙ sym (ap (λ l. l ++ behind) (spelling.sound first x r.0 r.1) ∙ append_assoc first (10 ∷ []) behind), r.1)

  -- a line isn't empty, so the rest is shorter
  pub front-shorter : (text behind : List ℕ) (x : X) → IsFront line Is text x behind → length behind < length text
  front-shorter text behind x f =
      let s = spelling.complete x f.1 in
      omega (arith, ap length f.0, length-append (line x) behind, ap length s.text, length-append s.body (10 ∷ []))

-- ---- several lines

pub lines-append : {X : Type 0} (line : X → List ℕ) (xs ys : List X) → flat_map line (xs ++ ys) ≡ flat_map line xs ++ flat_map line ys
lines-append line [] ys = refl
lines-append line (x ∷ xs) ys = ap (λ l. line x ++ l) (lines-append line xs ys) ∙ sym (append_assoc (line x) (flat_map line xs) (flat_map line ys))

pub lines-push : {X : Type 0} (line : X → List ℕ) (text rest behind : List ℕ) (xs : List X) (x : X) → text ≡ flat_map line xs ++ rest → rest ≡ line x ++ behind
    → text ≡ flat_map line (xs ++ x ∷ []) ++ behind
lines-push line text rest behind xs x e h =
    e ∙ ap (λ l. flat_map line xs ++ l) h ∙ sym (append_assoc (flat_map line xs) (line x) behind)
    ∙ ap (λ l. l ++ behind) (ap (λ l. flat_map line xs ++ l) (sym (append-nil (line x))) ∙ sym (lines-append line xs (x ∷ [])))

pub all-push : {X : Type 0} (P : X → Type 0) (xs : List X) (x : X) → AllByRecursion P xs → P x → AllByRecursion P (xs ++ x ∷ [])
all-push P [] x h p = (p, tt)
all-push P (y ∷ xs) x h p = (h.0, all-push P xs x h.1 p)

pub all-append : {X : Type 0} (P : X → Type 0) (xs ys : List X) → AllByRecursion P xs → AllByRecursion P ys → AllByRecursion P (xs ++ ys)
all-append P [] ys h k = k
all-append P (y ∷ xs) ys h k = (h.0, all-append P xs ys h.1 k)
