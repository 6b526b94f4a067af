-- Sequences of outputs.
use Rattle.std.proofs.Common.{◌≡◌, ◌<◌, ◌&&◌, ℕ, zero, suc, Bool, false, true, is_some, List, [], ◌∷◌, ◌++◌, length, map, get_or, refl, sym, ap, ◌∙◌, arith}
use Rattle.std.proofs.lemmas.Bool.{and_parts, true≢false, false≢true}
use Rattle.reg_machine.proofs.TableLemmas.{some-is}
use Rattle.observables.specs.declared.face.FaceLabel.{FaceLabel}
use Rattle.observables.specs.declared.face.FaceOutput.{FaceOutput}
use Rattle.observables.specs.declared.face.FaceOutput.TheVariants.{Named, Noted}
use Rattle.observables.specs.Outputs.{are_named, notes_stand_first, verif_at}
use Rattle.code_file.specs.Text.{output_line}
use Rattle.code_file.specs.inner.Faces.{IsNoFront, IsFront, IsRightOutput, output_of, may_follow, is_name, ends_named}
use Rattle.code_file.proofs.FaceLemmas.{output-spelling}
use Rattle.code_file.proofs.FrontLemmas.{cut-line}

and-true : (b : Bool) → (b && true) ≡ b
and-true true = refl
and-true false = refl

pub ends-push : (xs : List FaceOutput) (x : FaceOutput) → ends_named (xs ++ x ∷ []) ≡ is_name x
ends-push [] x = refl
ends-push (y ∷ []) x = refl
ends-push (y ∷ z ∷ xs) x = ends-push (z ∷ xs) x

named-ends : (name : List ℕ) (xs : List FaceOutput) → are_named xs ≡ true → ends_named (Named name ∷ xs) ≡ true
named-ends name [] h = refl
named-ends name (Named other ∷ xs) h = named-ends other xs h
named-ends name (Noted n ∷ xs) h = absurd (false≢true h)

named-push : (labels : List FaceLabel) (xs : List FaceOutput) (x : FaceOutput) → are_named xs ≡ true → are_named (xs ++ x ∷ []) ≡ may_follow labels true x
named-push labels [] (Named name) h = refl
named-push labels [] (Noted n) h = refl
named-push labels (Named name ∷ xs) x h = named-push labels xs x h
named-push labels (Noted n ∷ xs) x h = absurd (false≢true h)

-- whether one more output may follow outputs in valid order
pub follows : (labels : List FaceLabel) (xs : List FaceOutput) (x : FaceOutput) → notes_stand_first labels xs ≡ true
    → notes_stand_first labels (xs ++ x ∷ []) ≡ may_follow labels (ends_named xs) x
follows labels [] (Named name) h = refl
follows labels [] (Noted n) h = and-true (is_some (verif_at labels n))
follows labels (Named name ∷ xs) x h = named-push labels xs x h ∙ ap (λ b. may_follow labels b x) (sym (named-ends name xs h))
follows labels (Noted n ∷ []) x h =
    let k = and_parts (is_some (verif_at labels n)) true h in
    ap (λ b. b && notes_stand_first labels (x ∷ [])) k.0 ∙ follows labels [] x refl
follows labels (Noted n ∷ y ∷ xs) x h =
    let k = and_parts (is_some (verif_at labels n)) (notes_stand_first labels (y ∷ xs)) h in
    ap (λ b. b && notes_stand_first labels (y ∷ xs ++ x ∷ [])) k.0 ∙ follows labels (y ∷ xs) x k.1

-- a text begins with the line of at most one output
front-one : (text b1 b2 : List ℕ) (x y : FaceOutput) → IsFront output_line IsRightOutput text x b1 → IsFront output_line IsRightOutput text y b2 → x ≡ y
front-one text b1 b2 x y f g =
    let s = output-spelling.complete x f.1 in
    let t = output-spelling.complete y g.1 in
    let same = some-is _ _ (sym (cut-line output_line output_of x s text b1 f.0) ∙ cut-line output_line output_of y t text b2 g.0) in
    some-is x y (sym s.reads ∙ ap (λ p. output_of p.0) same ∙ t.reads)

abbrev pub MayStand : List FaceLabel → List FaceOutput → FaceOutput → Type 0
MayStand labels xs x = IsRightOutput x × (notes_stand_first labels (xs ++ x ∷ []) ≡ true)

pub none-follows : (labels : List FaceLabel) (xs : List FaceOutput) (text : List ℕ) → IsNoFront output_line IsRightOutput text
    → IsNoFront output_line (MayStand labels xs) text
none-follows labels xs text h x behind r e = h x behind r.0 e

pub not-follows : (labels : List FaceLabel) (xs : List FaceOutput) (x : FaceOutput) (text behind : List ℕ) (named : Bool) → notes_stand_first labels xs ≡ true
    → named ≡ ends_named xs → IsFront output_line IsRightOutput text x behind → may_follow labels named x ≡ false
    → IsNoFront output_line (MayStand labels xs) text
not-follows labels xs x text behind named first n f m y more r e =
    let same = front-one text more behind y x (e, r.0) f in
    true≢false (sym r.1 ∙ ap (λ z. notes_stand_first labels (xs ++ z ∷ [])) same ∙ follows labels xs x first ∙ ap (λ b. may_follow labels b x) (sym n) ∙ m)

-- ---- duplicate codes

pub code-at : {X : Type 0} (f : X → List ℕ) (xs : List X) (k : ℕ) (x d : X) → k < length xs → x ≡ get_or xs k d → f x ≡ get_or (map f xs) k []
code-at f [] k x d lt e = absurd (omega arith)
code-at f (y ∷ xs) zero x d lt e = ap f e
code-at f (y ∷ xs) (suc k) x d lt e = code-at f xs k x d (omega arith) e

pub length-map : {X : Type 0} (f : X → List ℕ) (xs : List X) → length (map f xs) ≡ length xs
length-map f [] = refl
length-map f (x ∷ xs) = omega (arith, length-map f xs)
