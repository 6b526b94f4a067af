-- The values of nodes, and the first stop, as a flat program grows.
use Rattle.std.proofs.Common.{◌≡◌, ℕ, ◌<◌, ◌≤◌, Bool, true, false, cond, List, [], ◌∷◌, ◌++◌, length, get_or, Option, Some, None, refl, sym, ap, ◌∙◌, subst}
use Rattle.std.proofs.Common.{arith}
use mathlib.Core.Bool.{◌||◌}
use Rattle.std.specs.List.{AllByRecursion, cons_option}
use Rattle.std.specs.Option.{option_or}
use Rattle.std.proofs.Math.ListN.{get_or-append}
use Rattle.std.proofs.Math.Seq.{get_or-append_seam}
use Rattle.std.proofs.lemmas.List.Sums.{fold-append}
use Rattle.m_fixed.specs.declared.amount.Value.{Value}
use Rattle.m_fixed.specs.declared.amount.Value.TheVariants.{Undef, Num, Over}
use Rattle.m_fixed.specs.Operators.{is_zero}
use Rattle.observables.specs.declared.answer.Stop.{Stop}
use Rattle.observables.specs.declared.answer.Stop.TheVariants.{Failed, Over as OverAt}
use Rattle.flat_code.specs.declared.program.Node.{Node}
use Rattle.flat_code.specs.declared.program.Check.{Check}
use Rattle.observables.specs.declared.face.FaceLabel.{FaceLabel}
use Rattle.observables.specs.declared.face.FaceLabel.TheVariants.{Verif, DriverLine}
use Rattle.observables.specs.Answers.{Cause, cause_of}
use Rattle.flat_code.specs.Runs.{entry_of, values_for, node_values, is_one, stop_of, check_stop, first_stop}
use Rattle.flat_code.proofs.RunLemmas.{length-node_values}
use Rattle.m_places.specs.declared.verification.Label.{Label}
use Rattle.mpp_inline.specs.inner.Growth.{stop_read, note_read, notes_read, IsVerif, IsCheckWithin, IsNoteWithin}
use Rattle.mpp_inline.proofs.ListLemmas.{all-more}
use Rattle.mpp_inline.proofs.OutcomeLemmas.{or-none}

-- values
pub values-push : (inputs : List Value) (ns : List Node) (n : Node) → node_values inputs (ns ++ n ∷ []) ≡ node_values inputs ns ++ entry_of (values_for inputs)
    (node_values inputs ns) n ∷ []
values-push inputs ns n = fold-append (λ (es : List Value) (m : Node). es ++ entry_of (values_for inputs) es m ∷ []) [] ns (n ∷ [])

-- an older node keeps its value
pub value-kept : (inputs : List Value) (ns : List Node) (n : Node) (k : ℕ) → k < length ns
    → get_or (node_values inputs (ns ++ n ∷ [])) k Undef ≡ get_or (node_values inputs ns) k Undef
value-kept inputs ns n k h =
    ap (λ vs. get_or vs k Undef) (values-push inputs ns n)
    ∙ get_or-append (node_values inputs ns) (entry_of (values_for inputs) (node_values inputs ns) n ∷ []) Undef k (omega (arith, length-node_values inputs ns))

-- the newest node's value
pub value-new : (inputs : List Value) (ns : List Node) (n : Node) → get_or (node_values inputs (ns ++ n ∷ [])) (length ns) Undef ≡ entry_of (values_for inputs)
    (node_values inputs ns) n
value-new inputs ns n =
    ap (λ vs. get_or vs (length ns) Undef) (values-push inputs ns n)
    ∙ ap (λ k. get_or (node_values inputs ns ++ entry_of (values_for inputs) (node_values inputs ns) n ∷ []) k Undef) (sym (length-node_values inputs ns))
    ∙ get_or-append_seam (node_values inputs ns) (entry_of (values_for inputs) (node_values inputs ns) n) [] Undef

-- stops
stop-same : (u v : Value) (only : Bool) (l : ℕ) (g h : Value) → g ≡ h → u ≡ v → cond (is_one g) (stop_of only l u) None ≡ cond (is_one h) (stop_of only l v)
    None
stop-same u v only l g h e f = λ i. cond (is_one (e i)) (stop_of only l (f i)) None

pub stop-kept : (vs ws : List Value) (n l : ℕ) (cs : List Check) → ((k : ℕ) → k < n → get_or ws k Undef ≡ get_or vs k Undef)
    → AllByRecursion (λ c. IsCheckWithin n l c) cs → first_stop ws cs ≡ first_stop vs cs
stop-kept vs ws n l [] same a = refl
stop-kept vs ws n l (c ∷ cs) same a = λ i. option_or (stop-same (get_or ws c.condition Undef) (get_or vs c.condition Undef) c.over_only c.label
    (get_or ws c.guard Undef) (get_or vs c.guard Undef) (same c.guard a.0.guard) (same c.condition a.0.condition) i) (stop-kept vs ws n l cs same a.1 i)

or-or : {A : Type 0} (o p q : Option A) → option_or o (option_or p q) ≡ option_or (option_or o p) q
or-or None p q = refl
or-or (Some s) p q = refl

pub stop-push : (vs : List Value) (cs : List Check) (c : Check) → first_stop vs (cs ++ c ∷ []) ≡ option_or (first_stop vs cs) (check_stop vs c)
stop-push vs [] c = or-none (check_stop vs c)
stop-push vs (d ∷ cs) c = ap (option_or (check_stop vs d)) (stop-push vs cs c) ∙ or-or (check_stop vs d) (first_stop vs cs) (check_stop vs c)

pub read-or : (labels : List FaceLabel) (o p : Option Stop) → stop_read labels (option_or o p) ≡ option_or (stop_read labels o) (stop_read labels p)
read-or labels None p = refl
read-or labels (Some s) p = refl

-- the cause of a condition's stop
abbrev pub face_judged : Bool → FaceLabel → Value → Option Cause
face_judged only f Undef = None
face_judged only f (Num z) = cond (only || is_zero z) None (Some (cause_of (Failed 0) f))
face_judged only f Over = Some (cause_of (OverAt 0) f)

failed-any : (l : ℕ) (f : FaceLabel) → cause_of (Failed l) f ≡ cause_of (Failed 0) f
failed-any l (Verif label) = refl
failed-any l (DriverLine line) = refl

over-any : (l : ℕ) (f : FaceLabel) → cause_of (OverAt l) f ≡ cause_of (OverAt 0) f
over-any l (Verif label) = refl
over-any l (DriverLine line) = refl

read-judged : (labels : List FaceLabel) (only : Bool) (l : ℕ) (v : Value)
    → stop_read labels (stop_of only l v) ≡ face_judged only (get_or labels l (DriverLine 0)) v
read-judged labels only l Undef = refl
read-judged labels only l (Num z) = elim (only || is_zero z) as
    (λ b. stop_read labels (cond b None (Some (Failed l))) ≡ cond b None (Some (cause_of (Failed 0) (get_or labels l (DriverLine 0))))) [
      | true ↦ refl
      | false ↦ ap Some (failed-any l (get_or labels l (DriverLine 0)))
    ]
read-judged labels only l Over = ap Some (over-any l (get_or labels l (DriverLine 0)))

abbrev pub face_fired : Value → Bool → FaceLabel → Value → Option Cause
face_fired g only f v = cond (is_one g) (face_judged only f v) None

pub read-fired : (labels : List FaceLabel) (g : Value) (only : Bool) (l : ℕ) (v : Value)
    → stop_read labels (cond (is_one g) (stop_of only l v) None) ≡ face_fired g only (get_or labels l (DriverLine 0)) v
read-fired labels g only l v = elim (is_one g) as
    (λ b. stop_read labels (cond b (stop_of only l v) None) ≡ cond b (face_judged only (get_or labels l (DriverLine 0)) v) None) [
      | true ↦ read-judged labels only l v
      | false ↦ refl
    ]

-- added labels don't change an older stop
pub read-kept : (labels more : List FaceLabel) → ((l : ℕ) → l < length labels → get_or more l (DriverLine 0) ≡ get_or labels l (DriverLine 0))
    → (vs : List Value) (n : ℕ) (cs : List Check) → AllByRecursion (λ c. IsCheckWithin n (length labels) c) cs
    → stop_read more (first_stop vs cs) ≡ stop_read labels (first_stop vs cs)
read-kept labels more same vs n [] a = refl
read-kept labels more same vs n (c ∷ cs) a =
    let g = get_or vs c.guard Undef in
    let v = get_or vs c.condition Undef in
    read-or more (check_stop vs c) (first_stop vs cs)
    ∙ ap (λ o. option_or (stop_read more (check_stop vs c)) o) (read-kept labels more same vs n cs a.1)
    ∙ ap (λ o. option_or o (stop_read labels (first_stop vs cs)))
    (read-fired more g c.over_only c.label v
    ∙ ap (λ h. face_fired g c.over_only h v) (same c.label a.0.label)
    ∙ sym (read-fired labels g c.over_only c.label v))
    ∙ sym (read-or labels (check_stop vs c) (first_stop vs cs))

-- notes
pub notes-kept : (labels more : List FaceLabel) (vs ws : ℕ → Value) (n : ℕ) (ns : List (ℕ × ℕ))
    → ((l : ℕ) → l < length labels → get_or more l (DriverLine 0) ≡ get_or labels l (DriverLine 0)) → ((k : ℕ) → k < n → ws k ≡ vs k)
    → AllByRecursion (λ d. IsNoteWithin n labels d) ns → notes_read more ws ns ≡ notes_read labels vs ns
notes-kept labels more vs ws n [] same old a = refl
notes-kept labels more vs ws n (d ∷ ns) same old a =
    λ i. cons_option (note_read (same d.1 a.0.label i) (old d.0 a.0.node i)) (notes-kept labels more vs ws n ns same old a.1 i)

cons-append : (o : Option Label) (xs ys : List Label) → cons_option o (xs ++ ys) ≡ cons_option o xs ++ ys
cons-append None xs ys = refl
cons-append (Some x) xs ys = refl

pub notes-push : (labels : List FaceLabel) (vs : ℕ → Value) (ns : List (ℕ × ℕ)) (d : ℕ × ℕ) → notes_read labels vs (ns ++ d ∷ []) ≡ notes_read labels vs ns
    ++ cons_option (note_read (get_or labels d.1 (DriverLine 0)) (vs d.0)) []
notes-push labels vs [] d = refl
notes-push labels vs (x ∷ ns) d =
    let one = note_read (get_or labels x.1 (DriverLine 0)) (vs x.0) in
    ap (cons_option one) (notes-push labels vs ns d) ∙ cons-append one (notes_read labels vs ns) _

pub notes-within : (labels more : List FaceLabel) (n m : ℕ) (ns : List (ℕ × ℕ)) → n ≤ m → length labels ≤ length more
    → ((l : ℕ) → l < length labels → get_or more l (DriverLine 0) ≡ get_or labels l (DriverLine 0)) → AllByRecursion (λ d. IsNoteWithin n labels d) ns
    → AllByRecursion (λ d. IsNoteWithin m more d) ns
notes-within labels more n m ns up wide same a =
    all-more (λ d. IsNoteWithin n labels d) (λ d. IsNoteWithin m more d)
    (λ d h. record { node = omega (arith, h.node, up); label = omega (arith, h.label, wide); verif = subst IsVerif (sym (same d.1 h.label)) h.verif })
    ns a
