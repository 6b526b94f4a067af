-- The labels that may be reported: marked by number, collected as texts; and the checks whose
-- labels aren't among them.
use Rattle.std.proofs.Common.{◌≡◌, ℕ, zero, suc, ◌≤◌, Bool, true, false, cond, List, [], ◌∷◌, ◌++◌, length, get_or, set, take, map, replicate, Option, Some}
use Rattle.std.proofs.Common.{None, slice_get, refl, ap, sym, ◌∙◌, arith}
use Rattle.std.specs.Prelude.{◌||◌, ◌&&◌, not}
use Rattle.std.specs.Option.{option_map_or, option_and_then}
use Rattle.std.specs.Str.{bytes_eq}
use Rattle.std.proofs.lemmas.List.{length-set, length-replicate}
use Rattle.m_places.specs.declared.verification.Label.{Label}
use Rattle.m_names.specs.Names.{has}
use Rattle.m_names.proofs.NameLemmas.{same, has-append}
use Rattle.definedness.specs.Facts.{Possible}
use Rattle.observables.specs.declared.face.Face.{Face}
use Rattle.observables.specs.declared.face.FaceLabel.{FaceLabel}
use Rattle.observables.specs.declared.face.FaceLabel.TheVariants.{Verif, DriverLine}
use Rattle.observables.specs.declared.face.FaceOutput.{FaceOutput}
use Rattle.observables.specs.declared.face.FaceOutput.TheVariants.{Named, Noted}
use Rattle.flat_code.specs.declared.program.Check.{Check}
use Rattle.flat_code.specs.declared.program.Flat.{Flat}
use Rattle.m_places.specs.declared.place.Place.{Place}
use Rattle.micro_m.specs.Trees.{Tree}
use Rattle.micro_m.specs.declared.base.Base.{Base}
use Rattle.flat_code.specs.Facts.{fact_at}
use Rattle.m_lint.specs.Findings.{is_quiet, is_silent, is_same_label, has_label, checks_are_silent, output_is_silent, notes_are_silent}
use Rattle.m_lint.specs.Findings.{is_never_reported, is_never_stopping}
use Rattle.m_lint.specs.inner.Loud.{with_checks, with_output, with_notes, loud_of, coded_label, with_name, with_label, with_labels, is_label_unmarked}
use Rattle.m_lint.specs.inner.Loud.{is_unmarked}
use Rattle.m_lint.proofs.CodeLemmas.{code-same, label-itself}

-- ---- truths

or-assoc : (a b c : Bool) → ((a || b) || c) ≡ (a || (b || c))
or-assoc true b c = refl
or-assoc false b c = refl

or-none : (b : Bool) → b ≡ (b || false)
or-none true = refl
or-none false = refl

-- ---- marks among labels

abbrev pub label_is : Label → FaceLabel → Bool
label_is this (Verif label) = is_same_label this label
label_is this (DriverLine line) = false

-- whether a label equal to this is marked
abbrev pub any_marked : List FaceLabel → List Bool → Label → Bool
any_marked (l ∷ ls) (m ∷ ms) this = (m && label_is this l) || any_marked ls ms this
any_marked _ _ this = false

first-label : (l : FaceLabel) (ls : List FaceLabel) (this : Label) → has_label (l ∷ ls) this 0 ≡ label_is this l
first-label (Verif label) ls this = refl
first-label (DriverLine line) ls this = refl

-- one more mark
any-set : (labels : List FaceLabel) (marks : List Bool) (n : ℕ) (this : Label) → length labels ≡ length marks
    → any_marked labels (set marks n true) this ≡ (any_marked labels marks this || has_label labels this n)
any-set [] [] n this e = refl
any-set [] (m ∷ ms) n this e = absurd (omega (arith, e))
any-set (l ∷ ls) [] n this e = absurd (omega (arith, e))
any-set (l ∷ ls) (m ∷ ms) zero this e = by m (label_is this l) (any_marked ls ms this)
    ∙ ap (λ b. ((m && label_is this l) || any_marked ls ms this) || b) (sym (first-label l ls this))
  where
    by : (m b rest : Bool) → (b || rest) ≡ (((m && b) || rest) || b)
    by true true rest = refl
    by true false rest = or-none rest
    by false true true = refl
    by false true false = refl
    by false false rest = or-none rest
any-set (l ∷ ls) (m ∷ ms) (suc n) this e =
    ap (λ b. (m && label_is this l) || b) (any-set ls ms n this (omega (arith, e)))
    ∙ sym (or-assoc (m && label_is this l) (any_marked ls ms this) (has_label ls this n))

any-none : (labels : List FaceLabel) (n : ℕ) (this : Label) → any_marked labels (replicate n false) this ≡ false
any-none [] n this = refl
any-none (l ∷ ls) zero this = refl
any-none (l ∷ ls) (suc n) this = any-none ls n this

-- a mark at an equal label
any-at : (labels : List FaceLabel) (marks : List Bool) (n : ℕ) (this : Label) → slice_get labels n ≡ Some (Verif this) → get_or marks n false ≡ true
    → any_marked labels marks this ≡ true
any-at [] marks n this e h = cc e
any-at (l ∷ ls) [] n this e h = cc h
any-at (l ∷ ls) (m ∷ ms) zero this e h =
    let is : l ≡ Verif this = cc in
    rw is (rw h (ap (λ b. b || any_marked ls ms this) (label-itself this)))
any-at (l ∷ ls) (m ∷ ms) (suc n) this e h = by (m && label_is this l) (any_marked ls ms this) (any-at ls ms n this e h)
  where
    by : (a b : Bool) → b ≡ true → (a || b) ≡ true
    by true b h = refl
    by false b h = h

-- ---- the marks of a program

pub checks-length : (known : List Possible) (checks : List Check) (marks : List Bool) → length (with_checks known checks marks) ≡ length marks
checks-length known [] marks = refl
checks-length known (check ∷ checks) marks = checks-length known checks (cond (is_silent known check) marks (set marks check.label true))
    ∙ by (is_silent known check)
  where
    by : (b : Bool) → length (cond b marks (set marks check.label true)) ≡ length marks
    by true = refl
    by false = length-set marks check.label true

output-length : (fact : Possible) (output : FaceOutput) (marks : List Bool) → length (with_output fact output marks) ≡ length marks
output-length fact (Named name) marks = refl
output-length fact (Noted number) marks = by (is_quiet fact)
  where
    by : (b : Bool) → length (cond b marks (set marks number true)) ≡ length marks
    by true = refl
    by false = length-set marks number true

pub notes-length : (known : List Possible) (outputs : List FaceOutput) (ps : List ℕ) (marks : List Bool)
    → length (with_notes known outputs ps marks) ≡ length marks
notes-length known [] ps marks = refl
notes-length known (output ∷ outputs) [] marks = refl
notes-length known (output ∷ outputs) (p ∷ ps) marks = notes-length known outputs ps (with_output (fact_at known p) output marks)
    ∙ output-length (fact_at known p) output marks

pub loud-length : (known : List Possible) (flat : Flat) (face : Face) → length (loud_of known flat face) ≡ length face.labels
loud-length known flat face =
    notes-length known face.outputs flat.outputs (with_checks known flat.checks (replicate (length face.labels) false))
    ∙ checks-length known flat.checks (replicate (length face.labels) false) ∙ length-replicate (length face.labels) false

-- a mark, after a conditional one
any-cond : (labels : List FaceLabel) (marks : List Bool) (n : ℕ) (this : Label) (quiet : Bool) → length labels ≡ length marks
    → any_marked labels (cond quiet marks (set marks n true)) this ≡ (any_marked labels marks this || not (not (has_label labels this n) || quiet))
any-cond labels marks n this true e = by (any_marked labels marks this) (has_label labels this n)
  where
    by : (a h : Bool) → a ≡ (a || not (not h || true))
    by true true = refl
    by true false = refl
    by false true = refl
    by false false = refl
any-cond labels marks n this false e = any-set labels marks n this e ∙ ap (λ b. any_marked labels marks this || b) (by (has_label labels this n))
  where
    by : (h : Bool) → h ≡ not (not h || false)
    by true = refl
    by false = refl

-- one after the other
then-rest : (now before start first rest : Bool) → now ≡ (before || not rest) → before ≡ (start || not first) → now ≡ (start || not (first && rest))
then-rest now before start first rest e f = e ∙ ap (λ b. b || not rest) f ∙ by start first rest
  where
    by : (s a b : Bool) → ((s || not a) || not b) ≡ (s || not (a && b))
    by true a b = refl
    by false true b = refl
    by false false b = refl

any-checks : (labels : List FaceLabel) (this : Label) (known : List Possible) (checks : List Check) (marks : List Bool) → length labels ≡ length marks
    → any_marked labels (with_checks known checks marks) this ≡ (any_marked labels marks this || not (checks_are_silent labels this known checks))
any-checks labels this known [] marks e = or-none (any_marked labels marks this)
any-checks labels this known (check ∷ checks) marks e =
    let one = cond (is_silent known check) marks (set marks check.label true) in
    then-rest _ _ (any_marked labels marks this) (not (has_label labels this check.label) || is_silent known check) (checks_are_silent labels this known checks)
    (any-checks labels this known checks one (e ∙ sym (checks-length known (check ∷ []) marks)))
    (any-cond labels marks check.label this (is_silent known check) e)

any-output : (labels : List FaceLabel) (this : Label) (fact : Possible) (output : FaceOutput) (marks : List Bool) → length labels ≡ length marks
    → any_marked labels (with_output fact output marks) this ≡ (any_marked labels marks this || not (output_is_silent labels this fact output))
any-output labels this fact (Named name) marks e = or-none (any_marked labels marks this)
any-output labels this fact (Noted number) marks e = any-cond labels marks number this (is_quiet fact) e

any-notes : (labels : List FaceLabel) (this : Label) (known : List Possible) (outputs : List FaceOutput) (ps : List ℕ) (marks : List Bool)
    → length labels ≡ length marks
    → any_marked labels (with_notes known outputs ps marks) this ≡ (any_marked labels marks this || not (notes_are_silent labels this known outputs ps))
any-notes labels this known [] ps marks e = or-none (any_marked labels marks this)
any-notes labels this known (output ∷ outputs) [] marks e = or-none (any_marked labels marks this)
any-notes labels this known (output ∷ outputs) (p ∷ ps) marks e =
    let fact = fact_at known p in
    then-rest _ _ (any_marked labels marks this) (output_is_silent labels this fact output) (notes_are_silent labels this known outputs ps)
    (any-notes labels this known outputs ps (with_output fact output marks) (e ∙ sym (output-length fact output marks)))
    (any-output labels this fact output marks e)

-- a label is never reported if no label equal to it is marked
never-marked : (known : List Possible) (flat : Flat) (face : Face) (this : Label)
    → not (any_marked face.labels (loud_of known flat face) this) ≡ is_never_reported known flat face this
never-marked known flat face this =
    let none = replicate (length face.labels) false in
    let so_many : length face.labels ≡ length none = sym (length-replicate (length face.labels) false) in
    let checks = with_checks known flat.checks none in
    let all = then-rest _ _ (any_marked face.labels none this) (checks_are_silent face.labels this known flat.checks)
    (notes_are_silent face.labels this known face.outputs flat.outputs)
    (any-notes face.labels this known face.outputs flat.outputs checks (so_many ∙ sym (checks-length known flat.checks none)))
    (any-checks face.labels this known flat.checks none so_many) in
    ap not (all ∙ ap (λ b. b || not (is_never_reported known flat face this)) (any-none face.labels (length face.labels) this))
    ∙ twice (is_never_reported known flat face this)
  where
    twice : (b : Bool) → not (not b) ≡ b
    twice true = refl
    twice false = refl

-- ---- texts

has-with : (y x : List ℕ) (names : List (List ℕ)) → has y (with_name x names) ≡ (has y names || bytes_eq y x)
has-with y x names = by (has x names) refl
  where
    there : (b : Bool) → bytes_eq y x ≡ b → has x names ≡ true → has y names ≡ (has y names || b)
    there false e h = or-none (has y names)
    there true e h = let is : y ≡ x = same y x e in rw (ap (λ z. has z names) is ∙ h) refl

    by : (b : Bool) → has x names ≡ b → has y (cond b names (names ++ x ∷ [])) ≡ (has y names || bytes_eq y x)
    by true h = there (bytes_eq y x) refl h
    by false h = has-append y names (x ∷ []) ∙ ap (λ b. has y names || b) (sym (or-none (bytes_eq y x)))

has-label : (this : Label) (l : FaceLabel) (m : Bool) (names : List (List ℕ))
    → has (coded_label this) (with_label l m names) ≡ (has (coded_label this) names || (m && label_is this l))
has-label this (Verif label) true names = has-with (coded_label this) (coded_label label) names
    ∙ ap (λ b. has (coded_label this) names || b) (code-same this label)
has-label this (Verif label) false names = or-none (has (coded_label this) names)
has-label this (DriverLine line) true names = or-none (has (coded_label this) names)
has-label this (DriverLine line) false names = or-none (has (coded_label this) names)

has-labels : (this : Label) (labels : List FaceLabel) (marks : List Bool) (names : List (List ℕ))
    → has (coded_label this) (with_labels labels marks names) ≡ (has (coded_label this) names || any_marked labels marks this)
has-labels this [] marks names = or-none (has (coded_label this) names)
has-labels this (l ∷ ls) [] names = or-none (has (coded_label this) names)
has-labels this (l ∷ ls) (m ∷ ms) names =
    has-labels this ls ms (with_label l m names) ∙ ap (λ b. b || any_marked ls ms this) (has-label this l m names)
    ∙ or-assoc (has (coded_label this) names) (m && label_is this l) (any_marked ls ms this)

-- ---- checks

-- the labels of the base are the first of the face
pub first-length : (labels : List Label) (all : List FaceLabel) → take (length labels) all ≡ map Verif labels → length labels ≤ length all
first-length [] all e = omega arith
first-length (l ∷ ls) [] e = cc e
first-length (l ∷ ls) (x ∷ xs) e = let rest : take (length ls) xs ≡ map Verif ls = cc in omega (arith, first-length ls xs rest)

first-get : (labels : List Label) (all : List FaceLabel) (n : ℕ) (this : Label) → take (length labels) all ≡ map Verif labels → slice_get labels n ≡ Some this
    → slice_get all n ≡ Some (Verif this)
first-get [] all n this e h = cc h
first-get (l ∷ ls) [] n this e h = cc e
first-get (l ∷ ls) (x ∷ xs) zero this e h = cc
first-get (l ∷ ls) (x ∷ xs) (suc n) this e h = let rest : take (length ls) xs ≡ map Verif ls = cc in first-get ls xs n this rest h

label-unmarked : (labels : List FaceLabel) (marks : List Bool) (n : ℕ) (this : Label) → slice_get labels n ≡ Some (Verif this)
    → is_label_unmarked marks (with_labels labels marks []) n this ≡ not (any_marked labels marks this)
label-unmarked labels marks n this e = ap (λ b. not (get_or marks n false) && not b) (has-labels this labels marks []) ∙ by (get_or marks n false) refl
  where
    by : (b : Bool) → get_or marks n false ≡ b → (not b && not (any_marked labels marks this)) ≡ not (any_marked labels marks this)
    by true h = ap not (sym (any-at labels marks n this e h))
    by false h = refl

-- the checks that are neither marked nor equal to a marked one are those that never stop
pub unmarked-never : (known : List Possible) (base : Base) (flat : Flat) (face : Face) (k : ℕ) → take (length base.labels) face.labels ≡ map Verif base.labels
    → is_unmarked base (loud_of known flat face) (with_labels face.labels (loud_of known flat face) []) k ≡ is_never_stopping known base flat face k
unmarked-never known base flat face k first = by (slice_get base.checks k)
  where
    label : (n : ℕ) (found : Option Label) → slice_get base.labels n ≡ found
        → option_map_or (is_label_unmarked (loud_of known flat face) (with_labels face.labels (loud_of known flat face) []) n) found false
        ≡ option_map_or (is_never_reported known flat face) found false
    label n None e = refl
    label n (Some this) e =
        label-unmarked face.labels (loud_of known flat face) n this (first-get base.labels face.labels n this first e)
        ∙ never-marked known flat face this

    by : (found : Option (Tree × ℕ × Place))
        → option_map_or (λ check. option_map_or (is_label_unmarked (loud_of known flat face) (with_labels face.labels (loud_of known flat face) []) check.1)
        (slice_get base.labels check.1) false) found false
        ≡ option_map_or (is_never_reported known flat face) (option_and_then (λ check. slice_get base.labels check.1) found) false
    by None = refl
    by (Some check) = label check.1 (slice_get base.labels check.1) refl
