-- The parts of a term give its value, read what it reads, and are within what it is within.
use Rattle.std.proofs.Common.{◌≡◌, ℕ, zero, suc, ◌+◌, ◌-◌, ◌<◌, ◌≤◌, Bool, true, false, List}
use Rattle.std.proofs.Common.{[], ◌∷◌, ◌++◌, length, get_or, set, take, drop, max, None, Some, refl, ap}
use Rattle.std.proofs.Common.{sym, ◌∙◌, subst, arith, length-append}
use mathlib.Core.Bool.{◌||◌}
use Rattle.std.specs.Option.{option_map_or}
use Rattle.std.proofs.Math.Seq.{drop-append_seam, take-append_seam}
use Rattle.std.proofs.Math.Seq.{drop-cons}
use Rattle.std.proofs.lemmas.List.{append_assoc, append-nil, drop-take, drop_all, length-set, length-take, take_more_set, take-take}
use Rattle.m_fixed.specs.declared.amount.Value.{Value}
use Rattle.m_fixed.specs.declared.amount.Value.TheVariants.{Undef, Num, Over}
use Rattle.m_fixed.specs.Operators.{op_value}
use Rattle.m_fixed.specs.declared.operator.Op.{Op}
use Rattle.micro_m.specs.Trees.{Tree, lit, cell, pick, apply, chain, Trees, none, more, Steps, end, step}
use Rattle.micro_m.specs.Views.{trees_of}
use Rattle.micro_m.specs.declared.base.Base.{Base}
use Rattle.micro_m.specs.declared.table.Picked.{Picked}
use Rattle.micro_m.specs.declared.table.Picked.TheVariants.{Cell, Fixed}
use Rattle.micro_m.specs.Bases.{definition_of, IsValidBase, IsWithin, AreWithin, StepsAreWithin}
use Rattle.micro_m.specs.ReadTests.{is_cell, is_in_run, pick_reads, term_reads, arguments_read, steps_read}
use Rattle.micro_m.specs.Values.{Environment, applied, argument_values, folded, picked, picked_value, term_value}
use Rattle.micro_m.proofs.TurnLemmas.{option_cases}
use Rattle.why_report.specs.Reasons.{cell_reads}
use Rattle.why_report.specs.declared.part.Part.{Part}
use Rattle.why_report.specs.declared.part.Part.TheVariants.{Undefined, Overflow, Number, Read, ReadAt, Do}
use Rattle.why_report.specs.inner.Parts.{literal, selected, literal_read, table_parts, count_of}
use Rattle.why_report.specs.inner.Parts.{parts_of, argument_parts, step_parts, cell_parts, taken, pushed}
use Rattle.why_report.specs.inner.Parts.{stacked, executed, height, part_reads, parts_read, IsPartWithin, ArePartsWithin}
use Rattle.why_report.specs.inner.Plans.{PickedIsWithin}
use Rattle.why_report.proofs.CheckLemmas.{term-within}
use Rattle.why_report.proofs.MarkLemmas.{pick-within}
use Rattle.why_report.proofs.ReadLemmas.{or-none, or-assoc}

-- ---- a part over the values that it takes

-- a part that takes the last values of a stack
pub over : (values : Environment) (part : Part) (rest : List Part) (stack arguments : List Value) → taken part ≡ length arguments
    → executed values (part ∷ rest) (stack ++ arguments) ≡ executed values rest (stack ++ pushed values arguments part ∷ [])
over values part rest stack arguments is =
    let kept : length (stack ++ arguments) - taken part ≡ length stack = omega (arith, length-append stack arguments) in
    ap (λ n. executed values rest (stacked values part (stack ++ arguments) n)) kept
    ∙ ap (λ (s : List Value). executed values rest (s ++ pushed values (drop (length stack) (stack ++ arguments)) part ∷ []))
    (take-append_seam stack arguments)
    ∙ ap (λ (s : List Value). executed values rest (stack ++ pushed values s part ∷ [])) (drop-append_seam stack arguments)

-- a part that takes nothing
alone : (values : Environment) (part : Part) (rest : List Part) (stack : List Value) → taken part ≡ 0
    → executed values (part ∷ rest) stack ≡ executed values rest (stack ++ pushed values [] part ∷ [])
alone values part rest stack is =
    ap (executed values (part ∷ rest)) (sym (append-nil stack)) ∙ over values part rest stack [] is

literal-run : (values : Environment) (v : Value) (rest : List Part) (stack : List Value)
    → executed values (literal v ∷ rest) stack ≡ executed values rest (stack ++ v ∷ [])
literal-run values Undef rest stack = alone values Undefined rest stack refl
literal-run values Over rest stack = alone values Overflow rest stack refl
literal-run values (Num z) rest stack = alone values (Number z) rest stack refl

selected-run : (values : Environment) (p : Picked) (rest : List Part) (stack : List Value)
    → executed values (selected p ∷ rest) stack ≡ executed values rest (stack ++ picked_value values p ∷ [])
selected-run values (Cell c) rest stack = alone values (Read c) rest stack refl
selected-run values (Fixed v) rest stack = literal-run values v rest stack

-- ---- a term

-- parts give a value, whatever is on the stack and whatever follows
abbrev Gives : Environment → List Part → Value → Type 0
Gives values parts v = (rest : List Part) (stack : List Value) → executed values (parts ++ rest) stack ≡ executed values rest (stack ++ v ∷ [])

-- a table read at an index that isn't a literal
index-run : (values : Environment) (first size : ℕ) (parts : List Part) (v : Value) → Gives values parts v
    → Gives values (parts ++ ReadAt first size ∷ []) (picked_value values (picked first size v))
index-run values first size parts v gives rest stack =
    ap (λ (ps : List Part). executed values ps stack) (append_assoc parts (ReadAt first size ∷ []) rest)
    ∙ gives (ReadAt first size ∷ rest) stack
    ∙ over values (ReadAt first size) rest stack (v ∷ []) refl

counts : (values : Environment) (all : Trees) → count_of all ≡ length (argument_values values all)
counts values none = refl
counts values (more a rest) = omega (arith, counts values rest)

pub counted : (all : List Tree) → length all ≡ count_of (trees_of all)
counted [] = refl
counted (a ∷ rest) = omega (arith, counted rest)

mutual
  pub term-run : (values : Environment) (t : Tree) → Gives values (parts_of t) (term_value values t)
  term-run values (lit v) rest stack = literal-run values v rest stack
  term-run values (cell c) rest stack = alone values (Read c) rest stack refl
  term-run values (pick first size (lit v)) rest stack = selected-run values (picked first size v) rest stack
  term-run values (pick first size (cell c)) rest stack =
      index-run values first size (parts_of (cell c)) (values c) (term-run values (cell c)) rest stack
  term-run values (pick first size (pick f s i)) rest stack =
      index-run values first size (parts_of (pick f s i)) (term_value values (pick f s i)) (term-run values (pick f s i)) rest stack
  term-run values (pick first size (apply o all)) rest stack =
      index-run values first size (parts_of (apply o all)) (term_value values (apply o all)) (term-run values (apply o all)) rest stack
  term-run values (pick first size (chain a steps)) rest stack =
      index-run values first size (parts_of (chain a steps)) (term_value values (chain a steps)) (term-run values (chain a steps)) rest stack
  term-run values (apply op all) rest stack =
      ap (λ (ps : List Part). executed values ps stack) (append_assoc (argument_parts all) (Do op (count_of all) ∷ []) rest)
      ∙ arguments-run values all (Do op (count_of all) ∷ rest) stack
      ∙ over values (Do op (count_of all)) rest stack (argument_values values all) (counts values all)
  term-run values (chain a steps) rest stack =
      ap (λ (ps : List Part). executed values ps stack) (append_assoc (parts_of a) (step_parts steps) rest)
      ∙ term-run values a (step_parts steps ++ rest) stack
      ∙ steps-run values steps (term_value values a) rest stack

  arguments-run : (values : Environment) (all : Trees) (rest : List Part) (stack : List Value)
      → executed values (argument_parts all ++ rest) stack ≡ executed values rest (stack ++ argument_values values all)
  arguments-run values none rest stack = ap (executed values rest) (sym (append-nil stack))
  arguments-run values (more a all) rest stack =
      ap (λ (ps : List Part). executed values ps stack) (append_assoc (parts_of a) (argument_parts all) rest)
      ∙ term-run values a (argument_parts all ++ rest) stack
      ∙ arguments-run values all rest (stack ++ term_value values a ∷ [])
      ∙ ap (executed values rest) (append_assoc stack (term_value values a ∷ []) (argument_values values all))

  steps-run : (values : Environment) (steps : Steps) (v : Value) (rest : List Part) (stack : List Value)
      → executed values (step_parts steps ++ rest) (stack ++ v ∷ []) ≡ executed values rest (stack ++ folded values v steps ∷ [])
  steps-run values end v rest stack = refl
  steps-run values (step op a steps) v rest stack =
      let w = term_value values a in
      ap (λ (ps : List Part). executed values ps (stack ++ v ∷ [])) (append_assoc (parts_of a) (Do op 2 ∷ step_parts steps) rest)
      ∙ term-run values a (Do op 2 ∷ step_parts steps ++ rest) (stack ++ v ∷ [])
      ∙ ap (executed values (Do op 2 ∷ step_parts steps ++ rest)) (append_assoc stack (v ∷ []) (w ∷ []))
      ∙ over values (Do op 2) (step_parts steps ++ rest) stack (v ∷ w ∷ []) refl
      ∙ steps-run values steps (op_value op v w Undef) rest stack

-- the value of a cell's parts, or another where it has none
pub cell-value : (base : Base) (values : Environment) (c : ℕ) (other : Value)
    → get_or (executed values (cell_parts base c) []) 0 other ≡ option_map_or (term_value values) (definition_of base c) other
cell-value base values c other = option_cases (definition_of base c)
    (λ (n : definition_of base c ≡ None).
    ap (λ o. get_or (executed values (option_map_or parts_of o []) []) 0 other) n ∙ sym (ap (λ o. option_map_or (term_value values) o other) n))
    (λ t (s : definition_of base c ≡ Some t).
    ap (λ o. get_or (executed values (option_map_or parts_of o []) []) 0 other) s
    ∙ ap (λ (ps : List Part). get_or (executed values ps []) 0 other) (sym (append-nil (parts_of t)))
    ∙ ap (λ (vs : List Value). get_or vs 0 other) (term-run values t [] [])
    ∙ sym (ap (λ o. option_map_or (term_value values) o other) s))

-- ---- what is read

read-append : (xs ys : List Part) (c : ℕ) → parts_read (xs ++ ys) c ≡ (parts_read xs c || parts_read ys c)
read-append [] ys c = refl
read-append (x ∷ xs) ys c =
    ap (λ b. part_reads x c || b) (read-append xs ys c) ∙ sym (or-assoc (part_reads x c) (parts_read xs c) (parts_read ys c))

literal-reads : (v : Value) (c : ℕ) → part_reads (literal v) c ≡ false
literal-reads Undef c = refl
literal-reads Over c = refl
literal-reads (Num z) c = refl

selected-reads : (p : Picked) (c : ℕ) → part_reads (selected p) c ≡ is_cell p c
selected-reads (Cell d) c = refl
selected-reads (Fixed v) c = literal-reads v c

index-reads : (first size c : ℕ) (parts : List Part) (b : Bool) → parts_read parts c ≡ b
    → parts_read (parts ++ ReadAt first size ∷ []) c ≡ (b || is_in_run first size c)
index-reads first size c parts b is =
    read-append parts (ReadAt first size ∷ []) c ∙ ap (λ x. x || (is_in_run first size c || false)) is
    ∙ ap (λ x. b || x) (or-none (is_in_run first size c))

mutual
  pub reads-same : (t : Tree) (c : ℕ) → parts_read (parts_of t) c ≡ term_reads t c
  reads-same (lit v) c = or-none (part_reads (literal v) c) ∙ literal-reads v c
  reads-same (cell d) c = or-none (part_reads (Read d) c)
  reads-same (pick first size (lit v)) c = or-none (part_reads (selected (picked first size v)) c) ∙ selected-reads (picked first size v) c
  reads-same (pick first size (cell d)) c = index-reads first size c (parts_of (cell d)) (term_reads (cell d) c) (reads-same (cell d) c)
  reads-same (pick first size (pick f s i)) c = index-reads first size c (parts_of (pick f s i)) (term_reads (pick f s i) c) (reads-same (pick f s i) c)
  reads-same (pick first size (apply o all)) c = index-reads first size c (parts_of (apply o all)) (term_reads (apply o all) c) (reads-same (apply o all) c)
  reads-same (pick first size (chain a steps)) c =
      index-reads first size c (parts_of (chain a steps)) (term_reads (chain a steps) c) (reads-same (chain a steps) c)
  reads-same (apply op all) c =
      read-append (argument_parts all) (Do op (count_of all) ∷ []) c ∙ or-none (parts_read (argument_parts all) c) ∙ arguments-same all c
  reads-same (chain a steps) c =
      read-append (parts_of a) (step_parts steps) c ∙ ap (λ b. b || parts_read (step_parts steps) c) (reads-same a c)
      ∙ ap (λ b. term_reads a c || b) (steps-same steps c)

  arguments-same : (all : Trees) (c : ℕ) → parts_read (argument_parts all) c ≡ arguments_read all c
  arguments-same none c = refl
  arguments-same (more a all) c =
      read-append (parts_of a) (argument_parts all) c ∙ ap (λ b. b || parts_read (argument_parts all) c) (reads-same a c)
      ∙ ap (λ b. term_reads a c || b) (arguments-same all c)

  steps-same : (steps : Steps) (c : ℕ) → parts_read (step_parts steps) c ≡ steps_read steps c
  steps-same end c = refl
  steps-same (step op a steps) c =
      read-append (parts_of a) (Do op 2 ∷ step_parts steps) c ∙ ap (λ b. b || parts_read (step_parts steps) c) (reads-same a c)
      ∙ ap (λ b. term_reads a c || b) (steps-same steps c)

pub cell-reads : (base : Base) (x c : ℕ) → parts_read (cell_parts base x) c ≡ cell_reads base x c
cell-reads base x c = option_cases (definition_of base x)
    (λ (n : definition_of base x ≡ None).
    ap (λ o. parts_read (option_map_or parts_of o []) c) n ∙ sym (ap (λ o. option_map_or (λ t. term_reads t c) o false) n))
    (λ t (s : definition_of base x ≡ Some t).
    ap (λ o. parts_read (option_map_or parts_of o []) c) s ∙ reads-same t c ∙ sym (ap (λ o. option_map_or (λ u. term_reads u c) o false) s))

-- ---- the cells of a base

within-append : (n : ℕ) (xs ys : List Part) → ArePartsWithin n xs → ArePartsWithin n ys → ArePartsWithin n (xs ++ ys)
within-append n [] ys h k = k
within-append n (x ∷ xs) ys h k = (h.0, within-append n xs ys h.1 k)

literal-within : (n : ℕ) (v : Value) → IsPartWithin n (literal v)
literal-within n Undef = tt
literal-within n Over = tt
literal-within n (Num z) = tt

selected-within : (n : ℕ) (p : Picked) → PickedIsWithin n p → IsPartWithin n (selected p)
selected-within n (Cell c) h = h
selected-within n (Fixed v) h = literal-within n v

mutual
  within-same : (n : ℕ) (t : Tree) → IsWithin n t → ArePartsWithin n (parts_of t)
  within-same n (lit v) h = (literal-within n v, tt)
  within-same n (cell c) h = (h, tt)
  within-same n (pick first size (lit v)) h =
      (selected-within n (picked first size v) (pick-within n first size v (picked first size v) refl h.0), tt)
  within-same n (pick first size (cell c)) h = within-append n (parts_of (cell c)) (ReadAt first size ∷ []) (within-same n (cell c) h.1) (h.0, tt)
  within-same n (pick first size (pick f s i)) h =
      within-append n (parts_of (pick f s i)) (ReadAt first size ∷ []) (within-same n (pick f s i) h.1) (h.0, tt)
  within-same n (pick first size (apply o all)) h =
      within-append n (parts_of (apply o all)) (ReadAt first size ∷ []) (within-same n (apply o all) h.1) (h.0, tt)
  within-same n (pick first size (chain a steps)) h =
      within-append n (parts_of (chain a steps)) (ReadAt first size ∷ []) (within-same n (chain a steps) h.1) (h.0, tt)
  within-same n (apply op all) h = within-append n (argument_parts all) (Do op (count_of all) ∷ []) (arguments-within n all h) (tt, tt)
  within-same n (chain a steps) h = within-append n (parts_of a) (step_parts steps) (within-same n a h.0) (steps-within n steps h.1)

  arguments-within : (n : ℕ) (all : Trees) → AreWithin n all → ArePartsWithin n (argument_parts all)
  arguments-within n none h = tt
  arguments-within n (more a all) h = within-append n (parts_of a) (argument_parts all) (within-same n a h.0) (arguments-within n all h.1)

  steps-within : (n : ℕ) (steps : Steps) → StepsAreWithin n steps → ArePartsWithin n (step_parts steps)
  steps-within n end h = tt
  steps-within n (step op a steps) h =
      within-append n (parts_of a) (Do op 2 ∷ step_parts steps) (within-same n a h.0) (tt, steps-within n steps h.1)

pub cell-within : (base : Base) (c n : ℕ) → IsValidBase base → n ≡ base.cells → ArePartsWithin n (cell_parts base c)
cell-within base c n valid size = option_cases (definition_of base c)
    (λ (none_is : definition_of base c ≡ None). subst (λ o. ArePartsWithin n (option_map_or parts_of o [])) (sym none_is) tt)
    (λ t (s : definition_of base c ≡ Some t).
    subst (λ o. ArePartsWithin n (option_map_or parts_of o [])) (sym s) (within-same n t (term-within base c n t valid s size)))

-- ---- the height of a stack

pub height-low : (depth : ℕ) (parts : List Part) → depth ≤ height depth parts
height-low depth [] = omega arith
height-low depth (p ∷ parts) = omega arith

-- ---- the loop that runs a stack

-- The invariant after the first i parts: the rest completes what all give, and the stack holds no more values than there were parts.
pub record IsRun (values : Environment) (parts : List Part) (stack : List Value) (depth i : ℕ) : Type 0 where
  pub rest : executed values (drop i parts) (take depth stack) ≡ executed values parts []
  pub high : height depth (drop i parts) ≤ length stack
  pub few : depth ≤ i

pub run-first : (values : Environment) (parts : List Part) (stack : List Value) → height 0 parts ≤ length stack → IsRun values parts stack 0 0
run-first values parts stack high = record { rest = refl; high = high; few = omega arith }

-- the next part, and the room that it needs
pub run-room : (values : Environment) (parts : List Part) (stack : List Value) (depth i kept : ℕ) (part : Part) → i < length parts → part ≡ get_or parts i part
    → kept ≡ depth - taken part → IsRun values parts stack depth i
    → (kept ≤ depth) × (depth ≤ length stack) × (kept < length stack) × (height (kept + 1) (drop (i + 1) parts) ≤ length stack)
run-room values parts stack depth i kept part low is at run =
    let one : suc i ≡ i + 1 = omega arith in
    let here : drop i parts ≡ part ∷ drop (i + 1) parts = drop-cons parts i part low ∙ ap (λ (p : Part). p ∷ drop (suc i) parts) (sym is)
    ∙ ap (λ n. part ∷ drop n parts) one in
    let high : height depth (part ∷ drop (i + 1) parts) ≤ length stack = subst (λ (ps : List Part). height depth ps ≤ length stack) here run.high in
    let next : height (kept + 1) (drop (i + 1) parts) ≤ length stack = subst (λ n. height (n + 1) (drop (i + 1) parts) ≤ length stack) (sym at) (omega arith) in
    let lowest = height-low (kept + 1) (drop (i + 1) parts) in
    (omega arith, omega arith, omega arith, next)

pub run-turn : (values : Environment) (parts : List Part) (stack : List Value) (depth i kept : ℕ) (part : Part) (v : Value) → i < length parts
    → part ≡ get_or parts i part → kept ≡ depth - taken part → v ≡ pushed values (take (depth - kept) (drop kept stack)) part
    → IsRun values parts stack depth i → IsRun values parts (set stack kept v) (kept + 1) (i + 1)
run-turn values parts stack depth i kept part v low is at value run =
    let room = run-room values parts stack depth i kept part low is at run in
    let one : suc i ≡ i + 1 = omega arith in
    let here : drop i parts ≡ part ∷ drop (i + 1) parts = drop-cons parts i part low ∙ ap (λ (p : Part). p ∷ drop (suc i) parts) (sym is)
    ∙ ap (λ n. part ∷ drop n parts) one in
    let full : length (take depth stack) ≡ depth = omega (arith, length-take depth stack, room.1) in
    let left : length (take depth stack) - taken part ≡ kept = omega (arith, full, at) in
    let front : take kept (take depth stack) ≡ take kept stack = take-take kept depth stack room.0 in
    let gap : kept + (depth - kept) ≡ depth = omega (arith, room.0) in
    let back : drop kept (take depth stack) ≡ take (depth - kept) (drop kept stack) =
    ap (λ n. drop kept (take n stack)) (sym gap) ∙ drop-take kept (depth - kept) stack in
    record {
      rest = ap (executed values (drop (i + 1) parts)) (take_more_set stack kept v room.2
          ∙ ap (λ (w : Value). take kept stack ++ w ∷ []) (value ∙ ap (λ (vs : List Value). pushed values vs part) (sym back))
          ∙ ap (λ (vs : List Value). vs ++ pushed values (drop kept (take depth stack)) part ∷ []) (sym front))
          ∙ ap (λ n. executed values (drop (i + 1) parts) (stacked values part (take depth stack) n)) (sym left)
          ∙ ap (λ (ps : List Part). executed values ps (take depth stack)) (sym here)
          ∙ run.rest;
      high = subst (λ n. height (kept + 1) (drop (i + 1) parts) ≤ n) (sym (length-set stack kept v)) room.3;
      few = let few = run.few in omega (arith, room.0);
    }

-- the value at the end
pub run-end : (values : Environment) (parts : List Part) (stack : List Value) (depth i : ℕ) → length parts ≤ i → IsRun values parts stack depth i
    → take depth stack ≡ executed values parts []
run-end values parts stack depth i past run = ap (λ (ps : List Part). executed values ps (take depth stack)) (sym (drop_all i parts past)) ∙ run.rest

-- ---- the loop that finds the height

pub record IsHeight (parts : List Part) (depth most i : ℕ) : Type 0 where
  pub high : height 0 parts ≤ max most (height depth (drop i parts))
  pub low : depth ≤ most
  pub few : depth ≤ i

pub height-turn : (parts : List Part) (depth most i kept : ℕ) (part : Part) → i < length parts → part ≡ get_or parts i part → kept ≡ depth - taken part
    → IsHeight parts depth most i → IsHeight parts (kept + 1) (max most (kept + 1)) (i + 1)
height-turn parts depth most i kept part low is at h =
    let one : suc i ≡ i + 1 = omega arith in
    let here : drop i parts ≡ part ∷ drop (i + 1) parts = drop-cons parts i part low ∙ ap (λ (p : Part). p ∷ drop (suc i) parts) (sym is)
    ∙ ap (λ n. part ∷ drop n parts) one in
    let k = h.high in
    let l = h.low in
    let f = h.few in
    let same : height depth (drop i parts) ≡ max depth (height (kept + 1) (drop (i + 1) parts)) = ap (height depth) here
    ∙ ap (λ n. max depth (height (n + 1) (drop (i + 1) parts))) (sym at) in
    record { high = omega arith; low = omega arith; few = omega arith }

pub height-end : (parts : List Part) (depth most i : ℕ) → length parts ≤ i → IsHeight parts depth most i → height 0 parts ≤ most
height-end parts depth most i past h =
    let e : height depth (drop i parts) ≡ depth = ap (height depth) (drop_all i parts past) in
    let k = h.high in
    let l = h.low in
    omega arith
