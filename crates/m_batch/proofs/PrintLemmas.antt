-- The text of rows, part by part.
use Rattle.std.proofs.Common.{◌≡◌, ℕ, suc, ◌+◌, ◌*◌, ◌-◌, ◌<◌, ◌≤◌, length, get_or, take, drop, List, [], ◌∷◌, ◌++◌, refl, sym, ◌∙◌, ap, subst, append_assoc}
use Rattle.std.proofs.Common.{arith, ◌⊎◌, ⊎_elim, inl, inr}
use Rattle.std.specs.List.{AllByRecursion}
use Rattle.std.proofs.lemmas.Bool.{cases_lt}
use Rattle.std.proofs.lemmas.List.{drop_all, drop_more, drop-drop, length-drop, length-take, take-append-drop}
use native.Mathlib.Nat.{add-mul, one-mul}
use Rattle.observables.specs.declared.answer.Answer.{Answer}
use Rattle.reg_machine.specs.Flow.{Listing}
use Rattle.household.specs.declared.table.Row.{Row}
use Rattle.workers.specs.Parts.{AreOfParts, part_at}
use Rattle.m_batch.specs.Batch.{answers_of, row_answer}
use Rattle.m_batch.specs.Printing.{MayPrintEach, printed_count, printed_text}

-- ---- rows in two parts, with their answers

-- the position after one row and others
after : (at n : ℕ) → at + 1 + n ≡ at + suc n
after at n = omega arith

-- the position after some rows, or there are no more
abbrev pub Next : ℕ → ℕ → List Row → List Row → Type 0
Next at next one other = (next ≡ at + length one) ⊎ (other ≡ [])

module _ (text : ℕ → Row → Answer → List ℕ) (code : Listing) where
  -- the text of the rows from a position on
  abbrev pub text_from : ℕ → List Row → List ℕ
  text_from at rows = printed_text text at rows (answers_of code rows)

  pub text_split : (at : ℕ) (one other : List Row) → text_from at (one ++ other) ≡ text_from at one ++ text_from (at + length one) other
  text_split at [] other = let same : at ≡ at + 0 = omega arith in ap (λ k. text_from k other) same
  text_split at (row ∷ one) other =
      ap (λ rest. text at row (row_answer code row) ++ rest)
      (text_split (at + 1) one other ∙ ap (λ k. text_from (at + 1) one ++ text_from k other) (after at (length one)))
      ∙ sym (append_assoc (text at row (row_answer code row)) (text_from (at + 1) one) (text_from (at + length (row ∷ one)) other))

  pub text_next : (at : ℕ) (left one other : List Row) (next : ℕ) → left ≡ one ++ other → Next at next one other
      → text_from at left ≡ text_from at one ++ text_from next other
  text_next at left one other next is (inl there) =
      ap (text_from at) is ∙ text_split at one other ∙ ap (λ k. text_from at one ++ text_from k other) (sym there)
  text_next at left one other next is (inr none) =
      ap (text_from at) is ∙ text_split at one other
      ∙ ap (λ (rest : List ℕ). text_from at one ++ rest) (ap (text_from (at + length one)) none ∙ sym (ap (text_from next) none))

module _ (count : ℕ → Row → Answer → ℕ) (code : Listing) where
  abbrev pub count_from : ℕ → List Row → ℕ
  count_from at rows = printed_count count at rows (answers_of code rows)

  pub count_split : (at : ℕ) (one other : List Row) → count_from at (one ++ other) ≡ count_from at one + count_from (at + length one) other
  count_split at [] other = let same : at ≡ at + 0 = omega arith in ap (λ k. count_from k other) same ∙ omega arith
  count_split at (row ∷ one) other =
      let more = count_split (at + 1) one other in
      let there : count_from (at + 1 + length one) other ≡ count_from (at + length (row ∷ one)) other = ap (λ k. count_from k other) (after at (length one)) in
      omega (arith, more, there)

  pub count_next : (at : ℕ) (left one other : List Row) (next : ℕ) → left ≡ one ++ other → Next at next one other
      → count_from at left ≡ count_from at one + count_from next other
  count_next at left one other next is (inl there) =
      ap (count_from at) is ∙ count_split at one other ∙ ap (λ k. count_from at one + count_from k other) (sym there)
  count_next at left one other next is (inr none) =
      ap (count_from at) is ∙ count_split at one other
      ∙ ap (λ (rest : ℕ). count_from at one + rest) (ap (count_from (at + length one)) none ∙ sym (ap (count_from next) none))

module _ (may : ℕ → Row → Answer → Type 0) (code : Listing) where
  abbrev pub MayFrom : ℕ → List Row → Type 0
  MayFrom at rows = MayPrintEach may at rows (answers_of code rows)

  may_split : (at : ℕ) (one other : List Row) → MayFrom at (one ++ other) → MayFrom at one × MayFrom (at + length one) other
  may_split at [] other all = let same : at ≡ at + 0 = omega arith in (tt, subst (λ k. MayFrom k other) same all)
  may_split at (row ∷ one) other all =
      let rest = may_split (at + 1) one other all.1 in
      ((all.0, rest.0), subst (λ k. MayFrom k other) (after at (length one)) rest.1)

  may_there : (at next : ℕ) (one other : List Row) → Next at next one other → MayFrom (at + length one) other → MayFrom next other
  may_there at next one other (inl there) may_rest = subst (λ k. MayFrom k other) (sym there) may_rest
  may_there at next one other (inr none) may_rest = subst (MayFrom next) (sym none) tt

  pub may_next : (at : ℕ) (left one other : List Row) (next : ℕ) → left ≡ one ++ other → Next at next one other → MayFrom at left
      → MayFrom at one × MayFrom next other
  may_next at left one other next is there all =
      let both = may_split at one other (subst (MayFrom at) is all) in
      (both.0, may_there at next one other there both.1)

  -- the rows of a part may be printed
  pub may_part : (from at size : ℕ) (rows : List Row) → at ≤ length rows → MayFrom from rows → MayFrom (from + at) (part_at rows size at)
  may_part from at size rows inside all =
      let taken = length-take at rows in
      let here : from + at ≡ from + length (take at rows) = omega (arith, taken, inside) in
      let back = (may_next from rows (take at rows) (drop at rows) (from + at) (sym (take-append-drop at rows)) (inl here) all).1 in
      (may_next (from + at) (drop at rows) (part_at rows size at) (drop size (drop at rows)) (from + at + length (part_at rows size at))
      (sym (take-append-drop size (drop at rows))) (inl refl) back).0

-- a property of each row holds in both parts
pub each_next : {X : Type 0} (P : X → Type 0) (one other : List X) → AllByRecursion P (one ++ other) → AllByRecursion P one × AllByRecursion P other
each_next P [] other all = (tt, all)
each_next P (x ∷ one) other all = let rest = each_next P one other all.1 in ((all.0, rest.0), rest.1)

pub each_part : {X : Type 0} (P : X → Type 0) (at size : ℕ) (items : List X) → AllByRecursion P items → AllByRecursion P (part_at items size at)
each_part P at size items all =
    let back = (each_next P (take at items) (drop at items) (subst (AllByRecursion P) (sym (take-append-drop at items)) all)).1 in
    (each_next P (part_at items size at) (drop size (drop at items)) (subst (AllByRecursion P) (sym (take-append-drop size (drop at items))) back)).0

-- ---- rows divided into windows, or into parts of one size

-- the remaining rows begin with a window
pub window_next : (rows : List Row) (from end : ℕ) → from < end → end ≤ length rows
    → (drop from rows ≡ take (end - from) (drop from rows) ++ drop end rows) × Next from end (take (end - from) (drop from rows)) (drop end rows)
window_next rows from end some within =
    let there : from + (end - from) ≡ end = omega arith in
    let taken = length-take (end - from) (drop from rows) in
    let left = length-drop from rows in (
      sym (take-append-drop (end - from) (drop from rows))
          ∙ ap (λ (rest : List Row). take (end - from) (drop from rows) ++ rest) (drop-drop (end - from) from rows ∙ ap (λ k. drop k rows) there),
      inl (omega (arith, taken, left, some, within)),
    )

-- the remaining rows begin with a part
pub part_next : (rows part : List Row) (size n from : ℕ) → part ≡ part_at rows size (n * size)
    → (drop (n * size) rows ≡ part ++ drop ((n + 1) * size) rows) × Next (from + n * size) (from + (n + 1) * size) part (drop ((n + 1) * size) rows)
part_next rows part size n from is =
    let left = drop (n * size) rows in
    let next : (n + 1) * size ≡ n * size + size = omega (arith, add-mul n 1 size, one-mul size) in
    let taken = length-take size left in
    let long = length-drop (n * size) rows in
    let same = ap length is in (
      sym (take-append-drop size left) ∙ (λ i. sym is i ++ (drop-drop size (n * size) rows ∙ ap (λ k. drop k rows) (sym next)) i),
      ⊎_elim
          (λ (short : length left < size). inr (drop_all ((n + 1) * size) rows (omega (arith, short, long, next))))
          (λ (full : size ≤ length left). inl (omega (arith, full, same, taken, next)))
          (cases_lt (length left) size),
    )

-- the result for a part, then those for the rest
pub made_next : {U : Type 0} (gives : ℕ → List Row → U → Type 0) (size n : ℕ) (rows : List Row) (made : List U) (u d : U) → n < length made
    → u ≡ get_or made n d
    → AreOfParts gives size (n * size) (drop (n * size) rows) (drop n made)
    → gives (n * size) (part_at rows size (n * size)) u × AreOfParts gives size ((n + 1) * size) (drop ((n + 1) * size) rows) (drop (n + 1) made)
made_next {U} gives size n rows made u d inside is all =
    let next : n * size + size ≡ (n + 1) * size = omega (arith, add-mul n 1 size, one-mul size) in
    let unfolded = subst (λ (left : List U). AreOfParts gives size (n * size) (drop (n * size) rows) left) (drop_more made n d inside) all in (
      subst (gives (n * size) (part_at rows size (n * size))) (sym is) unfolded.1,
      subst (λ (left : List Row). AreOfParts gives size ((n + 1) * size) left (drop (n + 1) made)) (drop-drop size (n * size) rows ∙ ap (λ k. drop k rows) next)
          (subst (λ k. AreOfParts gives size k (drop size (drop (n * size) rows)) (drop (n + 1) made)) next unfolded.2),
    )

-- ---- rows and answers, in order

-- the position of the next row
there : (place k : ℕ) → place + k + 1 ≡ place + (k + 1)
there place k = omega arith

pub text_at : (text : ℕ → Row → Answer → List ℕ) (place : ℕ) (rows : List Row) (answers : List Answer) (k : ℕ) (row d : Row) (answer e : Answer)
    → k < length rows → k < length answers
    → row ≡ get_or rows k d → answer ≡ get_or answers k e
    → printed_text text (place + k) (drop k rows) (drop k answers) ≡ text (place + k) row answer ++ printed_text text (place + (k + 1)) (drop (k + 1) rows)
    (drop (k + 1) answers)
text_at text place rows answers k row d answer e rows_in answers_in is_row is_answer =
    (λ i. printed_text text (place + k) (drop_more rows k d rows_in i) (drop_more answers k e answers_in i))
    ∙ (λ i. text (place + k) (sym is_row i) (sym is_answer i) ++ printed_text text (there place k i) (drop (k + 1) rows) (drop (k + 1) answers))

pub count_at : (count : ℕ → Row → Answer → ℕ) (place : ℕ) (rows : List Row) (answers : List Answer) (k : ℕ) (row d : Row) (answer e : Answer) → k < length rows
    → k < length answers
    → row ≡ get_or rows k d → answer ≡ get_or answers k e
    → printed_count count (place + k) (drop k rows) (drop k answers) ≡ count (place + k) row answer + printed_count count (place + (k + 1)) (drop (k + 1) rows)
    (drop (k + 1) answers)
count_at count place rows answers k row d answer e rows_in answers_in is_row is_answer =
    (λ i. printed_count count (place + k) (drop_more rows k d rows_in i) (drop_more answers k e answers_in i))
    ∙ (λ i. count (place + k) (sym is_row i) (sym is_answer i) + printed_count count (there place k i) (drop (k + 1) rows) (drop (k + 1) answers))

pub may_at : (may : ℕ → Row → Answer → Type 0) (place : ℕ) (rows : List Row) (answers : List Answer) (k : ℕ) (row d : Row) (answer e : Answer) → k < length rows
    → k < length answers
    → row ≡ get_or rows k d → answer ≡ get_or answers k e → MayPrintEach may (place + k) (drop k rows) (drop k answers)
    → may (place + k) row answer × MayPrintEach may (place + (k + 1)) (drop (k + 1) rows) (drop (k + 1) answers)
may_at may place rows answers k row d answer e rows_in answers_in is_row is_answer all =
    let both = subst (λ (left : List Answer). MayPrintEach may (place + k) (get_or rows k d ∷ drop (k + 1) rows) left) (drop_more answers k e answers_in)
    (subst (λ (rs : List Row). MayPrintEach may (place + k) rs (drop k answers)) (drop_more rows k d rows_in) all) in (
      subst (λ (r : Row). may (place + k) r answer) (sym is_row) (subst (λ (a : Answer). may (place + k) (get_or rows k d) a) (sym is_answer) both.0),
      subst (λ n. MayPrintEach may n (drop (k + 1) rows) (drop (k + 1) answers)) (there place k) both.1,
    )

-- if each row may be printed with each answer, all may
pub each_may : (may : ℕ → Row → Answer → Type 0) → ((at : ℕ) (row : Row) (answer : Answer) → may at row answer)
    → (at : ℕ) (rows : List Row) (answers : List Answer) → MayPrintEach may at rows answers
each_may may all at [] answers = tt
each_may may all at (row ∷ rows) [] = tt
each_may may all at (row ∷ rows) (answer ∷ answers) = (all at row answer, each_may may all (at + 1) rows answers)
