-- The literals of rules without loops: the literals of the text, and the numbers that replace letters and `X`.
use Rattle.std.proofs.Common.{◌≡◌, ℕ, zero, suc, ◌+◌, ◌*◌, ◌<◌, ◌≤◌, Bool, true, false, cond, nat_le, List, [], ◌∷◌, length, map, filter, Option, None, Some}
use Rattle.std.proofs.Common.{pos, refl, leb-true, arith}
use Rattle.std.specs.Prelude.{IfSome, IsTrue}
use Rattle.std.specs.Char.{is_ascii_digit}
use Rattle.std.specs.Str.{bytes_eq}
use Rattle.std.specs.Str.Parse.{AllDigits, digits_value}
use Rattle.std.specs.List.{AllByRecursion, flat_map, range_with_len}
use Rattle.std.proofs.lemmas.Int.{ints}
use Rattle.std.proofs.lemmas.Str.Parse.{digits_value_short, numerals_by_value, tells_digits}
use Rattle.m_places.specs.declared.place.Place.{Place}
use Rattle.m_places.specs.declared.limits.TheConstants.{TABLE_CELLS}
use Rattle.m_fixed.specs.Amounts.{IsAmount, unit}
use Rattle.m_fixed.specs.Text.{is_digits, only_digits}
use Rattle.m_fixed.proofs.Decimals.{both, digit_small}
use Rattle.m_ast.specs.Items.{variable_size}
use Rattle.m_ast.specs.Syntax.{Syntax, lit, named, the_x, cell, apply, chain, among, loop, Terms, no_terms, a_term, Links, no_links, a_link, Members}
use Rattle.m_ast.specs.Syntax.{no_members, a_member}
use Rattle.m_ast.specs.declared.item.Formula.{Formula}
use Rattle.m_ast.specs.declared.item.Item.{Item}
use Rattle.m_ast.specs.declared.item.Item.TheVariants.{Variable, Rule, Verif, Error, Silent}
use Rattle.m_ast.specs.declared.item.Slot.{Slot}
use Rattle.m_ast.specs.declared.item.Slot.TheVariants.{Whole, Cell, Every}
use Rattle.m_symbols.specs.declared.variable.Variable.{Variable as Declaration}
use Rattle.m_symbols.specs.Declarations.{Declared}
use Rattle.m_ast.specs.declared.plain_rules.Definition.{Definition}
use Rattle.m_symbols.specs.TableSizes.{size_among, table_size}
use Rattle.loop_values.specs.Letters.{Letters, no_letters, replaced}
use Rattle.loop_values.specs.Headers.{instances, all_indexes}
use Rattle.index_expand.specs.Terms.{number_term, is_number_word, x_term, added, summed, expanded, expanded_terms, expanded_links, expanded_members}
use Rattle.index_expand.specs.Expansion.{counts_in, defined_cell, each_cell, definitions_at, formula_definitions, item_definitions, expansion}
use Rattle.m_compile.proofs.words.Items.{all_append}
use Rattle.report_laws.proofs.Literals.{SaysAmounts, TermsSayAmounts, LinksSayAmounts, MembersSayAmounts}
use Rattle.report_laws.proofs.Items.{FormulaSays, ItemSays}

-- ---- numbers

small_amount : (n : ℕ) → n < 1_000_000_000_000 → IsAmount (pos (n * unit))
small_amount n h = record { low = omega (arith, ints, h); high = omega (arith, ints, h) }

digit_word : (ds : List ℕ) → IsTrue (only_digits ds) → AllDigits 10 ds
digit_word [] h = tt
digit_word (d ∷ ds) h =
    let p = both (is_ascii_digit d) (only_digits ds) h in
    let s = digit_small d p.0 in
    (omega (arith, s), digit_word ds p.1)

word_value : (word : List ℕ) → is_number_word word ≡ true → digits_value 10 word < 1_000_000_000_000
word_value word h =
    let p = both (is_digits word) (nat_le (length word) 12) h in
    digits_value_short (numerals_by_value (AllDigits 10) tells_digits) word 12 (digit_word word (both (only_digits word) _ p.0).0)
    (leb-true (length word) 12 p.1)

word_meaning : (word : List ℕ) (place : Place) (b : Bool) → is_number_word word ≡ b
    → SaysAmounts (cond b (number_term (digits_value 10 word)) (named word place))
word_meaning word place true h = small_amount (digits_value 10 word) (word_value word h)
word_meaning word place false h = tt

-- the number of a table's cell is small
abbrev IsSmall : Option ℕ → Type 0
IsSmall cell_number = IfSome cell_number (λ k. k < 1_000_000_000_000)

x_meaning : (cell_number : Option ℕ) (place : Place) → IsSmall cell_number → SaysAmounts (x_term cell_number place)
x_meaning (Some k) place h = small_amount k h
x_meaning None place h = tt

-- ---- terms

added_mean : (ts : List Syntax) → AllByRecursion SaysAmounts ts → LinksSayAmounts (added ts)
added_mean [] h = tt
added_mean (t ∷ ts) h = (h.0, added_mean ts h.1)

summed_meaning : (ts : List Syntax) → AllByRecursion SaysAmounts ts → SaysAmounts (summed ts)
summed_meaning [] h = tt
summed_meaning (a ∷ []) h = h.0
summed_meaning (a ∷ b ∷ ts) h = (h.0, added_mean (b ∷ ts) h.1)

all_mapped : {A B : Type 0} (f : A → B) (Q : B → Type 0) → ((x : A) → Q (f x)) → (xs : List A) → AllByRecursion Q (map f xs)
all_mapped f Q h [] = tt
all_mapped f Q h (x ∷ xs) = (h x, all_mapped f Q h xs)

mutual
  expanded_meaning : (cell_number : Option ℕ) (letters : Letters) (t : Syntax) → IsSmall cell_number → SaysAmounts t
      → SaysAmounts (expanded cell_number letters t)
  expanded_meaning k letters (lit v) s h = h
  expanded_meaning k letters (named word place) s h = word_meaning (replaced letters word) place (is_number_word (replaced letters word)) refl
  expanded_meaning k letters (the_x place) s h = x_meaning k place s
  expanded_meaning k letters (cell word index place) s h = expanded_meaning k letters index s h
  expanded_meaning k letters (apply op all) s h = expanded_terms_mean k letters all s h
  expanded_meaning k letters (chain a all) s h = (expanded_meaning k letters a s h.0, expanded_links_mean k letters all s h.1)
  expanded_meaning k letters (among negated a all) s h = (expanded_meaning k letters a s h.0, expanded_members_mean k letters all s h.1)
  expanded_meaning k letters (loop header a) s h =
      summed_meaning (map (λ bound. expanded k bound a) (instances header.indexes letters))
      (all_mapped (λ bound. expanded k bound a) SaysAmounts (λ bound. expanded_meaning k bound a s h) (instances header.indexes letters))

  expanded_terms_mean : (cell_number : Option ℕ) (letters : Letters) (all : Terms) → IsSmall cell_number → TermsSayAmounts all
      → TermsSayAmounts (expanded_terms cell_number letters all)
  expanded_terms_mean k letters no_terms s h = tt
  expanded_terms_mean k letters (a_term a rest) s h = (expanded_meaning k letters a s h.0, expanded_terms_mean k letters rest s h.1)

  expanded_links_mean : (cell_number : Option ℕ) (letters : Letters) (all : Links) → IsSmall cell_number → LinksSayAmounts all
      → LinksSayAmounts (expanded_links cell_number letters all)
  expanded_links_mean k letters no_links s h = tt
  expanded_links_mean k letters (a_link op a rest) s h = (expanded_meaning k letters a s h.0, expanded_links_mean k letters rest s h.1)

  expanded_members_mean : (cell_number : Option ℕ) (letters : Letters) (all : Members) → IsSmall cell_number → MembersSayAmounts all
      → MembersSayAmounts (expanded_members cell_number letters all)
  expanded_members_mean k letters no_members s h = tt
  expanded_members_mean k letters (a_member a b rest) s h = (
    expanded_meaning k letters a s h.0,
    expanded_meaning k letters b s h.1,
    expanded_members_mean k
        letters rest s h.2,
  )

-- ---- definitions

abbrev pub DefinitionSays : Definition → Type 0
DefinitionSays d = SaysAmounts d.term

abbrev HasFewCells : Declaration → Type 0
HasFewCells v = IfSome (variable_size v.item) (λ size. size ≤ TABLE_CELLS)

few_among : (vs : List Declaration) (name : List ℕ) → AllByRecursion HasFewCells vs → IfSome (size_among vs name) (λ size. size ≤ TABLE_CELLS)
few_among [] name h = tt
few_among (v ∷ vs) name h = by (bytes_eq name v.item.name) (few_among vs name h.1)
  where
    by : (b : Bool) → IfSome (size_among vs name) (λ size. size ≤ TABLE_CELLS)
        → IfSome (cond b (variable_size v.item) (size_among vs name)) (λ size. size ≤ TABLE_CELLS)
    by true k = h.0
    by false k = k

cells_mean : (formula : Formula) (letters : Letters) (first n : ℕ) → first + n ≤ TABLE_CELLS → FormulaSays formula
    → AllByRecursion DefinitionSays (map (defined_cell formula letters) (range_with_len first n))
cells_mean formula letters first zero few h = tt
cells_mean formula letters first (suc n) few h =
    (expanded_meaning (Some first) letters formula.term (omega (arith, few)) h, cells_mean formula letters (first + 1) n (omega (arith, few)) h)

each_meaning : (formula : Formula) (letters : Letters) (size : Option ℕ) → IfSome size (λ s. s ≤ TABLE_CELLS) → FormulaSays formula
    → AllByRecursion DefinitionSays (each_cell formula letters size)
each_meaning formula letters None few h = (expanded_meaning None letters formula.term tt h, tt)
each_meaning formula letters (Some size) few h = cells_mean formula letters 0 size (omega (arith, few)) h

slot_meaning : (declared : Declared) (formula : Formula) (slot : Slot) (letters : Letters) → AllByRecursion HasFewCells declared.variables → FormulaSays formula
    → AllByRecursion DefinitionSays (definitions_at declared formula slot letters)
slot_meaning declared formula Whole letters few h = (expanded_meaning None letters formula.term tt h, tt)
slot_meaning declared formula (Cell k) letters few h = (expanded_meaning None letters formula.term tt h, tt)
slot_meaning declared formula Every letters few h = each_meaning formula letters (table_size declared (replaced letters formula.target))
    (few_among declared.variables (replaced letters formula.target) few) h

all_flat : {A B : Type 0} (f : A → List B) (P : A → Type 0) (Q : B → Type 0) → ((x : A) → P x → AllByRecursion Q (f x)) → (xs : List A) → AllByRecursion P xs
    → AllByRecursion Q (flat_map f xs)
all_flat f P Q h [] a = tt
all_flat f P Q h (x ∷ xs) a = all_append Q (f x) (flat_map f xs) (h x a.0) (all_flat f P Q h xs a.1)

every : {A : Type 0} (xs : List A) → AllByRecursion (λ x. Unit {0}) xs
every [] = tt
every (x ∷ xs) = (tt, every xs)

formula_meaning : (declared : Declared) → AllByRecursion HasFewCells declared.variables → (formula : Formula) → FormulaSays formula
    → AllByRecursion DefinitionSays (formula_definitions declared formula)
formula_meaning declared few formula h =
    all_flat (definitions_at declared formula formula.slot) (λ letters. Unit {0}) DefinitionSays
    (λ letters u. slot_meaning declared formula formula.slot letters few h)
    (instances (all_indexes formula.loops) no_letters) (every (instances (all_indexes formula.loops) no_letters))

item_meaning : (declared : Declared) → AllByRecursion HasFewCells declared.variables → (item : Item) → ItemSays item
    → AllByRecursion DefinitionSays (item_definitions declared item)
item_meaning declared few (Variable v) h = tt
item_meaning declared few (Rule r) h = all_flat (formula_definitions declared) FormulaSays DefinitionSays (formula_meaning declared few) r.formulas h
item_meaning declared few (Verif v) h = tt
item_meaning declared few (Error e) h = tt
item_meaning declared few (Silent p) h = tt

all_kept : {A : Type 0} (P : A → Type 0) (test : A → Bool) (xs : List A) → AllByRecursion P xs → AllByRecursion P (filter test xs)
all_kept P test [] h = tt
all_kept P test (x ∷ xs) h = by (test x) (all_kept P test xs h.1)
  where
    by : (b : Bool) → AllByRecursion P (filter test xs) → AllByRecursion P (cond b (x ∷ filter test xs) (filter test xs))
    by true k = (h.0, k)
    by false k = k

pub definitions_mean : (items : List Item) (application : List ℕ) (declared : Declared) → AllByRecursion HasFewCells declared.variables
    → AllByRecursion ItemSays items
    → AllByRecursion DefinitionSays (expansion items application declared).definitions
definitions_mean items application declared few h =
    all_flat (item_definitions declared) ItemSays DefinitionSays (item_meaning declared few) (filter (counts_in application) items)
    (all_kept ItemSays (counts_in application) items h)
