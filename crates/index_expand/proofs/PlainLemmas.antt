-- The expansion of whole items is plain: its terms are whole and have no loop, and no `T[X]` is of
-- a declared table.
use Rattle.std.proofs.Common.{◌≡◌, ◌≢◌, ℕ, Bool, true, false, cond, List, [], ◌∷◌, map, refl, sym, subst}
use Rattle.std.specs.Prelude.{All, Option, Some, None, IfOk, Result, Ok, Err, MatchResult, filter}
use Rattle.std.specs.List.{flat_map, range_with_len}
use Rattle.std.specs.Str.Parse.{digits_value}
use Rattle.std.proofs.lemmas.List.Elements.{All-nil, All-cons, All-head, All-tail, All-append, All-filter}
use Rattle.m_places.specs.declared.place.Place.{Place}
use Rattle.m_ast.specs.declared.item.Formula.{Formula}
use Rattle.m_ast.specs.declared.item.CheckItem.{CheckItem}
use Rattle.m_ast.specs.declared.item.Item.{Item}
use Rattle.m_ast.specs.declared.item.Item.TheVariants.{Variable, Rule, Verif, Error, Silent}
use Rattle.m_ast.specs.declared.item.Slot.{Slot}
use Rattle.m_ast.specs.declared.item.Slot.TheVariants.{Whole, Cell, Every}
use Rattle.m_ast.specs.Syntax.{Syntax, lit, named, the_x, cell, apply, chain, among, loop, Terms, no_terms, a_term, Links, no_links, a_link, Members}
use Rattle.m_ast.specs.Syntax.{no_members, a_member}
use Rattle.m_ast.specs.Whole.{IsWhole, AreWholeTerms, AreWholeLinks, AreWholeMembers, HasNoLoop, HaveNoLoopTerms, HaveNoLoopLinks, HaveNoLoopMembers}
use Rattle.m_ast.specs.Whole.{IsWholeItem, IsWholeFormula, IsWholeCheck}
use Rattle.m_symbols.specs.Declarations.{Declared}
use Rattle.m_ast.specs.declared.plain_rules.Plain.{Plain}
use Rattle.m_symbols.specs.TableSizes.{table_size}
use Rattle.index_expand.specs.Plain.{IsPlain, IsPlainDefinition, IsPlainCondition}
use Rattle.loop_values.specs.Letters.{Letters, no_letters, replaced}
use Rattle.loop_values.specs.Headers.{instances, all_indexes}
use Rattle.index_expand.specs.declared.fault.ExpandFault.{ExpandFault}
use Rattle.index_expand.specs.Terms.{expanded, expanded_terms, expanded_links, expanded_members, word_term, x_term, is_number_word, number_term, added, summed}
use Rattle.index_expand.specs.Expansion.{counts_in, defined_cell, each_cell, definitions_at, formula_definitions, item_definitions, item_conditions}
use Rattle.index_expand.specs.Expansion.{condition_of, expansion}

-- ---- whole terms

word_whole : (word : List ℕ) (place : Place) → IsWhole (word_term word place)
word_whole word place = choice (is_number_word word)
  where
    choice : (b : Bool) → IsWhole (cond b (number_term (digits_value 10 word)) (named word place))
    choice true = tt
    choice false = tt

word_loopless : (word : List ℕ) (place : Place) → HasNoLoop (word_term word place)
word_loopless word place = choice (is_number_word word)
  where
    choice : (b : Bool) → HasNoLoop (cond b (number_term (digits_value 10 word)) (named word place))
    choice true = tt
    choice false = tt

x_whole : (k : Option ℕ) (place : Place) → IsWhole (x_term k place)
x_whole None place = tt
x_whole (Some n) place = tt

x_loopless : (k : Option ℕ) (place : Place) → HasNoLoop (x_term k place)
x_loopless None place = tt
x_loopless (Some n) place = tt

added_whole : (all : List Syntax) → All IsWhole all → AreWholeLinks (added all)
added_whole [] h = tt
added_whole (a ∷ rest) h = (All-head IsWhole a rest h, added_whole rest (All-tail IsWhole a rest h))

added_loopless : (all : List Syntax) → All HasNoLoop all → HaveNoLoopLinks (added all)
added_loopless [] h = tt
added_loopless (a ∷ rest) h = (All-head HasNoLoop a rest h, added_loopless rest (All-tail HasNoLoop a rest h))

summed_whole : (all : List Syntax) → All IsWhole all → IsWhole (summed all)
summed_whole [] h = tt
summed_whole (a ∷ []) h = All-head IsWhole a [] h
summed_whole (a ∷ b ∷ rest) h = ((λ e. cc), All-head IsWhole a (b ∷ rest) h, added_whole (b ∷ rest) (All-tail IsWhole a (b ∷ rest) h))

summed_loopless : (all : List Syntax) → All HasNoLoop all → HasNoLoop (summed all)
summed_loopless [] h = tt
summed_loopless (a ∷ []) h = All-head HasNoLoop a [] h
summed_loopless (a ∷ b ∷ rest) h = (All-head HasNoLoop a (b ∷ rest) h, added_loopless (b ∷ rest) (All-tail HasNoLoop a (b ∷ rest) h))

all_map : {B : Type 0} (P : Syntax → Type 0) (f : B → Syntax) (h : (b : B) → P (f b)) (bs : List B) → All P (map f bs)
all_map P f h [] = All-nil P
all_map P f h (b ∷ bs) = All-cons P (f b) (map f bs) (h b) (all_map P f h bs)

some_links : (k : Option ℕ) (letters : Letters) (all : Links) → all ≢ no_links → expanded_links k letters all ≢ no_links
some_links k letters no_links h = absurd (h refl)
some_links k letters (a_link op a rest) h = λ e. cc

some_members : (k : Option ℕ) (letters : Letters) (all : Members) → all ≢ no_members → expanded_members k letters all ≢ no_members
some_members k letters no_members h = absurd (h refl)
some_members k letters (a_member a b rest) h = λ e. cc

mutual
  pub expanded_whole : (k : Option ℕ) (letters : Letters) (a : Syntax) → IsWhole a → IsWhole (expanded k letters a)
  expanded_whole k letters (lit v) h = tt
  expanded_whole k letters (named w p) h = word_whole (replaced letters w) p
  expanded_whole k letters (the_x p) h = x_whole k p
  expanded_whole k letters (cell w a p) h = expanded_whole k letters a h
  expanded_whole k letters (apply op all) h = terms_whole k letters all h
  expanded_whole k letters (chain a all) h = (some_links k letters all h.0, expanded_whole k letters a h.1, links_whole k letters all h.2)
  expanded_whole k letters (among n a all) h = (some_members k letters all h.0, expanded_whole k letters a h.1, members_whole k letters all h.2)
  expanded_whole k letters (loop header a) h = summed_whole _ (all_map IsWhole (λ bound. expanded k bound a) (λ bound. expanded_whole k bound a h.1)
      (instances header.indexes letters))

  terms_whole : (k : Option ℕ) (letters : Letters) (all : Terms) → AreWholeTerms all → AreWholeTerms (expanded_terms k letters all)
  terms_whole k letters no_terms h = tt
  terms_whole k letters (a_term a rest) h = (expanded_whole k letters a h.0, terms_whole k letters rest h.1)

  links_whole : (k : Option ℕ) (letters : Letters) (all : Links) → AreWholeLinks all → AreWholeLinks (expanded_links k letters all)
  links_whole k letters no_links h = tt
  links_whole k letters (a_link op a rest) h = (expanded_whole k letters a h.0, links_whole k letters rest h.1)

  members_whole : (k : Option ℕ) (letters : Letters) (all : Members) → AreWholeMembers all → AreWholeMembers (expanded_members k letters all)
  members_whole k letters no_members h = tt
  members_whole k letters (a_member a b rest) h = (expanded_whole k letters a h.0, expanded_whole k letters b h.1, members_whole k letters rest h.2)

mutual
  pub expanded_loopless : (k : Option ℕ) (letters : Letters) (a : Syntax) → HasNoLoop (expanded k letters a)
  expanded_loopless k letters (lit v) = tt
  expanded_loopless k letters (named w p) = word_loopless (replaced letters w) p
  expanded_loopless k letters (the_x p) = x_loopless k p
  expanded_loopless k letters (cell w a p) = expanded_loopless k letters a
  expanded_loopless k letters (apply op all) = terms_loopless k letters all
  expanded_loopless k letters (chain a all) = (expanded_loopless k letters a, links_loopless k letters all)
  expanded_loopless k letters (among n a all) = (expanded_loopless k letters a, members_loopless k letters all)
  expanded_loopless k letters (loop header a) = summed_loopless _ (all_map HasNoLoop (λ bound. expanded k bound a) (λ bound. expanded_loopless k bound a)
      (instances header.indexes letters))

  terms_loopless : (k : Option ℕ) (letters : Letters) (all : Terms) → HaveNoLoopTerms (expanded_terms k letters all)
  terms_loopless k letters no_terms = tt
  terms_loopless k letters (a_term a rest) = (expanded_loopless k letters a, terms_loopless k letters rest)

  links_loopless : (k : Option ℕ) (letters : Letters) (all : Links) → HaveNoLoopLinks (expanded_links k letters all)
  links_loopless k letters no_links = tt
  links_loopless k letters (a_link op a rest) = (expanded_loopless k letters a, links_loopless k letters rest)

  members_loopless : (k : Option ℕ) (letters : Letters) (all : Members) → HaveNoLoopMembers (expanded_members k letters all)
  members_loopless k letters no_members = tt
  members_loopless k letters (a_member a b rest) = (expanded_loopless k letters a, expanded_loopless k letters b, members_loopless k letters rest)

-- ---- plain items

all_flat : {A B : Type 0} (P : A → Type 0) (Q : B → Type 0) (f : A → List B) (h : (a : A) → P a → All Q (f a)) (xs : List A) → All P xs → All Q (flat_map f xs)
all_flat P Q f h [] all = All-nil Q
all_flat P Q f h (x ∷ xs) all = All-append Q (f x) (flat_map f xs) (h x (All-head P x xs all)) (all_flat P Q f h xs (All-tail P x xs all))

all_of : {A B : Type 0} (Q : B → Type 0) (f : A → B) (h : (a : A) → Q (f a)) (xs : List A) → All Q (map f xs)
all_of Q f h [] = All-nil Q
all_of Q f h (x ∷ xs) = All-cons Q (f x) (map f xs) (h x) (all_of Q f h xs)

all_flat_any : {A B : Type 0} (Q : B → Type 0) (f : A → List B) (h : (a : A) → All Q (f a)) (xs : List A) → All Q (flat_map f xs)
all_flat_any Q f h [] = All-nil Q
all_flat_any Q f h (x ∷ xs) = All-append Q (f x) (flat_map f xs) (h x) (all_flat_any Q f h xs)

one : {B : Type 0} (Q : B → Type 0) (b : B) → Q b → All Q (b ∷ [])
one Q b h = All-cons Q b [] h (All-nil Q)

cells_plain : (declared : Declared) (formula : Formula) (letters : Letters) (size : Option ℕ) → table_size declared (replaced letters formula.target) ≡ size
    → IsWhole formula.term → All (IsPlainDefinition declared) (each_cell formula letters size)
cells_plain declared formula letters None e h =
    one (IsPlainDefinition declared) _ (record {
      slot = e;
      whole = expanded_whole None letters formula.term h;
      loopless = expanded_loopless None letters
          formula.term;
    })
cells_plain declared formula letters (Some size) e h =
    all_of (IsPlainDefinition declared) (defined_cell formula letters)
    (λ k. record { slot = tt; whole = expanded_whole (Some k) letters formula.term h; loopless = expanded_loopless (Some k) letters formula.term })
    (range_with_len 0 size)

at_plain : (declared : Declared) (formula : Formula) (slot : Slot) (letters : Letters) → IsWhole formula.term
    → All (IsPlainDefinition declared) (definitions_at declared formula slot letters)
at_plain declared formula Whole letters h =
    one (IsPlainDefinition declared) _ (record {
      slot = tt;
      whole = expanded_whole None letters formula.term h;
      loopless = expanded_loopless None letters
          formula.term;
    })
at_plain declared formula (Cell k) letters h =
    one (IsPlainDefinition declared) _ (record {
      slot = tt;
      whole = expanded_whole None letters formula.term h;
      loopless = expanded_loopless None letters
          formula.term;
    })
at_plain declared formula Every letters h = cells_plain declared formula letters (table_size declared (replaced letters formula.target)) refl h

formula_plain : (declared : Declared) (formula : Formula) → IsWholeFormula formula → All (IsPlainDefinition declared) (formula_definitions declared formula)
formula_plain declared formula h =
    all_flat_any (IsPlainDefinition declared) (definitions_at declared formula formula.slot) (λ letters. at_plain declared formula formula.slot letters h.term)
    (instances (all_indexes formula.loops) no_letters)

definitions_plain : (declared : Declared) (item : Item) → IsWholeItem item → All (IsPlainDefinition declared) (item_definitions declared item)
definitions_plain declared (Variable v) h = All-nil (IsPlainDefinition declared)
definitions_plain declared (Rule r) h = all_flat IsWholeFormula (IsPlainDefinition declared) (formula_definitions declared) (formula_plain declared) r.formulas
    h
definitions_plain declared (Verif v) h = All-nil (IsPlainDefinition declared)
definitions_plain declared (Error e) h = All-nil (IsPlainDefinition declared)
definitions_plain declared (Silent p) h = All-nil (IsPlainDefinition declared)

conditions_plain : (item : Item) → IsWholeItem item → All IsPlainCondition (item_conditions item)
conditions_plain (Variable v) h = All-nil IsPlainCondition
conditions_plain (Rule r) h = All-nil IsPlainCondition
conditions_plain (Verif v) h = checks v.checks h
  where
    checks : (all : List CheckItem) → All IsWholeCheck all → All IsPlainCondition (map (condition_of v) all)
    checks [] h = All-nil IsPlainCondition
    checks (c ∷ cs) h =
        All-cons IsPlainCondition (condition_of v c) (map (condition_of v) cs)
        (record { whole = expanded_whole None no_letters c.condition (All-head IsWholeCheck c cs h); loopless = expanded_loopless None no_letters c.condition })
        (checks cs (All-tail IsWholeCheck c cs h))
conditions_plain (Error e) h = All-nil IsPlainCondition
conditions_plain (Silent p) h = All-nil IsPlainCondition

pub expansion_plain : (declared : Declared) (application : List ℕ) (items : List Item) → All IsWholeItem items
    → IsPlain declared (expansion items application declared)
expansion_plain declared application items h =
    let counted = All-filter (counts_in application) IsWholeItem items h in
    record {
      definitions = all_flat IsWholeItem (IsPlainDefinition declared) (item_definitions declared) (definitions_plain declared)
          (filter (counts_in application) items) counted;
      conditions = all_flat IsWholeItem IsPlainCondition item_conditions conditions_plain (filter (counts_in application) items) counted;
    }

-- a result is the expansion, so it is plain
pub answer_plain : (declared : Declared) (r : Result Plain ExpandFault) (A : Type 0) (F : ExpandFault → Type 0) (e : Plain)
    → MatchResult r (λ plain. A × (plain ≡ e)) F → IsPlain declared e → IfOk r (λ plain. IsPlain declared plain)
answer_plain declared (Ok plain) A F e h p = let P : Plain → Type 0 = λ x. IsPlain declared x in subst P (sym h.1) p
answer_plain declared (Err fault) A F e h p = tt
