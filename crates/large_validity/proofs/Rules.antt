-- The rules of the base of `large N` without loops: they have no fault, and the same terms.
use Rattle.std.proofs.Common.{◌≡◌, ℕ, zero, suc, ◌+◌, ◌-◌, ◌*◌, ◌<◌, ◌≤◌, false, cond, nat_le, List, [], ◌∷◌, ◌++◌, replicate, codes, decimal, Option, Some}
use Rattle.std.proofs.Common.{None, refl, ap, ◌∙◌, arith}
use Rattle.std.specs.Prelude.{filter, slice_index_or, unwrap_or}
use Rattle.std.specs.List.{AllByRecursion, list_any, flat_map}
use Rattle.std.specs.Option.{option_or}
use Rattle.std.proofs.lemmas.Bool.{le-ltb, lt-leb}
use Rattle.std.proofs.lemmas.List.Elements.{filter-append}
use Rattle.m_places.specs.declared.place.Place.{Place}
use Rattle.m_text.specs.Bytes.{IsDigit}
use Rattle.m_ast.specs.Syntax.{Syntax, named, lit}
use Rattle.m_fixed.specs.declared.amount.Value.TheVariants.{Num}
use Rattle.m_fixed.specs.declared.operator.Op.TheVariants as ops
use Rattle.m_terms.specs.Grammar.{two}
use Rattle.m_ast.specs.declared.item.Item.{Item}
use Rattle.m_ast.specs.declared.item.Slot.TheVariants.{Whole}
use Rattle.m_symbols.specs.Declarations.{Declared}
use Rattle.loop_values.specs.Letters.{Letters, no_letters, replaced}
use Rattle.m_ast.specs.declared.plain_rules.Plain.{Plain}
use Rattle.m_ast.specs.declared.plain_rules.Definition.{Definition}
use Rattle.m_ast.specs.declared.plain_rules.Condition.{Condition}
use Rattle.index_expand.specs.declared.fault.ExpandFault.TheVariants.{TooManyParts}
use Rattle.index_expand.specs.LoopFaults.{Scope, no_scope, is_unbound_letter, word_faults, term_faults, item_faults, least}
use Rattle.index_expand.specs.Terms.{expanded, word_term}
use Rattle.index_expand.specs.Expansion.{counts_in, item_definitions, item_conditions, expansion}
use Rattle.index_expand.specs.Faults.{expand_fault, too_many}
use Rattle.large_validity.proofs.Numerals.{whole_decimal, zero_digit}
use Rattle.large_validity.proofs.Pieces.{amount, after}
use Rattle.large_validity.proofs.Lines.{first_line, declared_after, rules_after, numbered_line}
use Rattle.large_validity.proofs.Items.{formula_place, maximum_term, sum_term, rule_item, the_check, input_place, other_place, verification_place}
use Rattle.large_validity.proofs.Items.{condition_place, checked_place, declared_items, numbered_item, rule_items, first_item, end_items, base_items}
use Rattle.large_validity.proofs.Variables.{error_place}

abbrev pub iliad : List ℕ
iliad = codes "iliad"

-- the verification, which is the last item
abbrev pub last_check : List ℕ → Place → Item
last_check k p = the_check k (verification_place p) (condition_place (verification_place p)) (checked_place (condition_place (verification_place p)))

-- the items that belong to the application
abbrev pub rules_and_check : Place → ℕ → List Item
rules_and_check p n =
    rule_items (declared_after p n) (n - 1) ++ (first_item (rules_after (declared_after p n) (n - 1))
    ∷ last_check (decimal (n - 1)) (after (rules_after (declared_after p n) (n - 1)) first_line) ∷ [])

declared_count : (p : Place) (n : ℕ) → filter (counts_in iliad) (declared_items p n) ≡ []
declared_count p zero = refl
declared_count p (suc k) = filter-append (counts_in iliad) (declared_items p k) _ ∙ ap (λ l. l ++ []) (declared_count p k)

ruled_count : (q : Place) (n : ℕ) (xs : List Item) → filter (counts_in iliad) (rule_items q n ++ xs) ≡ rule_items q n ++ filter (counts_in iliad) xs
ruled_count q zero xs = refl
ruled_count q (suc j) xs = ap (λ l. numbered_item q j ∷ l) (ruled_count (after q (numbered_line j)) j xs)

pub counted : (p : Place) (n : ℕ) → filter (counts_in iliad) (base_items p n) ≡ rules_and_check p n
counted p n =
    let q = declared_after p n in
    let r = rules_after q (n - 1) in
    let last = first_item r ∷ end_items (decimal (n - 1)) (after r first_line) in
    filter-append (counts_in iliad) (declared_items p n) (rule_items q (n - 1) ++ last)
    ∙ ap (λ l. l ++ filter (counts_in iliad) (rule_items q (n - 1) ++ last)) (declared_count p n)
    ∙ ruled_count q (n - 1) last

-- ---- letters

digits_bound : (s : Scope) (d : List ℕ) → AllByRecursion IsDigit d → list_any (is_unbound_letter s) d ≡ false
digits_bound s [] h = refl
digits_bound s (c ∷ d) h =
    let e : nat_le 97 c ≡ false = lt-leb 97 c (let m = h.0.1 in omega arith) in
    rw e (digits_bound s d h.1)

word_bound : (s : Scope) (c : ℕ) (d : List ℕ) (p : Place) → nat_le 97 c ≡ false → AllByRecursion IsDigit d → word_faults s (c ∷ d) p ≡ []
word_bound s c d p e h = rw (e, digits_bound s d h) refl

maximum_bound : (s : Scope) (k : List ℕ) (p : Place) → AllByRecursion IsDigit k → term_faults s (maximum_term k p) ≡ []
maximum_bound s k p h = let a = word_bound s 82 k p refl h in λ i. (a i ++ []) ++ []

sum_bound : (s : Scope) (k j : List ℕ) (p q : Place) → AllByRecursion IsDigit k → AllByRecursion IsDigit j → term_faults s (sum_term k j p q) ≡ []
sum_bound s k j p q h g = let a = maximum_bound s k p h in let b = word_bound s 84 j q refl g in λ i. a i ++ (b i ++ [])

rule_bound : (n k : List ℕ) (p q : Place) (t : Syntax) → AllByRecursion IsDigit k → ((s : Scope) → term_faults s t ≡ [])
    → item_faults (rule_item n k p q t) ≡ []
rule_bound n k p q t h g = let a = word_bound no_scope 84 k q refl h in let b = g no_scope in λ i. (a i ++ b i) ++ []

check_bound : (k : List ℕ) (p : Place) → AllByRecursion IsDigit k → item_faults (last_check k p) ≡ []
check_bound k p h = let a = word_bound no_scope 84 k (checked_place (condition_place (verification_place p))) refl h in λ i. (a i ++ []) ++ []

-- the places of the formula of a rule, and in it of the input and of the sum that it reads
abbrev pub target_place : Place → ℕ → Place
target_place q j = formula_place (decimal (j + 2)) q

abbrev pub read_place : Place → ℕ → Place
read_place q j = input_place (decimal (suc j)) (target_place q j)

abbrev pub further_place : Place → ℕ → Place
further_place q j = other_place (decimal (suc j)) (target_place q j)

abbrev pub first_place : Place → Place
first_place r = formula_place (codes "1") r

abbrev pub first_read : Place → Place
first_read r = input_place (codes "0") (first_place r)

abbrev pub numbered_term : Place → ℕ → Syntax
numbered_term q j = sum_term (decimal (suc j)) (decimal j) (read_place q j) (further_place q j)

abbrev pub first_term : Place → Syntax
first_term r = maximum_term (codes "0") (first_read r)

numbered_bound : (q : Place) (j : ℕ) → suc j < 100000 → item_faults (numbered_item q j) ≡ []
numbered_bound q j h =
    let k = (whole_decimal (suc j) (omega arith)).are.1 in
    let i = (whole_decimal j (omega arith)).are.1 in
    rule_bound (decimal (j + 2)) (decimal (suc j)) q (target_place q j) (numbered_term q j) k
    (λ s. sum_bound s (decimal (suc j)) (decimal j) (read_place q j) (further_place q j) k i)

first_bound : (r : Place) → item_faults (first_item r) ≡ []
first_bound r = rule_bound (codes "1") (codes "0") r (first_place r) (first_term r) zero_digit (λ s. maximum_bound s (codes "0") (first_read r) zero_digit)

ruled_bound : (q : Place) (n : ℕ) (xs : List Item) → n < 100000 → flat_map item_faults (rule_items q n ++ xs) ≡ flat_map item_faults xs
ruled_bound q zero xs l = refl
ruled_bound q (suc j) xs l =
    let r = after q (numbered_line j) in
    ap (λ fs. fs ++ flat_map item_faults (rule_items r j ++ xs)) (numbered_bound q j l) ∙ ruled_bound r j xs (omega arith)

-- ---- parts

ruled_parts : (d : Declared) (q : Place) (n before : ℕ) (xs : List Item) → before + 8 * n ≤ 2000000
    → too_many d before (rule_items q n ++ xs) ≡ too_many d (before + 8 * n) xs
ruled_parts d q zero before xs h = let e : before ≡ before + 8 * 0 = omega arith in ap (λ m. too_many d m xs) e
ruled_parts d q (suc j) before xs h =
    let r = after q (numbered_line j) in
    let e : before + 8 + 8 * j ≡ before + 8 * suc j = omega arith in
    ap (λ b. cond b (Some (TooManyParts q)) (too_many d (before + 8) (rule_items r j ++ xs))) (le-ltb 2000000 (before + 8) (omega arith))
    ∙ ruled_parts d r j (before + 8) xs (omega arith)
    ∙ ap (λ m. too_many d m xs) e

end_parts : (d : Declared) (r : Place) (k : List ℕ) (p : Place) (before : ℕ) → before + 10 ≤ 2000000
    → too_many d before (first_item r ∷ last_check k p ∷ []) ≡ None
end_parts d r k p before h =
    ap (λ b. cond b (Some (TooManyParts r)) (too_many d (before + 6) (last_check k p ∷ []))) (le-ltb 2000000 (before + 6) (omega arith))
    ∙ ap (λ b. cond b (Some (TooManyParts (verification_place p))) None) (le-ltb 2000000 (before + 6 + 4) (omega arith))

-- No loop and no letter of the rules has a fault, and they have fewer parts than the limit.
pub base_expands : (p : Place) (n : ℕ) (d : Declared) → 1 ≤ n → n ≤ 100000 → expand_fault (base_items p n) iliad d ≡ None
base_expands p n d some few =
    let q = declared_after p n in
    let r = rules_after q (n - 1) in
    let k = decimal (n - 1) in
    let end = after r first_line in
    let last = first_item r ∷ last_check k end ∷ [] in
    let faults : flat_map item_faults (rules_and_check p n) ≡ [] =
    ruled_bound q (n - 1) last (omega arith)
    ∙ ap (λ fs. fs ++ (item_faults (last_check k end) ++ [])) (first_bound r)
    ∙ ap (λ fs. fs ++ []) (check_bound k end (whole_decimal (n - 1) (omega arith)).are.1) in
    let parts : too_many d 0 (rules_and_check p n) ≡ None = ruled_parts d q (n - 1) 0 last (omega arith)
    ∙ end_parts d r k end (0 + 8 * (n - 1)) (omega arith) in
    ap (λ l. option_or (least None (flat_map item_faults l)) (too_many d 0 l)) (counted p n)
    ∙ ap (λ fs. option_or (least None fs) (too_many d 0 (rules_and_check p n))) faults
    ∙ parts

-- ---- without letters words are unchanged

nothing_at : (n i : ℕ) → slice_index_or (replicate {A = Option (List ℕ)} n None) i None ≡ None
nothing_at zero i = refl
nothing_at (suc n) zero = refl
nothing_at (suc n) (suc i) = nothing_at n i

pub same_word : (w : List ℕ) → replaced no_letters w ≡ w
same_word [] = refl
same_word (b ∷ w) = ap (λ o. unwrap_or o (b ∷ []) ++ replaced no_letters w) (nothing_at 256 b) ∙ ap (λ l. b ∷ l) (same_word w)

same_maximum : (l : Letters) (k : List ℕ) (p : Place) → replaced l (82 ∷ k) ≡ 82 ∷ k → expanded None l (maximum_term k p) ≡ maximum_term k p
same_maximum l k p e = rw e refl

same_sum : (l : Letters) (k j : List ℕ) (p q : Place) → replaced l (82 ∷ k) ≡ 82 ∷ k → replaced l (84 ∷ j) ≡ 84 ∷ j
    → expanded None l (sum_term k j p q) ≡ sum_term k j p q
same_sum l k j p q e f = rw (e, f) refl

-- ---- the expansion

abbrev pub numbered_definition : Place → ℕ → Definition
numbered_definition q j = record { target = 84 ∷ decimal (suc j); slot = Whole; term = numbered_term q j; place = target_place q j }

abbrev pub first_definition : Place → Definition
first_definition r = record { target = 84 ∷ codes "0"; slot = Whole; term = first_term r; place = first_place r }

abbrev pub plain_definitions : Place → ℕ → List Definition
plain_definitions q zero = []
plain_definitions q (suc j) = numbered_definition q j ∷ plain_definitions (after q (numbered_line j)) j

-- the condition of the check, for the sum with these digits, where the error is at this place
abbrev pub si_place : Place → Place
si_place e = condition_place (verification_place e)

abbrev pub condition_term : List ℕ → Place → Syntax
condition_term k e = two ops.Lt (named (84 ∷ k) (checked_place (si_place e))) (lit (Num (amount (codes "0"))))

abbrev pub the_condition : List ℕ → Place → Condition
the_condition k e = record { verif = codes "1"; error = 69 ∷ codes "1"; term = condition_term k e; place = si_place e }

abbrev definition_with : List ℕ → Syntax → Place → Definition
definition_with target term place = record { target = target; slot = Whole; term = term; place = place }

numbered_defined : (d : Declared) (q : Place) (j : ℕ) → item_definitions d (numbered_item q j) ≡ numbered_definition q j ∷ []
numbered_defined d q j =
    let a = same_word (84 ∷ decimal (suc j)) in
    let b = same_sum no_letters (decimal (suc j)) (decimal j) (read_place q j) (further_place q j) (same_word (82 ∷ decimal (suc j)))
    (same_word (84 ∷ decimal j)) in
    λ i. definition_with (a i) (b i) (target_place q j) ∷ []

first_defined : (d : Declared) (r : Place) → item_definitions d (first_item r) ≡ first_definition r ∷ []
first_defined d r =
    let a = same_word (84 ∷ codes "0") in
    let b = same_maximum no_letters (codes "0") (first_read r) (same_word (82 ∷ codes "0")) in
    λ i. definition_with (a i) (b i) (first_place r) ∷ []

condition_stated : (k : List ℕ) (e : Place) → item_conditions (last_check k e) ≡ the_condition k e ∷ []
condition_stated k e = let a = same_word (84 ∷ k) in
    λ i. record {
      verif = codes "1";
      error = 69 ∷ codes "1";
      term = two ops.Lt (word_term (a i) (checked_place (si_place e))) (lit (Num (amount (codes "0"))));
      place = si_place e;
    } ∷ []

ruled_defined : (d : Declared) (q : Place) (n : ℕ) (xs : List Item) → flat_map (item_definitions d) (rule_items q n ++ xs) ≡ plain_definitions q n
    ++ flat_map (item_definitions d) xs
ruled_defined d q zero xs = refl
ruled_defined d q (suc j) xs =
    let r = after q (numbered_line j) in
    ap (λ l. l ++ flat_map (item_definitions d) (rule_items r j ++ xs)) (numbered_defined d q j)
    ∙ ap (λ l. numbered_definition q j ∷ l) (ruled_defined d r j xs)

ruled_conditions : (q : Place) (n : ℕ) (xs : List Item) → flat_map item_conditions (rule_items q n ++ xs) ≡ flat_map item_conditions xs
ruled_conditions q zero xs = refl
ruled_conditions q (suc j) xs = ruled_conditions (after q (numbered_line j)) j xs

abbrev pub base_plain : Place → ℕ → Plain
base_plain p n = record {
  definitions = plain_definitions (declared_after p n) (n - 1) ++ (first_definition (rules_after (declared_after p n) (n - 1)) ∷ []);
  conditions = the_condition (decimal (n - 1)) (error_place p n) ∷ [];
}

-- The rules without loops.
pub base_expansion : (p : Place) (n : ℕ) (d : Declared) → expansion (base_items p n) iliad d ≡ base_plain p n
base_expansion p n d =
    let q = declared_after p n in
    let r = rules_after q (n - 1) in
    let k = decimal (n - 1) in
    let end = after r first_line in
    let last = first_item r ∷ last_check k end ∷ [] in
    let a : flat_map (item_definitions d) (filter (counts_in iliad) (base_items p n)) ≡ plain_definitions q (n - 1) ++ (first_definition r ∷ []) =
    ap (flat_map (item_definitions d)) (counted p n) ∙ ruled_defined d q (n - 1) last
    ∙ ap (λ l. plain_definitions q (n - 1) ++ (l ++ [])) (first_defined d r) in
    let b : flat_map item_conditions (filter (counts_in iliad) (base_items p n)) ≡ the_condition k end ∷ [] =
    ap (flat_map item_conditions) (counted p n) ∙ ruled_conditions q (n - 1) last ∙ ap (λ l. l ++ []) (condition_stated k end) in
    λ i. record { definitions = a i; conditions = b i }
