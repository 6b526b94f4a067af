-- The items of the rule base of `large N`, and that its tokens spell them.
use Rattle.std.proofs.Common.{◌≡◌, ℕ, zero, suc, ◌+◌, ◌-◌, ◌<◌, ◌≤◌, true, false, cond, nat_lt, List, [], ◌∷◌, ◌++◌, codes, decimal, length, Some, None, refl}
use Rattle.std.proofs.Common.{sym, ap, subst, append_assoc, arith, inl}
use Rattle.std.specs.List.{AllByRecursion, list_all}
use Rattle.std.proofs.lemmas.Bool.{le-leb, lt-ltb}
use Rattle.m_places.specs.declared.place.Place.{Place}
use Rattle.m_places.specs.declared.verification.ErrorKind.TheVariants.{Anomalie}
use Rattle.m_fixed.specs.declared.amount.Value.TheVariants.{Num}
use Rattle.m_fixed.specs.declared.operator.Op.TheVariants as ops
use Rattle.m_text.specs.Bytes.{IsDigit, is_digit}
use Rattle.m_lexer.specs.declared.token.Token.{Token}
use Rattle.m_lexer.specs.declared.token.Kind.TheVariants as kinds
use Rattle.m_lexer.specs.declared.token.Key.TheVariants as keys
use Rattle.m_ast.specs.Syntax.{Syntax, lit, named, chain}
use Rattle.m_ast.specs.View.{links_of}
use Rattle.m_ast.specs.declared.item.Item.{Item}
use Rattle.m_ast.specs.declared.item.Item.TheVariants as items
use Rattle.m_ast.specs.declared.item.ErrorItem.{ErrorItem}
use Rattle.m_ast.specs.declared.item.Slot.TheVariants.{Whole}
use Rattle.m_ast.specs.declared.variable.VariableItem.{VariableItem}
use Rattle.m_ast.specs.declared.variable.Role.TheVariants.{Input, Computed}
use Rattle.m_lexer.specs.Chains.{First, first, further, ended}
use Rattle.m_terms.specs.Tokens.{joined, at, is_name, is_not_small, is_whole}
use Rattle.m_terms.specs.Grammar.{two, link, SpellsPrim, SpellsProduct, SpellsSum, SpellsExpr, SpellsInner, gather, number, word, called_two, plain, affirmed}
use Rattle.m_terms.specs.Grammar.{alone, compared}
use Rattle.m_items.specs.Tokens.{name, placed}
use Rattle.m_items.specs.DeclarationGrammar.{input, computed, error, attributes, attribute, attributes_of, with_one, without, positive, ending, no_type}
use Rattle.m_items.specs.DeclarationGrammar.{no_table, applications, variable, error_item, a_variable, an_error, no_attributes}
use Rattle.m_items.specs.Many.{no_more, one_more, one as one_of}
use Rattle.m_items.specs.RuleGrammar.{SpellsHead, head, head_of, formula, formula_of, no_index, unchained, rule, rule_of, check, check_of, verification}
use Rattle.m_items.specs.RuleGrammar.{verification_of}
use Rattle.m_items.specs.Grammar.{SpellsItems, a_declaration, a_rule, a_verification}
use Rattle.large_validity.proofs.Numerals.{whole_decimal, one_digit, short_decimal}
use Rattle.large_validity.proofs.Pieces.{Piece, space, reserved, digits, named as named_piece, amount, after, tokens_before}
use Rattle.large_validity.proofs.Lines.{colon, application, target, opened, called, plus, ending as ending_pieces, input_line, declaration_line, head_line}
use Rattle.large_validity.proofs.Lines.{maximum, rule_line, first_line, error_line, check_line, declared_after, declaration_tokens, numbered_line, rules_after}
use Rattle.large_validity.proofs.Lines.{rule_tokens, end_tokens, base_tokens}

-- ---- items

abbrev pub the_input : List ℕ → Place → VariableItem
the_input d p = variable (82 ∷ d, p) (Input (67 ∷ d))
    (attributes_of (attribute (codes "revenu") None ∷ attribute (codes "classe") (Some (amount (codes "0"))) ∷ [])) None

abbrev pub the_sum : List ℕ → Place → VariableItem
the_sum d p = variable (84 ∷ d, p) (Computed None) no_attributes None

abbrev pub input_item : List ℕ → Place → Item
input_item d p = items.Variable (the_input d p)

abbrev pub sum_item : List ℕ → Place → Item
sum_item d p = items.Variable (the_sum d p)

-- `max(0, R1 - 1000)`
abbrev pub maximum_term : List ℕ → Place → Syntax
maximum_term k p = two ops.Max (lit (Num (amount (codes "0")))) (chain (named (82 ∷ k) p) (links_of (link ops.Sub (lit (Num (amount (codes "1000")))) ∷ [])))

-- `max(0, R1 - 1000) + T0`
abbrev pub sum_term : List ℕ → List ℕ → Place → Place → Syntax
sum_term k j p q = chain (maximum_term k p) (links_of (link ops.Add (named (84 ∷ j) q) ∷ []))

-- `regle 2 : application : iliad ;` and a formula, with the places of `regle` and of the target
abbrev pub rule_item : List ℕ → List ℕ → Place → Place → Syntax → Item
rule_item n k p q t = items.Rule (rule_of (head_of p n (codes "iliad" ∷ [])) false (formula_of [] (84 ∷ k, q) Whole t ∷ []))

abbrev pub error_of : Place → ErrorItem
error_of p = error_item (69 ∷ codes "1", p) Anomalie (codes "E" ∷ codes "1" ∷ codes "0" ∷ codes "negative" ∷ [])

abbrev pub the_error : Place → Item
the_error p = items.Error (error_of p)

abbrev pub the_check : List ℕ → Place → Place → Place → Item
the_check k p q r =
    items.Verif (verification_of (head_of p (codes "1") (codes "iliad" ∷ [])) (check_of q (two ops.Lt (named (84 ∷ k) r) (lit (Num (amount (codes "0")))))
    (69 ∷ codes "1") ∷ []))

-- ---- names and numbers

named_bytes : (d : List ℕ) → AllByRecursion IsDigit d → list_all is_not_small d ≡ true
named_bytes [] h = refl
named_bytes (c ∷ d) h = let e : nat_lt c 97 ≡ true = lt-ltb c 97 (let m = h.0.1 in omega arith) in rw e (named_bytes d h.1)

is_named : (c : ℕ) (d : List ℕ) → nat_lt c 97 ≡ true → AllByRecursion IsDigit d → is_name (c ∷ d) ≡ true
is_named c d e h = rw e (named_bytes d h)

is_number : (d : List ℕ) → AllByRecursion IsDigit d → list_all is_digit d ≡ true
is_number [] h = refl
is_number (c ∷ d) h = rw (le-leb 48 c h.0.0, le-leb c 57 h.0.1) (is_number d h.1)

a_name : (c : ℕ) (d : List ℕ) (p : Place) (ts : List Token) → nat_lt c 97 ≡ true → AllByRecursion IsDigit d
    → First name (c ∷ d, p) (at (kinds.Word (c ∷ d)) p ∷ ts) ts
a_name c d p ts e h = first (ap (λ b. placed (cond b (Some (c ∷ d)) None) p) (is_named c d e h))

-- ---- terms

just : {E : Syntax → List Token → List Token → Type 0} {t : Syntax} {ts rest : List Token} → SpellsPrim E t ts rest → SpellsProduct E t ts rest
just h = gather (plain h) ended refl

lone : {E : Syntax → List Token → List Token → Type 0} {t : Syntax} {ts rest : List Token} → SpellsPrim E t ts rest → SpellsSum E t ts rest
lone h = gather (just h) ended refl

whole_sum : {E : Syntax → List Token → List Token → Type 0} {t : Syntax} {ts rest : List Token} → SpellsSum E t ts rest → SpellsExpr E t ts rest
whole_sum h = gather (gather (affirmed (alone h)) ended refl) ended refl

inner : (d : ℕ) {t : Syntax} {ts rest : List Token} → SpellsExpr (SpellsInner d) t ts rest → SpellsInner (suc d) t ts rest
unfolding SpellsInner
inner d h = h

-- ---- declarations

pub declaration_spelled : (d : List ℕ) → AllByRecursion IsDigit d → (p : Place) (ts : List Token) (xs : List Item) → SpellsItems xs ts []
    → SpellsItems (input_item d p ∷ sum_item d (after p (input_line d [])) ∷ xs) (tokens_before p (declaration_line d) ts) []
declaration_spelled d h p ts xs l =
    one_more (a_declaration (a_variable (input (a_name 82 d p _ refl h) (first refl) (first refl)
    (attributes (further refl without (further refl (with_one (first refl) (positive (first refl))) ended)))
    (first refl) (first refl) (ending (first refl) (first refl) no_type (first refl)))))
    (one_more (a_declaration (a_variable (computed (a_name 84 d (after p (input_line d [])) _ refl h) (first refl) no_table (first refl)
    (attributes ended) (ending (first refl) (first refl) no_type (first refl))))) l)

-- ---- rules

head_of_rule : (n : List ℕ) → is_whole n ≡ true → (p : Place) (xs : List Piece) (ts : List Token)
    → SpellsHead keys.Regle (head_of p n (codes "iliad" ∷ [])) (tokens_before p (head_line n xs) ts) (tokens_before (after p (head_line n [])) xs ts)
head_of_rule n e p xs ts =
    head (first refl) no_more (first (ap (λ b. cond b (Some n) None) e)) (first refl) (applications (first refl) (first refl) (joined (first refl) ended))
    (first refl)

-- the place of the formula of a rule with these digits, and in it that of the input and of the sum that it reads
abbrev pub formula_place : List ℕ → Place → Place
formula_place n p = after p (head_line n [])

abbrev pub input_place : List ℕ → Place → Place
input_place k q = after q (target k (opened []))

abbrev pub other_place : List ℕ → Place → Place
other_place k q = after q (maximum k (plus []))

maximum_spelled : (k : List ℕ) (q : Place) (xs : List Piece) (ts : List Token)
    → SpellsPrim (SpellsInner 256) (maximum_term k (input_place k q)) (tokens_before (after q (target k [])) (called k xs) ts)
    (tokens_before (after q (maximum k [])) xs ts)
maximum_spelled k q xs ts =
    called_two refl (inner 255 (whole_sum (lone number))) (inner 255 (whole_sum (gather (just word) (further refl (just number) ended) refl)))

-- the rule of sum k with the number n, which reads sum j
abbrev pub sum_rule : List ℕ → List ℕ → List ℕ → Place → Item
sum_rule n k j p = rule_item n k p (formula_place n p) (sum_term k j (input_place k (formula_place n p)) (other_place k (formula_place n p)))

pub rule_spelled : (n k j : List ℕ) → is_whole n ≡ true → (p : Place) (ts : List Token) (xs : List Item) → SpellsItems xs ts []
    → SpellsItems (sum_rule n k j p ∷ xs) (tokens_before p (rule_line n k j) ts) []
rule_spelled n k j e p ts xs l =
    let q = formula_place n p in
    let others = plus (named_piece 84 j ∷ ending_pieces []) in
    one_more (a_rule (rule {h = head_of p n (codes "iliad" ∷ [])} (head_of_rule n e p (maximum k others) ts) unchained
    (one_of (formula {w = (84 ∷ k, q)} {slot = Whole} ended (first refl) no_index (first refl)
    (whole_sum (gather (just (maximum_spelled k q others ts)) (further refl (just word) ended) refl)) (first refl)) no_more))) l

-- the rule of sum 0
abbrev pub first_item : Place → Item
first_item p = rule_item (codes "1") (codes "0") p (formula_place (codes "1") p)
    (maximum_term (codes "0") (input_place (codes "0") (formula_place (codes "1") p)))

pub first_spelled : (p : Place) (ts : List Token) (xs : List Item) → SpellsItems xs ts [] → SpellsItems (first_item p ∷ xs) (tokens_before p first_line ts) []
first_spelled p ts xs l =
    let k = codes "0" in
    let q = formula_place (codes "1") p in
    one_more (a_rule (rule {h = head_of p (codes "1") (codes "iliad" ∷ [])} (head_of_rule (codes "1") refl p (maximum k (ending_pieces [])) ts) unchained
    (one_of (formula {w = (84 ∷ k, q)} {slot = Whole} ended (first refl) no_index (first refl)
    (whole_sum (lone (maximum_spelled k q (ending_pieces []) ts))) (first refl)) no_more))) l

-- ---- the error and the verification

abbrev pub verification_place : Place → Place
verification_place p = after p (error_line [])

abbrev pub condition_place : Place → Place
condition_place p = after p (reserved keys.Verif ∷ space ∷ digits (codes "1") ∷ colon (application []))

abbrev pub checked_place : Place → Place
checked_place q = after q (reserved keys.Si ∷ space ∷ [])

abbrev pub end_items : List ℕ → Place → List Item
end_items k p = the_error p ∷ the_check k (verification_place p) (condition_place (verification_place p))
    (checked_place (condition_place (verification_place p))) ∷ []

pub check_spelled : (k : List ℕ) (p : Place) → SpellsItems (end_items k p) (tokens_before p (check_line k) []) []
check_spelled k p =
    let q = verification_place p in
    one_more (a_declaration (an_error (error (a_name 69 (codes "1") p _ refl one_digit) (first refl) (first refl) (first refl)
    (joined (first refl) (further refl (first refl) (further refl (first refl) (further refl (first refl) ended)))) (inl refl) (first refl))))
    (one_more (a_verification (verification {h = head_of q (codes "1") (codes "iliad" ∷ [])}
    (head (first refl) no_more (first refl) (first refl) (applications (first refl) (first refl) (joined (first refl) ended)) (first refl))
    (one_of (check {words = []} (first refl) (gather (gather (affirmed (compared (lone word) refl (lone number))) ended refl) ended refl) (first refl)
    (first refl) (first refl) no_more (first refl)) no_more))) no_more)

-- ---- all items

abbrev pub declared_items : Place → ℕ → List Item
declared_items p zero = []
declared_items p (suc k) = declared_items p k
    ++ (input_item (decimal k) (declared_after p k) ∷ sum_item (decimal k) (after (declared_after p k) (input_line (decimal k) [])) ∷ [])

abbrev pub numbered_item : Place → ℕ → Item
numbered_item p j = sum_rule (decimal (j + 2)) (decimal (suc j)) (decimal j) p

abbrev pub rule_items : Place → ℕ → List Item
rule_items p zero = []
rule_items p (suc j) = numbered_item p j ∷ rule_items (after p (numbered_line j)) j

abbrev pub base_items : Place → ℕ → List Item
base_items p n =
    declared_items p n ++ (rule_items (declared_after p n) (n - 1) ++ (first_item (rules_after (declared_after p n) (n - 1))
    ∷ end_items (decimal (n - 1)) (after (rules_after (declared_after p n) (n - 1)) first_line)))

is_whole_decimal : (n : ℕ) → n ≤ 100000 → is_whole (decimal n) ≡ true
is_whole_decimal n h =
    let d = whole_decimal n h in
    rw (lt-ltb 0 (length (decimal n)) (some (decimal n) d.are.0), le-leb (length (decimal n)) 9 (short_decimal n h)) (is_number (decimal n) d.are.1)
  where
    some : (t : List ℕ) → (t ≡ [] → ⊥) → 0 < length t
    some [] h = absurd (h refl)
    some (c ∷ t) h = omega arith

declared_spelled : (n : ℕ) → n ≤ 100000 → (p : Place) (ts : List Token) (xs : List Item) → SpellsItems xs ts []
    → SpellsItems (declared_items p n ++ xs) (declaration_tokens p n ts) []
declared_spelled zero h p ts xs l = l
declared_spelled (suc k) h p ts xs l =
    let q = declared_after p k in
    let d = decimal k in
    let two_items = input_item d q ∷ sum_item d (after q (input_line d [])) ∷ [] in
    subst (λ is. SpellsItems is (declaration_tokens p (suc k) ts) []) (sym (append_assoc (declared_items p k) two_items xs))
    (declared_spelled k (omega arith) p (tokens_before q (declaration_line d) ts) (two_items ++ xs)
    (declaration_spelled d (whole_decimal k (omega arith)).are.1 q ts xs l))

rules_spelled : (n : ℕ) → n < 100000 → (p : Place) (ts : List Token) (xs : List Item) → SpellsItems xs ts []
    → SpellsItems (rule_items p n ++ xs) (rule_tokens p n ts) []
rules_spelled zero h p ts xs l = l
rules_spelled (suc j) h p ts xs l =
    let q = after p (numbered_line j) in
    rule_spelled (decimal (j + 2)) (decimal (suc j)) (decimal j) (is_whole_decimal (j + 2) (omega arith)) p (rule_tokens q j ts) (rule_items q j ++ xs)
    (rules_spelled j (omega arith) q ts xs l)

-- The tokens of the rule base of `large N` spell its items.
pub base_spelled : (n : ℕ) → 1 ≤ n → n ≤ 100000 → (p : Place) → SpellsItems (base_items p n) (base_tokens p n) []
base_spelled n some few p =
    let q = declared_after p n in
    let r = rules_after q (n - 1) in
    let last = end_items (decimal (n - 1)) (after r first_line) in
    declared_spelled n few p (rule_tokens q (n - 1) (end_tokens r (n - 1))) (rule_items q (n - 1) ++ (first_item r ∷ last))
    (rules_spelled (n - 1) (omega arith) q (end_tokens r (n - 1)) (first_item r ∷ last)
    (first_spelled r (tokens_before (after r first_line) (check_line (decimal (n - 1))) []) last (check_spelled (decimal (n - 1)) (after r first_line))))
