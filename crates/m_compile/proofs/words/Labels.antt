-- Labels of a base: a number of at most nine digits, an error with a plain name, and a text that
-- isn't empty.
use Rattle.std.proofs.Common.{◌≡◌, ◌≢◌, ◌≤◌, ℕ, zero, suc, Bool, true, false, cond, List, [], ◌∷◌, ◌++◌, map, filter, length, Option, Some, None, Ok, inl, inr}
use Rattle.std.proofs.Common.{refl, subst, arith, slice_get}
use Rattle.std.specs.List.{AllByRecursion, flat_map}
use Rattle.std.specs.Option.{option_and_then}
use Rattle.m_places.specs.declared.verification.Label.{Label}
use Rattle.m_names.specs.Names.{index_of}
use Rattle.m_ast.specs.declared.item.Item.{Item}
use Rattle.m_ast.specs.declared.item.Item.TheVariants.{Variable, Rule, Verif, Error, Silent}
use Rattle.m_ast.specs.declared.item.ErrorItem.{ErrorItem}
use Rattle.m_ast.specs.declared.item.VerifItem.{VerifItem}
use Rattle.m_ast.specs.declared.item.CheckItem.{CheckItem}
use Rattle.m_items.specs.DeclarationGrammar.{IsFourOrFive}
use Rattle.m_symbols.specs.Declarations.{Declared, error_names_of}
use Rattle.m_ast.specs.declared.plain_rules.Condition.{Condition}
use Rattle.m_ast.specs.declared.plain_rules.Plain.{Plain}
use Rattle.index_expand.specs.Expansion.{counts_in, item_conditions, condition_of}
use Rattle.micro_m.specs.declared.base.Base.{Base}
use Rattle.m_resolve.specs.Terms.{if_resolved, resolved_term}
use Rattle.m_resolve.specs.Bases.{printable, behind_colon, error_text, label_of, error_named, resolved_label, Checks, with_condition, resolved_conditions}
use Rattle.m_resolve.specs.Bases.{resolved_definitions, base_with, resolved}
use Rattle.m_resolve.proofs.Valid.{resolved_by}
use Rattle.code_file.specs.Printable.{IsPrintableVerif}
use Rattle.m_compile.proofs.words.Tokens.{IsWholeNumber}
use Rattle.m_compile.proofs.words.Items.{IsWorded, IsWordedError, all_append}

-- ---- texts

not_empty : (xs ys : List ℕ) (y : ℕ) → xs ++ y ∷ ys ≢ []
not_empty [] ys y e = absurd (cc)
not_empty (x ∷ xs) ys y e = absurd (cc)

text_there : (texts : List (List ℕ)) → 2 ≤ length texts → error_text texts ≢ []
text_there [] h e = absurd (omega (arith, h))
text_there (a ∷ []) h e = absurd (omega (arith, h))
text_there (a ∷ b ∷ texts) h e = not_empty (map printable a) (map printable b ++ flat_map behind_colon texts) 58 e

two_texts : (n : ℕ) → IsFourOrFive n → 2 ≤ n
two_texts n (inl e) = omega (arith, e)
two_texts n (inr e) = omega (arith, e)

label_printable : (verif : List ℕ) (e : ErrorItem) → IsWholeNumber verif → IsWordedError e → IsPrintableVerif (label_of verif e)
label_printable verif e n w = (n.0, n.1, w.0, text_there e.texts (two_texts (length e.texts) w.1))

-- ---- conditions

listed : (v : VerifItem) (checks : List CheckItem) → IsWholeNumber v.number
    → AllByRecursion (λ (c : Condition). IsWholeNumber c.verif) (map (condition_of v) checks)
listed v [] h = tt
listed v (c ∷ checks) h = (h, listed v checks h)

item_numbered : (i : Item) → IsWorded i → AllByRecursion (λ (c : Condition). IsWholeNumber c.verif) (item_conditions i)
item_numbered (Variable v) h = tt
item_numbered (Rule r) h = tt
item_numbered (Verif v) h = listed v v.checks h
item_numbered (Error e) h = tt
item_numbered (Silent p) h = tt

one_more : (i : Item) (items : List Item) (b : Bool) → IsWorded i → AllByRecursion (λ (c : Condition). IsWholeNumber c.verif) (flat_map item_conditions items)
    → AllByRecursion (λ (c : Condition). IsWholeNumber c.verif) (flat_map item_conditions (cond b (i ∷ items) items))
one_more i items true h a = all_append _ (item_conditions i) (flat_map item_conditions items) (item_numbered i h) a
one_more i items false h a = a

pub all_numbered : (application : List ℕ) (items : List Item) → AllByRecursion IsWorded items
    → AllByRecursion (λ (c : Condition). IsWholeNumber c.verif) (flat_map item_conditions (filter (counts_in application) items))
all_numbered application [] a = tt
all_numbered application (i ∷ items) a = one_more i (filter (counts_in application) items) (counts_in application i) a.0 (all_numbered application items a.1)

-- ---- labels

every : (P : ErrorItem → Type 0) (es : List ErrorItem) (i : ℕ) (e : ErrorItem) → AllByRecursion P es → slice_get es i ≡ Some e → P e
every P [] i e a f = absurd (cc)
every P (x ∷ es) zero e a f = let same : x ≡ e = cc in subst P same a.0
every P (x ∷ es) (suc i) e a f = every P es i e a.1 f

at_number : (es : List ErrorItem) (n : Option ℕ) (e : ErrorItem) → AllByRecursion IsWordedError es → option_and_then (slice_get es) n ≡ Some e → IsWordedError e
at_number es None e a f = absurd (cc)
at_number es (Some i) e a f = every IsWordedError es i e a f

label_by : (condition : Condition) (o : Option ErrorItem) (label : Label) → IsWholeNumber condition.verif → ((e : ErrorItem) → o ≡ Some e → IsWordedError e)
    → resolved_label condition o ≡ Ok label → IsPrintableVerif label
label_by condition None label n w f = absurd (cc)
label_by condition (Some e) label n w f =
    let same : label_of condition.verif e ≡ label = cc in
    subst IsPrintableVerif same (label_printable condition.verif e n (w e refl))

labels_printable : (declared : Declared) (before made : Checks) (all : List Condition) → AllByRecursion IsWordedError declared.errors
    → AllByRecursion (λ (c : Condition). IsWholeNumber c.verif) all → AllByRecursion IsPrintableVerif before.1
    → resolved_conditions declared before all ≡ Ok made → AllByRecursion IsPrintableVerif made.1
labels_printable declared before made [] w n b e = let same : before ≡ made = cc in subst (λ (m : Checks). AllByRecursion IsPrintableVerif m.1) same b
labels_printable declared before made (x ∷ all) w n b e =
    let k = resolved_by (λ stated. resolved_conditions declared stated all) (with_condition declared before x) made e in
    let t = resolved_by (λ tree. if_resolved (λ label. Ok (before.0 ++ (tree, length before.1, x.place) ∷ [], before.1 ++ label ∷ []))
    (resolved_label x (error_named declared x.error))) (resolved_term declared x.term) k.0 k.1 in
    let l = resolved_by (λ label. Ok (before.0 ++ (t.0, length before.1, x.place) ∷ [], before.1 ++ label ∷ []))
    (resolved_label x (error_named declared x.error)) k.0 t.2 in
    let same : (before.0 ++ (t.0, length before.1, x.place) ∷ [], before.1 ++ l.0 ∷ []) ≡ k.0 = (let f = l.2 in cc) in
    let good = label_by x (error_named declared x.error) l.0 n.0 (λ i f. at_number declared.errors (index_of x.error (error_names_of declared.errors)) i w f)
    l.1 in
    labels_printable declared k.0 made all w n.1
    (subst (λ (m : Checks). AllByRecursion IsPrintableVerif m.1) same (all_append _ before.1 (l.0 ∷ []) b (good, tt))) k.2

pub base_printable : (declared : Declared) (plain : Plain) (base : Base) → AllByRecursion IsWordedError declared.errors
    → AllByRecursion (λ (c : Condition). IsWholeNumber c.verif) plain.conditions → resolved declared plain ≡ Ok base
    → AllByRecursion IsPrintableVerif base.labels
base_printable declared plain base w n r =
    let d = resolved_by (λ definitions. if_resolved (λ checks. Ok (base_with declared definitions checks))
    (resolved_conditions declared ([], []) plain.conditions)) (resolved_definitions declared [] plain.definitions) base r in
    let c = resolved_by (λ checks. Ok (base_with declared d.0 checks)) (resolved_conditions declared ([], []) plain.conditions) base d.2 in
    let same : base_with declared d.0 c.0 ≡ base = (let e = c.2 in cc) in
    subst (λ (b : Base). AllByRecursion IsPrintableVerif b.labels) same (labels_printable declared ([], []) c.0 plain.conditions w n tt c.1)
