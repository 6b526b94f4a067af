-- Rule files have one base or one error, and not both.
use Rattle.std.proofs.Common.{◌≡◌, ℕ, List, map, Option, Some, None, Result, Ok, Err, sym, ap, ◌∙◌, subst}
use Rattle.m_places.specs.declared.source.Text.{Text}
use Rattle.m_ast.specs.declared.item.Item.{Item}
use Rattle.m_lexer.specs.declared.fault.LexFault.{LexFault}
use Rattle.m_items.specs.declared.fault.ParseFault.{ParseFault}
use Rattle.rule_base.specs.declared.read_fault.ReadFault.{ReadFault}
use Rattle.rule_base.specs.declared.read_fault.ReadFault.TheVariants as read
use Rattle.rule_base.specs.Files.{SayAll, IsFirstFileFault}
use Rattle.rule_base.proofs.OneFiles.{mean_one, mean_or_fail, fail_once}
use Rattle.m_symbols.specs.Declarations.{Declared, declared_by}
use Rattle.m_symbols.specs.Faults.{first_fault}
use Rattle.m_symbols.specs.declared.fault.DeclareFault.{DeclareFault}
use Rattle.index_expand.specs.Expansion.{expansion}
use Rattle.index_expand.specs.Faults.{expand_fault}
use Rattle.index_expand.specs.declared.fault.ExpandFault.{ExpandFault}
use Rattle.m_resolve.specs.Bases.{resolved}
use Rattle.m_resolve.specs.declared.fault.ResolveFault.{ResolveFault}
use Rattle.micro_m.specs.Reads.{Reads, IsCycle, HasNoCycle}
use Rattle.micro_m.specs.declared.base.Base.{Base}
use Rattle.m_symbols.specs.Cells.{cell_name}
use Rattle.rule_base.specs.declared.fault.RuleFault.{RuleFault}
use Rattle.rule_base.specs.declared.fault.RuleFault.TheVariants.{Lex, Parse, Declare, Expand, Resolve, Cycle}
use Rattle.rule_base.specs.Base.{Declares, IsBaseOf}
use Rattle.rule_base.specs.Faults.{IsRuleFault, of_tokens, of_items, of_declarations, of_loops, of_names, of_a_cycle, AreOneRuleFault, the_same, both_cycles}

some_one : {A : Type 0} {o : Option A} {x y : A} → o ≡ Some x → o ≡ Some y → x ≡ y
some_one e f = cc

some_or_none : {A : Type 0} {o : Option A} {x : A} → o ≡ Some x → o ≡ None → ⊥
some_or_none e f = cc

ok_one : {A E : Type 0} {r : Result A E} {x y : A} → r ≡ Ok x → r ≡ Ok y → x ≡ y
ok_one e f = cc

err_one : {A E : Type 0} {r : Result A E} {x y : E} → r ≡ Err x → r ≡ Err y → x ≡ y
err_one e f = cc

ok_or_err : {A E : Type 0} {r : Result A E} {x : A} {y : E} → r ≡ Ok x → r ≡ Err y → ⊥
ok_or_err e f = cc

-- The base is unique.
stated_one : (texts : List Text) (xs ys : List Item) → Declares texts xs → Declares texts ys → xs ≡ ys
stated_one texts xs ys a b = mean_one 0 texts xs ys a.stated b.stated

pub one_base : (texts : List Text) (application : List ℕ) (declared others : Declared) (base other : Base) → IsBaseOf texts application declared base
    → IsBaseOf texts application others other → (declared ≡ others) × (base ≡ other)
one_base texts application declared others base other a b =
    let i = stated_one texts a.items b.items a.declares b.declares in
    let s : declared ≡ others = a.symbols ∙ (ap declared_by i ∙ sym b.symbols) in
    (s, ok_one a.resolves ((λ k. resolved (s k) (expansion (i k) application (s k))) ∙ b.resolves))

-- Texts that pass a step have no error of it.
declared_well : (texts : List Text) (xs ys : List Item) (fault : DeclareFault) → Declares texts xs → SayAll 0 texts ys → first_fault ys ≡ Some fault → ⊥
declared_well texts xs ys fault d s e = some_or_none e (subst (λ is. first_fault is ≡ None) (mean_one 0 texts xs ys d.stated s) d.faultless)

loops_one : (texts : List Text) (application : List ℕ) (xs ys : List Item) → Declares texts xs → Declares texts ys
    → expand_fault xs application (declared_by xs) ≡ expand_fault ys application (declared_by ys)
loops_one texts application xs ys a b = ap (λ is. expand_fault is application (declared_by is)) (stated_one texts xs ys a b)

names_one : (texts : List Text) (application : List ℕ) (xs ys : List Item) → Declares texts xs → Declares texts ys
    → resolved (declared_by xs) (expansion xs application (declared_by xs)) ≡ resolved (declared_by ys) (expansion ys application (declared_by ys))
names_one texts application xs ys a b = ap (λ is. resolved (declared_by is) (expansion is application (declared_by is))) (stated_one texts xs ys a b)

-- what a base implies of the items
made_expands : {texts : List Text} {application : List ℕ} {declared : Declared} {base : Base} (made : IsBaseOf texts application declared base)
    → expand_fault made.items application (declared_by made.items) ≡ None
made_expands {texts} {application} made = subst (λ (k : Declared). expand_fault made.items application k ≡ None) made.symbols made.expands

made_resolves : {texts : List Text} {application : List ℕ} {declared : Declared} {base : Base} (made : IsBaseOf texts application declared base)
    → resolved (declared_by made.items) (expansion made.items application (declared_by made.items)) ≡ Ok base
made_resolves {texts} {application} {declared} {base} made = subst (λ (k : Declared). resolved k (expansion made.items application k) ≡ Ok base) made.symbols
    made.resolves

-- A base excludes the error of each step.
base_or_loops : (texts : List Text) (application : List ℕ) (declared : Declared) (base : Base) (items : List Item) (fault : ExpandFault)
    → IsBaseOf texts application declared base → Declares texts items
    → expand_fault items application (declared_by items) ≡ Some fault → ⊥
base_or_loops texts application declared base items fault made d e = some_or_none e (sym (loops_one texts application made.items items made.declares d)
    ∙ made_expands made)

base_or_names : (texts : List Text) (application : List ℕ) (declared : Declared) (base : Base) (items : List Item) (fault : ResolveFault)
    → IsBaseOf texts application declared base → Declares texts items
    → resolved (declared_by items) (expansion items application (declared_by items)) ≡ Err fault → ⊥
base_or_names texts application declared base items fault made d e = ok_or_err (sym (names_one texts application made.items items made.declares d)
    ∙ made_resolves made) e

pub no_base_and_fault : (texts : List Text) (application : List ℕ) (declared : Declared) (base : Base) (fault : RuleFault)
    → IsBaseOf texts application declared base → HasNoCycle base → IsRuleFault texts application fault → ⊥
no_base_and_fault texts application declared base _ made free (of_tokens {fault = f} h) = mean_or_fail 0 texts made.items (read.Lex f) made.declares.stated h
no_base_and_fault texts application declared base _ made free (of_items {fault = f} h) = mean_or_fail 0 texts made.items (read.Parse f) made.declares.stated h
no_base_and_fault texts application declared base _ made free (of_declarations {items = is} {fault = f} s e) = declared_well texts made.items is f made.declares
    s e
no_base_and_fault texts application declared base _ made free (of_loops {items = is} {fault = f} d e) = base_or_loops texts application declared base is f made
    d e
no_base_and_fault texts application declared base _ made free (of_names {items = is} {fault = f} d x e) = base_or_names texts application declared base is f
    made d e
no_base_and_fault texts application declared base _ made free (of_a_cycle {declared = others} {base = other} cells also c b) =
    free cells (subst (λ (k : Base). IsCycle (Reads k) cells) (sym (one_base texts application declared others base other made also).1) c)

-- An error of an earlier step excludes the errors of later ones.
by_tokens : (texts : List Text) (application : List ℕ) (fault : LexFault) (other : RuleFault) → IsFirstFileFault 0 texts (read.Lex fault)
    → IsRuleFault texts application other → AreOneRuleFault (Lex fault) other
by_tokens texts application fault _ f (of_tokens {fault = other} g) = the_same
    (let e = fail_once 0 texts (read.Lex fault) (read.Lex other) f g in let same : fault ≡ other = cc in ap Lex same)
by_tokens texts application fault _ f (of_items {fault = other} g) = absurd (let e = fail_once 0 texts (read.Lex fault) (read.Parse other) f g in cc)
by_tokens texts application fault _ f (of_declarations {items = is} s e) = absurd (mean_or_fail 0 texts is (read.Lex fault) s f)
by_tokens texts application fault _ f (of_loops {items = is} d e) = absurd (mean_or_fail 0 texts is (read.Lex fault) d.stated f)
by_tokens texts application fault _ f (of_names {items = is} d x e) = absurd (mean_or_fail 0 texts is (read.Lex fault) d.stated f)
by_tokens texts application fault _ f (of_a_cycle cells made c b) = absurd (mean_or_fail 0 texts made.items (read.Lex fault) made.declares.stated f)

by_items : (texts : List Text) (application : List ℕ) (fault : ParseFault) (other : RuleFault) → IsFirstFileFault 0 texts (read.Parse fault)
    → IsRuleFault texts application other → AreOneRuleFault (Parse fault) other
by_items texts application fault _ f (of_items {fault = other} g) = the_same (let e = fail_once 0 texts (read.Parse fault) (read.Parse other) f g in
    let same : fault ≡ other = cc in ap Parse same)
by_items texts application fault _ f (of_tokens {fault = other} g) = absurd (let e = fail_once 0 texts (read.Parse fault) (read.Lex other) f g in cc)
by_items texts application fault _ f (of_declarations {items = is} s e) = absurd (mean_or_fail 0 texts is (read.Parse fault) s f)
by_items texts application fault _ f (of_loops {items = is} d e) = absurd (mean_or_fail 0 texts is (read.Parse fault) d.stated f)
by_items texts application fault _ f (of_names {items = is} d x e) = absurd (mean_or_fail 0 texts is (read.Parse fault) d.stated f)
by_items texts application fault _ f (of_a_cycle cells made c b) = absurd (mean_or_fail 0 texts made.items (read.Parse fault) made.declares.stated f)

by_declarations : (texts : List Text) (application : List ℕ) (items : List Item) (fault : DeclareFault) (other : RuleFault) → SayAll 0 texts items
    → first_fault items ≡ Some fault → IsRuleFault texts application other
    → AreOneRuleFault (Declare fault) other
by_declarations texts application items fault _ s e (of_tokens {fault = f} g) = absurd (mean_or_fail 0 texts items (read.Lex f) s g)
by_declarations texts application items fault _ s e (of_items {fault = f} g) = absurd (mean_or_fail 0 texts items (read.Parse f) s g)
by_declarations texts application items fault _ s e (of_declarations {items = is} {fault = f} u g) = the_same
    (ap Declare (some_one e (ap first_fault (mean_one 0 texts items is s u) ∙ g)))
by_declarations texts application items fault _ s e (of_loops {items = is} d g) = absurd (declared_well texts is items fault d s e)
by_declarations texts application items fault _ s e (of_names {items = is} d x g) = absurd (declared_well texts is items fault d s e)
by_declarations texts application items fault _ s e (of_a_cycle cells made c b) = absurd (declared_well texts made.items items fault made.declares s e)

by_loops : (texts : List Text) (application : List ℕ) (items : List Item) (fault : ExpandFault) (other : RuleFault) → Declares texts items
    → expand_fault items application (declared_by items) ≡ Some fault
    → IsRuleFault texts application other → AreOneRuleFault (Expand fault) other
by_loops texts application items fault _ d e (of_tokens {fault = f} g) = absurd (mean_or_fail 0 texts items (read.Lex f) d.stated g)
by_loops texts application items fault _ d e (of_items {fault = f} g) = absurd (mean_or_fail 0 texts items (read.Parse f) d.stated g)
by_loops texts application items fault _ d e (of_declarations {items = is} {fault = f} u g) = absurd (declared_well texts items is f d u g)
by_loops texts application items fault _ d e (of_loops {items = is} {fault = f} c g) = the_same
    (ap Expand (some_one e (loops_one texts application items is d c ∙ g)))
by_loops texts application items fault _ d e (of_names {items = is} c x g) = absurd (some_or_none e (loops_one texts application items is d c ∙ x))
by_loops texts application items fault _ d e (of_a_cycle {declared = k} {base = base} cells made c b) = absurd
    (base_or_loops texts application k base items fault made d e)

by_names : (texts : List Text) (application : List ℕ) (items : List Item) (fault : ResolveFault) (other : RuleFault) → Declares texts items
    → expand_fault items application (declared_by items) ≡ None
    → resolved (declared_by items) (expansion items application (declared_by items)) ≡ Err fault → IsRuleFault texts application other
    → AreOneRuleFault (Resolve fault) other
by_names texts application items fault _ d x e (of_tokens {fault = f} g) = absurd (mean_or_fail 0 texts items (read.Lex f) d.stated g)
by_names texts application items fault _ d x e (of_items {fault = f} g) = absurd (mean_or_fail 0 texts items (read.Parse f) d.stated g)
by_names texts application items fault _ d x e (of_declarations {items = is} {fault = f} u g) = absurd (declared_well texts items is f d u g)
by_names texts application items fault _ d x e (of_loops {items = is} c g) = absurd (some_or_none g (loops_one texts application is items c d ∙ x))
by_names texts application items fault _ d x e (of_names {items = is} {fault = f} c y g) = the_same
    (ap Resolve (err_one e (names_one texts application items is d c ∙ g)))
by_names texts application items fault _ d x e (of_a_cycle {declared = k} {base = base} cells made c b) = absurd
    (base_or_names texts application k base items fault made d e)

by_cycle : (texts : List Text) (application : List ℕ) (declared : Declared) (base : Base) (names : List (List ℕ)) (other : RuleFault)
    → IsBaseOf texts application declared base → IsRuleFault texts application other
    → AreOneRuleFault (Cycle names) other
by_cycle texts application declared base names _ made (of_tokens {fault = f} g) = absurd (mean_or_fail 0 texts made.items (read.Lex f) made.declares.stated g)
by_cycle texts application declared base names _ made (of_items {fault = f} g) = absurd (mean_or_fail 0 texts made.items (read.Parse f) made.declares.stated g)
by_cycle texts application declared base names _ made (of_declarations {items = is} {fault = f} s e) = absurd
    (declared_well texts made.items is f made.declares s e)
by_cycle texts application declared base names _ made (of_loops {items = is} {fault = f} d e) = absurd
    (base_or_loops texts application declared base is f made d e)
by_cycle texts application declared base names _ made (of_names {items = is} {fault = f} d x e) = absurd
    (base_or_names texts application declared base is f made d e)
by_cycle texts application declared base names _ made (of_a_cycle cells also c b) = both_cycles

pub one_fault : (texts : List Text) (application : List ℕ) (fault other : RuleFault) → IsRuleFault texts application fault → IsRuleFault texts application other
    → AreOneRuleFault fault other
one_fault texts application _ other (of_tokens {fault = f} g) h = by_tokens texts application f other g h
one_fault texts application _ other (of_items {fault = f} g) h = by_items texts application f other g h
one_fault texts application _ other (of_declarations {items = is} {fault = f} s e) h = by_declarations texts application is f other s e h
one_fault texts application _ other (of_loops {items = is} {fault = f} d e) h = by_loops texts application is f other d e h
one_fault texts application _ other (of_names {items = is} {fault = f} d x e) h = by_names texts application is f other d x e h
one_fault texts application _ other (of_a_cycle {declared = k} {base = base} cells made c b) h = by_cycle texts application k base (map (cell_name k) cells)
    other made h
