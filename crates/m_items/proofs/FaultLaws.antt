-- The result of parsing a whole file, and that it is unique.
use Rattle.std.proofs.Common.{◌≡◌, ◌≢◌, ◌⊎◌, inl, inr, List, [], ◌∷◌, Option, Some, None, refl, sym, ap, ◌∙◌, subst, arith}
use Rattle.std.specs.Prelude.{All}
use Rattle.m_places.specs.declared.place.Place.{Place}
use Rattle.m_places.specs.declared.limits.TheConstants.{BRACKET_DEPTH}
use Rattle.m_lexer.specs.declared.token.Token.{Token}
use Rattle.m_ast.specs.declared.item.Item.{Item}
use Rattle.m_ast.specs.Whole.{IsWholeItem}
use Rattle.m_terms.specs.Depth.{first_too_deep}
use Rattle.m_items.specs.DeclarationGrammar.{SpellsDeclaration, a_variable, an_error, an_application, a_chaining}
use Rattle.m_items.proofs.WholeLaws.{rule_whole, verification_whole, many_each}
use Rattle.m_items.specs.declared.fault.ParseFault.{ParseFault}
use Rattle.m_items.specs.declared.fault.ParseFault.TheVariants.{TooDeep, Syntax, Memory}
use Rattle.m_items.specs.Grammar.{SpellsItem, a_declaration, a_rule, a_verification, SpellsItems}
use Rattle.m_items.specs.Faults.{IsShallow, IsLongest, StopsAt, IsParseFault}
use Rattle.m_items.specs.inner.Reading.{items_at}
use Rattle.m_items.proofs.ListLaws.{items_read, items_longest, items_same}

-- The result of reading items.
pub read_all : (ts : List Token) {items : List Item} {rest : List Token} → items_at ts ≡ (items, rest) → rest ≡ [] → SpellsItems items ts []
read_all ts {items} {rest} e f = subst (λ r. SpellsItems items ts r) f (subst (λ (x : List Item × List Token). SpellsItems x.0 ts x.1) e (items_read ts))

pub read_stops : (ts : List Token) {items : List Item} {rest others : List Token} {t : Token} → items_at ts ≡ (items, rest) → rest ≡ t ∷ others
    → StopsAt ts t.place
read_stops ts {items} {rest} {others} {t} e f = record {
  items = items;
  token = t;
  others = others;
  spelled = subst (λ r. SpellsItems items ts r) f (subst (λ (x : List Item × List Token). SpellsItems x.0 ts x.1) e (items_read ts));
  longest = subst (λ r. IsLongest ts r) f (subst (λ (x : List Item × List Token). IsLongest ts x.1) e (items_longest ts));
  placed = refl;
}

declaration_whole : {i : Item} {ts rest : List Token} → SpellsDeclaration i ts rest → IsWholeItem i
declaration_whole (a_variable d) = tt
declaration_whole (an_error d) = tt
declaration_whole (an_application k d s) = tt
declaration_whole (a_chaining k d e s) = tt

item_whole : (i : Item) (ts rest : List Token) → SpellsItem i ts rest → IsWholeItem i
item_whole _ _ _ (a_declaration d) = declaration_whole d
item_whole _ _ _ (a_rule d) = rule_whole d
item_whole _ _ _ (a_verification d) = verification_whole d

pub items_whole : {items : List Item} {ts rest : List Token} → SpellsItems items ts rest → All IsWholeItem items
items_whole d = many_each SpellsItem IsWholeItem item_whole d

-- Uniqueness.
longest_read : {ts : List Token} {items : List Item} {rest : List Token} → SpellsItems items ts rest → IsLongest ts rest → items_at ts ≡ (items, rest)
longest_read {ts} {rest = rest} d h =
    let short = items_longest ts _ _ d in
    let long = h _ _ (items_read ts) in
    items_same d (omega (arith, short, long))

all_or_part : {ts : List Token} {items : List Item} {place : Place} → SpellsItems items ts [] → StopsAt ts place → ⊥
all_or_part d s = let h = s.longest _ _ d in absurd (omega (arith, h))

one_stop : {ts : List Token} {p q : Place} → StopsAt ts p → StopsAt ts q → p ≡ q
one_stop a b =
    let e = sym (longest_read a.spelled a.longest) ∙ longest_read b.spelled b.longest in
    let f : (a.token ∷ a.others) ≡ (b.token ∷ b.others) = ap (λ (x : List Item × List Token). x.1) e in
    let g : a.token ≡ b.token = cc in
    sym a.placed ∙ (ap (λ (t : Token). t.place) g ∙ b.placed)

pub no_list_and_fault : (is : List Item) (ts : List Token) (fault : ParseFault) → IsShallow ts → SpellsItems is ts [] → IsParseFault ts fault → ⊥
no_list_and_fault is ts (TooDeep p) h d f = absurd (cc)
no_list_and_fault is ts (Syntax p) h d f = all_or_part d f.stops
no_list_and_fault is ts Memory h d f = f

pub one_fault : (ts : List Token) (f g : ParseFault) → IsParseFault ts f → IsParseFault ts g → f ≡ g
one_fault ts (TooDeep p) (TooDeep q) a b = cc
one_fault ts (TooDeep p) (Syntax q) a b = let h = b.shallow in absurd (cc)
one_fault ts (Syntax p) (TooDeep q) a b = let h = a.shallow in absurd (cc)
one_fault ts (Syntax p) (Syntax q) a b = ap Syntax (one_stop a.stops b.stops)
one_fault ts Memory g a b = absurd a
one_fault ts f Memory a b = absurd b

-- a list of items, or a fault
pub list_or_fault : (ts : List Token) → (IsShallow ts × ((items : List Item) × SpellsItems items ts [])) ⊎ ((fault : ParseFault) × IsParseFault ts fault)
list_or_fault ts = go (first_too_deep BRACKET_DEPTH 0 ts) refl
  where
    ended : IsShallow ts → (rest : List Token) → (items_at ts).1 ≡ rest
        → (IsShallow ts × ((items : List Item) × SpellsItems items ts [])) ⊎ ((fault : ParseFault) × IsParseFault ts fault)
    ended h [] e = inl (h, ((items_at ts).0, read_all ts refl e))
    ended h (t ∷ others) e = inr (Syntax t.place, record { shallow = h; stops = read_stops ts refl e })

    go : (o : Option Place) → first_too_deep BRACKET_DEPTH 0 ts ≡ o
        → (IsShallow ts × ((items : List Item) × SpellsItems items ts [])) ⊎ ((fault : ParseFault) × IsParseFault ts fault)
    go None h = ended h (items_at ts).1 refl
    go (Some p) h = inr (TooDeep p, h)
