-- Lists of items: reading one item after another gives the longest prefix that parses as items.
use Rattle.std.proofs.Common.{◌≡◌, ◌<◌, ◌≤◌, List, [], ◌∷◌, ◌++◌, length, Option, Some, None, refl, sym, subst, append_assoc, arith}
use Rattle.std.proofs.lemmas.List.{append-nil}
use Rattle.m_lexer.specs.declared.token.Token.{Token}
use Rattle.m_ast.specs.declared.item.Item.{Item}
use Rattle.m_terms.proofs.Passes.{behind_shorter}
use Rattle.m_items.specs.Many.{no_more, one_more}
use Rattle.m_items.specs.inner.RuleReading.{many_at}
use Rattle.m_items.proofs.Manys.{Going, many_start, many_turn, many_stop}
use Rattle.m_items.proofs.RuleSoundLaws.{many_sound}
use Rattle.m_items.proofs.RunLaws.{found_at, going_shrinks}
use Rattle.m_items.specs.Grammar.{SpellsItem, SpellsItems}
use Rattle.m_items.specs.Faults.{IsLongest}
use Rattle.m_items.specs.inner.Reading.{item_at, items_at}
use Rattle.m_items.proofs.ItemLaws.{item_sound, item_passes, ItemRuns, exact, longer, item_runs}

shorter : (ts : List Token) {m : List Token} {i : Item} → item_at ts ≡ Some (i, m) → length m < length ts
shorter ts e = behind_shorter (item_passes _ _ _ (found_at (item_sound ts) e))

shrinks : {whole : List Item × List Token} {done : List Item} {ts : List Token} → Going item_at whole done ts → length whole.1 ≤ length ts
shrinks g = going_shrinks SpellsItem item_at item_sound item_passes g

-- all of these are read up to r, or reading ends after r
data ListRuns (whole : List Item × List Token) (done : List Item) (r : List Token) : Type 0 where
  along : Going item_at whole done r → ListRuns whole done r
  past : length whole.1 < length r → ListRuns whole done r

pub stuck : {i : Item} {ts r : List Token} → SpellsItem i ts r → item_at ts ≡ None → ⊥
stuck {i} {ts} {r} d none = go (item_runs d)
  where
    go : ItemRuns i ts r → ⊥
    go (exact e) = absurd (cc)
    go (longer j m e less f) = absurd (cc)

after : {whole : List Item × List Token} (done : List Item) {y : Item} {ys : List Item} {ts mid r : List Token} → ItemRuns y ts mid → SpellsItems ys mid r
    → Going item_at whole done ts → (Going item_at whole (done ++ y ∷ []) mid → ListRuns whole ((done ++ y ∷ []) ++ ys) r) → ListRuns whole (done ++ y ∷ ys) r
after {whole} done {y} {ys} {r = r} (exact e) m g again = subst (λ l. ListRuns whole l r) (append_assoc done (y ∷ []) ys)
    (again (many_turn item_at g e (shorter _ e)))
after done (longer j m e less none) no_more g again = past (let short = shrinks (many_turn item_at g e (shorter _ e)) in omega (arith, short, less))
after done (longer j m e less none) (one_more f h) g again = absurd (stuck f none)

list_runs : {whole : List Item × List Token} {ys : List Item} {ts r : List Token} → SpellsItems ys ts r → (done : List Item) → Going item_at whole done ts
    → ListRuns whole (done ++ ys) r
list_runs {whole} {ts = ts} no_more done g = along (subst (λ l. Going item_at whole l ts) (sym (append-nil done)) g)
list_runs (one_more {x = y} d e) done g = after done (item_runs d) e g (λ q. list_runs e (done ++ y ∷ []) q)

pub items_read : (ts : List Token) → SpellsItems (items_at ts).0 ts (items_at ts).1
unfolding items_at
items_read ts =
    let q = many_sound SpellsItem item_at item_sound (length ts) [] ts in
    subst (λ l. SpellsItems l ts (many_at item_at (length ts) [] ts).1) (sym q.all) q.many

from_start : {ys : List Item} {ts r : List Token} → SpellsItems ys ts r → ListRuns (items_at ts) ys r
unfolding items_at
from_start d = list_runs d [] (many_start item_at refl)

pub items_longest : (ts : List Token) → IsLongest ts (items_at ts).1
items_longest ts ys r d = go (from_start d)
  where
    go : ListRuns (items_at ts) ys r → length (items_at ts).1 ≤ length r
    go (along g) = shrinks g
    go (past h) = omega arith

ends_there : {whole : List Item × List Token} {ys : List Item} {r : List Token} → Going item_at whole ys r → length whole.1 ≡ length r
    → (o : Option (Item × List Token)) → item_at r ≡ o → whole ≡ (ys, r)
ends_there g h None e = many_stop item_at g e
ends_there g h (Some x) e = absurd (let less = shorter _ e in let short = shrinks (many_turn item_at g e less) in omega (arith, less, short, h))

-- a spelling up to the end of reading is what is read
pub items_same : {ys : List Item} {ts r : List Token} → SpellsItems ys ts r → length (items_at ts).1 ≡ length r → items_at ts ≡ (ys, r)
items_same {ys} {ts} {r} d h = go (from_start d)
  where
    go : ListRuns (items_at ts) ys r → items_at ts ≡ (ys, r)
    go (along g) = ends_there g h (item_at r) refl
    go (past less) = absurd (omega (arith, less, h))
