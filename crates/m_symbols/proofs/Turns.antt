-- One step of the declaration loop: the next item is added, or its fault is the first.
use Rattle.std.proofs.Common.{◌≡◌, ℕ, ◌+◌, ◌<◌, suc, List, [], ◌∷◌, ◌++◌, length, take, drop, get_or, refl, sym, ap, ◌∙◌, add-one, arith}
use Rattle.std.specs.Prelude.{Option, Some, None}
use Rattle.std.proofs.Math.Seq.{drop-cons}
use Rattle.std.proofs.lemmas.List.{take_more}
use Rattle.std.specs.Option.{option_or}
use Rattle.m_ast.specs.declared.item.Item.{Item}
use Rattle.m_symbols.specs.declared.fault.DeclareFault.{DeclareFault}
use Rattle.m_symbols.specs.Declarations.{Declared, declared_by}
use Rattle.m_symbols.specs.Faults.{fault_at, fault_behind}
use Rattle.m_symbols.specs.inner.Tables.{with_item}
use Rattle.m_symbols.proofs.Added.{declared-push}

here : (items : List Item) (i : ℕ) (item : Item) → i < length items → item ≡ get_or items i item → drop i items ≡ item ∷ drop (i + 1) items
here items i item l at = let one : suc i ≡ i + 1 = omega arith in drop-cons items i item l ∙ (λ k. sym at k ∷ drop (one k) items)

front : (items : List Item) (i : ℕ) (item : Item) → i < length items → item ≡ get_or items i item → take (i + 1) items ≡ take i items ++ item ∷ []
front items i item l at = take_more items i item l ∙ ap (λ x. take i items ++ x ∷ []) (sym at)

-- the remaining items, split at the next one
opened : (items : List Item) (i : ℕ) (item : Item) (d : Declared) (all : Option DeclareFault) → i < length items → item ≡ get_or items i item
    → d ≡ declared_by (take i items) → fault_behind (take i items) (drop i items) ≡ all
    → option_or (fault_at d item) (fault_behind (take (i + 1) items) (drop (i + 1) items)) ≡ all
opened items i item d all l at e h =
    (λ k. option_or (fault_at (e k) item) (fault_behind (front items i item l at k) (drop (i + 1) items)))
    ∙ sym (ap (fault_behind (take i items)) (here items i item l at)) ∙ h

pub turn : (items : List Item) (i : ℕ) (item : Item) (d next : Declared) (all : Option DeclareFault) → i < length items → item ≡ get_or items i item
    → d ≡ declared_by (take i items) → fault_behind (take i items) (drop i items) ≡ all
    → fault_at d item ≡ None → next ≡ with_item d item → (next ≡ declared_by (take (i + 1) items))
    × (fault_behind (take (i + 1) items) (drop (i + 1) items) ≡ all)
turn items i item d next all l at e h f n = (
  n ∙ ap (λ x. with_item x item) e ∙ sym (declared-push (take i items) item) ∙ ap declared_by (sym (front items i item l at)),
  ap (λ x. option_or x (fault_behind (take (i + 1) items) (drop (i + 1) items))) (sym f) ∙ opened items i item d all l at e h,
)

pub stop : (items : List Item) (i : ℕ) (item : Item) (d : Declared) (all : Option DeclareFault) (fault : DeclareFault) → i < length items
    → item ≡ get_or items i item → d ≡ declared_by (take i items) → fault_behind (take i items) (drop i items) ≡ all
    → fault_at d item ≡ Some fault → all ≡ Some fault
stop items i item d all fault l at e h f =
    sym (opened items i item d all l at e h) ∙ ap (λ x. option_or x (fault_behind (take (i + 1) items) (drop (i + 1) items))) f
