-- Error exits of a reader.
use Rattle.std.proofs.Common.{◌≡◌, List, Option, None, Result, Ok, Err}
use Rattle.std.specs.Result.{IsErrAnd}
use Rattle.m_lexer.specs.declared.token.Token.{Token}
use Rattle.m_items.specs.declared.item_fault.ItemFault.{ItemFault}
use Rattle.m_items.specs.declared.item_fault.ItemFault.TheVariants.{NoItem, Memory}
use Rattle.m_items.specs.inner.DeclarationReading.{Fails, GivesBy}

fails : {A B : Type 0} (e : ItemFault) (p : Option A) (q : Option B) → (p ≡ None → q ≡ None) → Fails e p → Fails e q
fails NoItem p q f h = f h
fails Memory p q f h = tt

-- if a missing part makes the whole missing, an error of the part is one of the whole
pub exit : {A B C : Type 0} (view : B → C) (result : Result B ItemFault) (e : ItemFault) {p : Option A} {q : Option (C × List Token)} (rest : List Token)
    → IsErrAnd result (λ x. x ≡ e) → (p ≡ None → q ≡ None) → Fails e p → GivesBy view result q rest
exit view (Ok x) e rest h f g = absurd h
exit view (Err x) e {p = p} {q = q} rest h f g = rw h (fails e p q f g)
