-- Parsers that fail, and terms in brackets by how deep further ones may be nested.
use Rattle.std.proofs.Common.{◌≡◌, ℕ, zero, suc, ◌-◌, List, Option, None, Result, Ok, Err, refl, ap, arith}
use Rattle.std.specs.Result.{IsErrAnd}
use Rattle.mpp_lexer.specs.declared.piece.DriverPiece.{DriverPiece}
use Rattle.mpp_parser.specs.declared.unread.Unread.{Unread}
use Rattle.mpp_parser.specs.declared.unread.Unread.TheVariants.{NotSpelled, Memory}
use Rattle.mpp_parser.specs.inner.Reading.{Fails, GivesBy, inner_at, disjunction_at}

fails : {A B : Type 0} (e : Unread) (p : Option A) (q : Option B) → (p ≡ None → q ≡ None) → Fails e p → Fails e q
fails NotSpelled p q f h = f h
fails Memory p q f h = tt

-- a missing part makes the whole fail
pub exit : {A B C : Type 0} (view : B → C) (result : Result B Unread) (e : Unread) {p : Option A} {q : Option (C × List DriverPiece)} (rest : List DriverPiece)
    → IsErrAnd result (λ x. x ≡ e) → (p ≡ None → q ≡ None) → Fails e p → GivesBy view result q rest
exit view (Ok x) e rest h f g = absurd h
exit view (Err x) e {p = p} {q = q} rest h f g = rw h (fails e p q f g)

pub inner_none : (d : ℕ) (ts : List DriverPiece) → d ≡ 0 → inner_at d ts ≡ None
unfolding inner_at
inner_none d ts e = ap (λ n. inner_at n ts) e

pub inner_some : (d : ℕ) (ts : List DriverPiece) → (d ≡ 0 → ⊥) → inner_at d ts ≡ disjunction_at (inner_at (d - 1)) ts
unfolding inner_at
inner_some zero ts h = absurd (h refl)
inner_some (suc d) ts h = ap (λ n. disjunction_at (inner_at n) ts) (omega arith)
