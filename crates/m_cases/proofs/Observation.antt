-- Faults passed on from another call.
use Rattle.std.proofs.Common.{◌≡◌, ◌≢◌, ◌∙◌, Result, Ok, Err, sym, subst}
use Rattle.std.specs.Prelude.{IsErrAnd}
use Rattle.m_places.specs.Refusals.{Outcome}

-- an error with this fault
pub reported : {T E : Type 0} (memory : E) (good : T → Type 0) (bad : E → Type 0) (result : Result T E) (fault : E) → IsErrAnd result (λ x. x ≡ fault)
    → (fault ≢ memory → bad fault) → Outcome memory result good bad
reported memory good bad (Ok value) fault h k = absurd h
reported memory good bad (Err other) fault h k = λ n. subst bad (sym h) (k (λ e. n (h ∙ e)))
