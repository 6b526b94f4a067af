-- A driver resolves to one driver over cells or has one error, and not both.
use Rattle.std.proofs.Common.{◌≡◌, inl, inr, ℕ, List, Result, Ok, Err, refl, sym, subst}
use Rattle.m_symbols.specs.Declarations.{Declared}
use Rattle.mpp_parser.specs.declared.command.Driver.{Driver}
use Rattle.driver_core.specs.declared.program.Core.{Core}
use Rattle.micro_m.specs.Reads.{IsCycle}
use Rattle.driver_core.specs.Valid.{Calls}
use Rattle.mpp_core.specs.declared.fault.CoreFault.{CoreFault}
use Rattle.mpp_core.specs.declared.fault.CoreFault.TheVariants.{FunctionTwice, NoMain, UnknownInDriver, BadTargetInDriver, DriverRecursion, Memory}
use Rattle.mpp_core.specs.Cores.{IsCore, ShowsRing, IsRecursion, IsCoreFault, AreOneCoreFault, the_same, both_rings}

ok_one : {A E : Type 0} {r : Result A E} {x y : A} → r ≡ Ok x → r ≡ Ok y → x ≡ y
ok_one e f = cc

err_one : {A E : Type 0} {r : Result A E} {x y : E} → r ≡ Err x → r ≡ Err y → x ≡ y
err_one e f = cc

ok_or_err : {A E : Type 0} {r : Result A E} {x : A} {y : E} → r ≡ Ok x → r ≡ Err y → ⊥
ok_or_err e f = cc

pub one_core : (driver : Driver) (declared : Declared) (core other : Core) → IsCore driver declared core → IsCore driver declared other → core ≡ other
one_core driver declared core other a b = ok_one a.named b.named

-- this error is always a cycle of calls
shows : (core : Core) (fault : CoreFault) → IsRecursion core fault → (names : List (List ℕ)) × (fault ≡ DriverRecursion names) × ShowsRing core names
shows core (DriverRecursion names) r = (names, refl, r)
shows core (FunctionTwice name line) r = absurd r
shows core NoMain r = absurd r
shows core (UnknownInDriver name line) r = absurd r
shows core (BadTargetInDriver name line) r = absurd r
shows core Memory r = absurd r

pub no_core_and_fault : (driver : Driver) (declared : Declared) (core : Core) (fault : CoreFault) → IsCore driver declared core
    → IsCoreFault driver declared fault → ⊥
no_core_and_fault driver declared core fault a (inl e) = ok_or_err a.named e
no_core_and_fault driver declared core fault a (inr h) =
    let shown = (shows h.0 fault h.2).2 in
    a.no_ring shown.functions (subst (λ (k : Core). IsCycle (Calls k) shown.functions) (ok_one h.1 a.named) shown.ring)

both_show : (core other : Core) (fault another : CoreFault) → IsRecursion core fault → IsRecursion other another → AreOneCoreFault fault another
both_show core other fault another a b =
    let p = shows core fault a in
    let q = shows other another b in
    subst (λ (f : CoreFault). AreOneCoreFault f another) (sym p.1) (subst (λ (g : CoreFault). AreOneCoreFault (DriverRecursion p.0) g) (sym q.1) both_rings)

pub one_fault : (driver : Driver) (declared : Declared) (fault other : CoreFault) → IsCoreFault driver declared fault → IsCoreFault driver declared other
    → AreOneCoreFault fault other
one_fault driver declared fault other (inl e) (inl f) = the_same (err_one e f)
one_fault driver declared fault other (inl e) (inr h) = absurd (ok_or_err h.1 e)
one_fault driver declared fault other (inr h) (inl f) = absurd (ok_or_err h.1 f)
one_fault driver declared fault other (inr h) (inr k) = both_show h.0 k.0 fault other h.2 k.2
