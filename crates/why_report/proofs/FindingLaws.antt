-- The result of a check is unique.
use Rattle.std.proofs.Common.{◌≡◌, ℕ, ◌<◌, ◌≤◌, List, [], inl, inr, length, get_or, take, sym, subst, arith}
use Rattle.std.proofs.lemmas.Bool.{cases_lt}
use Rattle.std.proofs.lemmas.List.{get_or-take, take-take, length-take-le}
use Rattle.micro_m.specs.declared.base.Base.{Base}
use Rattle.micro_m.specs.Values.{Environment}
use Rattle.why_report.specs.declared.line.ReportLine.{ReportLine}
use Rattle.why_report.specs.Derivations.{IsDerived, IsDerivedAt, IsFirstUnsound, IsSound, line_at}

-- a line that follows in a prefix of the list follows in the list
pub part-derived : (base : Base) (given : Environment) (lines : List ReportLine) (k p : ℕ) → k ≤ length lines → IsSound base given (take k lines) → p < k
    → IsDerivedAt base given lines p
part-derived base given lines k p low sound below =
    let long = length-take-le k lines low in
    subst (λ (line : ReportLine). IsDerived base given (take p lines) line) (get_or-take k lines p (line_at [] 0) below)
    (subst (λ (earlier : List ReportLine). IsDerived base given earlier (line_at (take k lines) p)) (take-take p k lines (omega (arith, below)))
    (sound p (omega (arith, long, below))))

-- a sound derivation has no line that isn't sound
pub no_sound_and_unsound : (base : Base) (given : Environment) (lines : List ReportLine) (position : ℕ) → IsSound base given lines
    → IsFirstUnsound base given lines position → ⊥
no_sound_and_unsound base given lines position sound first = first.unsound (sound position first.within)

not_before : (base : Base) (given : Environment) (lines : List ReportLine) (one other : ℕ) → IsFirstUnsound base given lines one
    → IsFirstUnsound base given lines other → one < other → ⊥
not_before base given lines one other a b h =
    let within = b.within in
    a.unsound (part-derived base given lines other one (omega (arith, within)) b.sound_before h)

-- the first unsound line is unique
pub one_unsound : (base : Base) (given : Environment) (lines : List ReportLine) (one other : ℕ) → IsFirstUnsound base given lines one
    → IsFirstUnsound base given lines other → one ≡ other
one_unsound base given lines one other a b =
    elim (cases_lt one other) [
      | inl before ↦ absurd (not_before base given lines one other a b before)
      | inr behind ↦ elim (cases_lt other one) [
        | inl before ↦ absurd (not_before base given lines other one b a before)
        | inr same ↦ omega (arith, behind, same)
      ]
    ]
