-- `check` has one answer.
use Rattle.std.proofs.Common.{◌≡◌, ℕ, ℤ, List, Ok, refl, ap, subst}
use Rattle.m_places.specs.declared.source.Source.{Source}
use Rattle.household.specs.Household.{household_of}
use Rattle.m_symbols.specs.Declarations.{Declared}
use Rattle.micro_m.specs.declared.base.Base.{Base}
use Rattle.why_report.specs.Derivations.{IsFirstUnsound, IsSound}
use Rattle.why_report.specs.Reports.{parsed_report}
use Rattle.why_report.specs.declared.line.ReportLine.{ReportLine}
use Rattle.why_report.proofs.FindingLaws.{no_sound_and_unsound, one_unsound}
use Rattle.driver_core.specs.Inputs.{inputs_declared}
use Rattle.m_compile.proofs.OneLaws.{no_base_and_base_fault, one_base_fault, one_rules}
use Rattle.command_plans.specs.Status.{IsComplete}
use Rattle.code_answers.specs.Households.{household_fault_line}
use Rattle.command_plans.specs.declared.status.Status.{Status}
use Rattle.rule_answers.specs.Checks.{CheckHasAnswer, CheckReplies, ReportReplies, given_by, report_fault_line, unsound_line}
use Rattle.rule_answers.specs.Checks as check
use Rattle.m_commands.specs.Output.{AreOneOutput, the_same}
use Rattle.command_plans.proofs.PrintedLemmas.{one_line as one_line_of}
use Rattle.m_commands.proofs.Schemes.{one_line}

-- the result over the lines is the same
moved : (declared : Declared) (base : Base) (pairs given : List (ℕ × ℤ)) (lines others : List ReportLine) (position : ℕ) → pairs ≡ given → lines ≡ others
    → IsFirstUnsound base (given_by declared pairs) lines position → IsFirstUnsound base (given_by declared given) others position
moved declared base pairs given lines others position p q first =
    subst (λ (x : List ReportLine). IsFirstUnsound base (given_by declared given) x position) q
    (subst (λ (x : List (ℕ × ℤ)). IsFirstUnsound base (given_by declared x) lines position) p first)

one_report : (declared : Declared) (base : Base) (rows report t u : List ℕ) (s r : Status) → ReportReplies declared base rows report t s
    → ReportReplies declared base rows report u r → AreOneOutput t s u r
one_report declared base rows report t u s r (check.household_is_refused fault g k) (check.household_is_refused other h l) = the_same
    (one_line_of household_fault_line fault other t u (cc (g, h)) k l) refl
one_report declared base rows report t u s r (check.household_is_refused fault g k) (check.report_is_refused pairs other h i l) = cc (g, h)
one_report declared base rows report t u s r (check.household_is_refused fault g k) (check.is_unsound pairs lines position h i l) = cc (g, h)
one_report declared base rows report t u s r (check.household_is_refused fault g k) (check.is_sound pairs lines h i l) = cc (g, h)
one_report declared base rows report t u s r (check.report_is_refused pairs fault g i k) (check.household_is_refused other h l) = cc (g, h)
one_report declared base rows report t u s r (check.report_is_refused pairs fault g i k) (check.report_is_refused given other h j l) = the_same
    (one_line_of report_fault_line fault other t u (cc (i, j)) k l) refl
one_report declared base rows report t u s r (check.report_is_refused pairs fault g i k) (check.is_unsound given lines position h j l) = cc (i, j)
one_report declared base rows report t u s r (check.report_is_refused pairs fault g i k) (check.is_sound given lines h j l) = cc (i, j)
one_report declared base rows report t u s r (check.is_unsound pairs lines position g i k) (check.household_is_refused other h l) = cc (g, h)
one_report declared base rows report t u s r (check.is_unsound pairs lines position g i k) (check.report_is_refused given other h j l) = cc (i, j)
one_report declared base rows report t u s r (check.is_unsound pairs lines position g i k) (check.is_unsound given others place h j l) =
    let p : pairs ≡ given = cc (g, h) in
    let q : lines ≡ others = cc (i, j) in
    the_same (ap unsound_line
    (one_unsound base (given_by declared given) others position place (moved declared base pairs given lines others position p q k) l)) refl
one_report declared base rows report t u s r (check.is_unsound pairs lines position g i k) (check.is_sound given others h j l) =
    let p : pairs ≡ given = cc (g, h) in
    let q : lines ≡ others = cc (i, j) in
    absurd (no_sound_and_unsound base (given_by declared given) others position l (moved declared base pairs given lines others position p q k))
one_report declared base rows report t u s r (check.is_sound pairs lines g i k) (check.household_is_refused other h l) = cc (g, h)
one_report declared base rows report t u s r (check.is_sound pairs lines g i k) (check.report_is_refused given other h j l) = cc (i, j)
one_report declared base rows report t u s r (check.is_sound pairs lines g i k) (check.is_unsound given others position h j l) =
    let p : given ≡ pairs = cc (g, h) in
    let q : others ≡ lines = cc (i, j) in
    absurd (no_sound_and_unsound base (given_by declared pairs) lines position k (moved declared base given pairs others lines position p q l))
one_report declared base rows report t u s r (check.is_sound pairs lines g i k) (check.is_sound given others h j l) = the_same refl refl

-- an answer over a base is one over an equal base
over_same : (declared others : Declared) (base other : Base) (rows report t : List ℕ) (s : Status) → (declared ≡ others) × (base ≡ other)
    → ReportReplies declared base rows report t s → ReportReplies others other rows report t s
over_same declared others base other rows report t s same replied =
    subst (λ (d : Declared). ReportReplies d other rows report t s) same.0 (subst (λ (b : Base). ReportReplies declared b rows report t s) same.1 replied)

-- `check` has one answer for a source
pub one_check : (source : Source) (rows report t u : List ℕ) (s r : Status) → CheckReplies source rows report t s → CheckReplies source rows report u r
    → AreOneOutput t s u r
one_check source rows report t u s r (check.rules_are_refused fault f k) (check.rules_are_refused other g l) =
    one_line source.texts fault other t u (one_base_fault source.texts source.application fault other f g) k l
one_check source rows report t u s r (check.rules_are_refused fault f k) (check.is_checked declared base rules b) = absurd
    (no_base_and_base_fault source.texts source.application declared base fault rules.made rules.no_cycle f)
one_check source rows report t u s r (check.is_checked declared base rules a) (check.rules_are_refused fault f k) = absurd
    (no_base_and_base_fault source.texts source.application declared base fault rules.made rules.no_cycle f)
one_check source rows report t u s r (check.is_checked declared base rules a) (check.is_checked others other also b) =
    one_report others other rows report t u s r (over_same declared others base other rows report t s (one_rules source declared others base other rules also)
    a) b

report_complete : (declared : Declared) (base : Base) (rows report text : List ℕ) (status : Status) (pairs : List (ℕ × ℤ)) (lines : List ReportLine)
    → household_of (inputs_declared declared) rows ≡ Ok pairs
    → parsed_report declared report ≡ Ok lines → IsSound base (given_by declared pairs) lines → ReportReplies declared base rows report text status
    → IsComplete status
report_complete declared base rows report text status pairs lines g i k (check.household_is_refused fault h l) = cc (g, h)
report_complete declared base rows report text status pairs lines g i k (check.report_is_refused given fault h j l) = cc (i, j)
report_complete declared base rows report text status pairs lines g i k (check.is_unsound given others position h j l) =
    let p : given ≡ pairs = cc (g, h) in
    let q : others ≡ lines = cc (i, j) in
    absurd (no_sound_and_unsound base (given_by declared pairs) lines position k (moved declared base given pairs others lines position p q l))
report_complete declared base rows report text status pairs lines g i k (check.is_sound given others h j l) = tt

-- what has an answer isn't rejected
pub checked_complete : (source : Source) (rows report text : List ℕ) (status : Status) → CheckHasAnswer source rows report
    → CheckReplies source rows report text status → IsComplete status
checked_complete source rows report text status h (check.rules_are_refused fault f k) = absurd
    (no_base_and_base_fault source.texts source.application h.declared h.base fault h.rules.made h.rules.no_cycle f)
checked_complete source rows report text status h (check.is_checked declared base rules a) =
    report_complete h.declared h.base rows report text status h.pairs h.lines h.given h.stated h.sound
    (over_same declared h.declared base h.base rows report text status (one_rules source declared h.declared base h.base rules h.rules) a)
