-- The clause on how much of the input was read.
use Rattle.std.proofs.Common.{◌≡◌, ℕ, ◌<◌, List, [], length, Option, None, Some, refl, sym, ap, ◌∙◌, inr, arith}
use Rattle.std.specs.Io.KnownBytes.{prepend_known}
use Rattle.m_places.specs.declared.limits.TheConstants.{INPUT_BYTES}
use Rattle.command_plans.specs.Courses.{is_no_command, has_no_memory, ended, answered}
use Rattle.command_plans.specs.Views.{FilesView, InputView, OutputView}
use Rattle.command_plans.specs.declared.status.Status.{Status}
use Rattle.command_plans.specs.declared.status.Status.TheVariants.{Refused}
use Rattle.command_plans.proofs.PrintedLemmas.{status_of}
use Rattle.command_answers.specs.Serves as serve
use Rattle.command_answers.specs.Serving.{Served, to_its_end, unread, too_long, unwritten, unwritten_at_end}
use Rattle.m_commands.specs.Clauses.{KeepsInputLimit}
use Rattle.m_commands.specs.declared.work.Work.{Work}
use Rattle.m_commands.specs.declared.work.Work.TheVariants.{Run, Serve, Batch, Large, Compile, Exec, Check, Lint, Cases}
use Rattle.m_commands.specs.inner.Courses.{Course, WorkIsAnswered}

nothing : (known : Option (List ℕ)) → prepend_known [] known ≡ known
nothing None = refl
nothing (Some bytes) = refl

-- nothing was read
untouched : (heard reported : InputView) (status : Status) → reported ≡ heard → KeepsInputLimit heard reported status
untouched heard reported status same = (
  [],
  ap (λ (v : InputView). v.left) (sym same)
      ∙ sym (nothing reported.left),
  omega arith,
  λ full. absurd (omega (arith, full)),
)

-- less than the limit was read
less : (heard reported : InputView) (status : Status) (taken : List ℕ) → heard.left ≡ prepend_known taken reported.left → length taken < INPUT_BYTES
    → KeepsInputLimit heard reported status
less heard reported status taken moved few = (taken, moved, omega (arith, few), λ full. absurd (omega (arith, few, full)))

session_bounded : (whole each : List ℕ → List ℕ) (heard reported : InputView) (old new : OutputView) (status : Status)
    → Served whole each heard reported old new status → KeepsInputLimit heard reported status
session_bounded whole each heard reported old new status (to_its_end taken moved few none calm appends is) = less heard reported status taken moved few
session_bounded whole each heard reported old new status (unread taken moved few rose p) = less heard reported status taken moved few
session_bounded whole each heard reported old new status (too_long taken moved full calm p) = (
  taken,
  moved,
  omega (arith, full),
  λ e. status_of _ Refused old new status
      p,
)
session_bounded whole each heard reported old new status (unwritten taken moved within calm breaks is) = (taken, moved, within, λ full. inr is)
session_bounded whole each heard reported old new status (unwritten_at_end taken moved few none calm breaks is) = less heard reported status taken moved few

work_bounded : (work : Work) (heard reported : InputView) (old new : OutputView) (status : Status)
    → WorkIsAnswered work heard reported old new status → KeepsInputLimit heard reported status
work_bounded (Run source rows) heard reported old new status a = untouched heard reported status a.0
work_bounded (Serve source rows) heard reported old new status (serve.refused line r same p) = untouched heard reported status same
work_bounded (Serve source rows) heard reported old new status (serve.no_memory same n m) = untouched heard reported status same
work_bounded (Serve source rows) heard reported old new status (serve.served scheme explains pairs s done) = session_bounded _ _ heard reported old new status
    done
work_bounded (Batch source table) heard reported old new status a = untouched heard reported status a.0
work_bounded (Large n) heard reported old new status a = untouched heard reported status a.0
work_bounded (Compile source) heard reported old new status a = untouched heard reported status a.0
work_bounded (Exec code rows) heard reported old new status a = untouched heard reported status a.0
work_bounded (Check source rows report) heard reported old new status a = untouched heard reported status a.0
work_bounded (Lint source) heard reported old new status a = untouched heard reported status a.0
work_bounded (Cases source table) heard reported old new status a = untouched heard reported status a.0

pub bounded_of : (words : List (List ℕ)) (before after : FilesView) (heard reported : InputView) (old new : OutputView) (status : Status)
    → Course words before after heard reported old new status → KeepsInputLimit heard reported status
bounded_of words before after heard reported old new status (is_no_command n s h p) = untouched heard reported status h
bounded_of words before after heard reported old new status (has_no_memory s h o e) = untouched heard reported status h
bounded_of words before after heard reported old new status (ended command ending c g h p) = untouched heard reported status h
bounded_of words before after heard reported old new status (answered command work c g a) = work_bounded work heard reported old new status a.1
