-- The status after a text was printed, and what was written.
use Rattle.std.proofs.Common.{◌≡◌, ℕ, List, Option, Some, sym, ap, ◌∙◌, subst, arith, inl, inr}
use Rattle.std.specs.Prelude.{◌⊎◌}
use Rattle.std.specs.Io.KnownBytes.{append_known}
use Rattle.m_ports.specs.Counts.{Rose}
use Rattle.m_ports.specs.Sink.{AppendsPrefix}
use Rattle.command_plans.specs.Printing.{Prints, ReportsWrites}
use Rattle.command_plans.specs.Status.{IsFaultless, IsComplete}
use Rattle.command_plans.specs.Views.{OutputView}
use Rattle.command_plans.specs.declared.status.Status.{Status}
use Rattle.command_plans.specs.declared.status.Status.TheVariants.{Memory, ReadFault, WriteFault}

-- the status is the text's own, or that of a failed write, and so no other
pub other_status : (other : Status) (text : List ℕ) (own : Status) (old new : OutputView) (status : Status) → Prints text own old new status
    → (own ≡ other → ⊥) → (WriteFault ≡ other → ⊥) → status ≡ other → ⊥
other_status other text own old new status (inl p) unlike fault e = unlike (sym p.1 ∙ e)
other_status other text own old new status (inr p) unlike fault e = fault (sym p.1 ∙ e)

pub not_memory : (text : List ℕ) (own : Status) (old new : OutputView) (status : Status) → Prints text own old new status → (own ≡ Memory → ⊥) → status ≡ Memory
    → ⊥
not_memory text own old new status p unlike e = other_status Memory text own old new status p unlike (λ x. cc) e

pub not_read : (text : List ℕ) (own : Status) (old new : OutputView) (status : Status) → Prints text own old new status → (own ≡ ReadFault → ⊥)
    → status ≡ ReadFault → ⊥
not_read text own old new status p unlike e = other_status ReadFault text own old new status p unlike (λ x. cc) e

pub status_of : (text : List ℕ) (own : Status) (old new : OutputView) (status : Status) → Prints text own old new status
    → (status ≡ own) ⊎ (status ≡ WriteFault)
status_of text own old new status (inl p) = inl p.1
status_of text own old new status (inr p) = inr p.1

-- with its own status the whole text was written
pub whole_text : (text : List ℕ) (own : Status) (old new : OutputView) (status : Status) → Prints text own old new status → (WriteFault ≡ own → ⊥)
    → status ≡ own → new.written ≡ append_known old.written text
whole_text text own old new status (inl p) unlike e = p.0.0
whole_text text own old new status (inr p) unlike e = absurd (unlike (sym p.1 ∙ e))

-- with no fault the status is the text's own, and the whole text was written
pub whole_output : (Is : List ℕ → Status → Type 0) (text : List ℕ) (own : Status) (old new : OutputView) (status : Status) → Prints text own old new status
    → IsFaultless status → Is text own → (all : List ℕ) × (new.written ≡ append_known old.written all) × Is all status
whole_output Is text own old new status (inl p) f is = (text, p.0.0, subst (λ (s : Status). Is text s) (sym p.1) is)
whole_output Is text own old new status (inr p) f is = absurd (subst IsFaultless p.1 f)

-- a failed read is no faultless status
pub read_failed : (text : List ℕ) (old new : OutputView) (status : Status) → Prints text ReadFault old new status → IsFaultless status → ⊥
read_failed text old new status (inl p) f = subst IsFaultless p.1 f
read_failed text old new status (inr p) f = subst IsFaultless p.1 f

-- after a failed write a prefix of the text was written
pub text_front : (Is : List ℕ → Type 0) (text : List ℕ) (own : Status) (old new : OutputView) (status : Status) → Prints text own old new status
    → (own ≡ WriteFault → ⊥) → status ≡ WriteFault → Is text → (all : List ℕ) × Is all × AppendsPrefix old.written new.written all
text_front Is text own old new status (inl p) unlike e is = absurd (unlike (sym p.1 ∙ e))
text_front Is text own old new status (inr p) unlike e is = (text, is, p.0.0)

-- the status of a text that is complete, where no write failed
pub complete_status : (text : List ℕ) (own : Status) (old new : OutputView) (status : Status) → Prints text own old new status → IsComplete own
    → (Rose old.faults new.faults → ⊥) → IsComplete status
complete_status text own old new status (inl p) d q = subst IsComplete (sym p.1) d
complete_status text own old new status (inr p) d q = absurd (q p.0.1)

-- ---- failed writes

-- no write failed
pub writes_none : (old new : OutputView) (status : Status) → new.faults ≡ old.faults → (status ≡ WriteFault → ⊥) → ReportsWrites old new status
writes_none old new status same unlike = record { only = λ e. absurd (unlike e); always = λ h. absurd (omega (arith, same, h)) }

pub writes_text : (text : List ℕ) (own : Status) (old new : OutputView) (status : Status) → Prints text own old new status → (own ≡ WriteFault → ⊥)
    → ReportsWrites old new status
writes_text text own old new status (inl p) unlike = writes_none old new status p.0.1 (λ e. unlike (sym p.1 ∙ e))
writes_text text own old new status (inr p) unlike = record { only = λ e. p.0.1; always = λ h. p.1 }

pub writes_nothing : (old new : OutputView) (status : Status) → new ≡ old → status ≡ Memory → ReportsWrites old new status
writes_nothing old new status same m = writes_none old new status (ap (λ (o : OutputView). o.faults) same) (λ e. cc (m, e))

-- ---- error lines

-- equal faults have equal lines
pub one_line : {Fault : Type 0} (line_of : Fault → Option (List ℕ)) (fault other : Fault) (t u : List ℕ) → fault ≡ other → line_of fault ≡ Some t
    → line_of other ≡ Some u → t ≡ u
one_line line_of fault other t u e a b = let c = ap line_of e in cc (a, b, c)
