-- Texts that were written, and a line after a text.
use Rattle.std.proofs.Common.{◌≡◌, ℕ, List, ◌++◌, Option, Result, Ok, Err, ◌∙◌, ap, subst, inl, inr}
use Rattle.std.specs.Prelude.{MatchResult}
use Rattle.std.specs.Io.KnownBytes.{append_known}
use Rattle.m_ports.specs.Counts.{Rose}
use Rattle.m_ports.proofs.SinkLemmas.{append_known-append, AppendsPrefix-after}
use Rattle.command_plans.specs.Printing.{Prints}
use Rattle.command_plans.specs.Views.{OutputView, output_view}
use Rattle.m_ports.specs.Giving.{Gives}
use Rattle.command_plans.specs.declared.status.Status.{Status}
use Rattle.command_plans.specs.declared.status.Status.TheVariants.{WriteFault}

pub prints_behind : (old mid new : OutputView) (first line : List ℕ) (own status : Status) → mid.written ≡ append_known old.written first
    → mid.faults ≡ old.faults
    → Prints line own mid new status → Prints (first ++ line) own old new status
prints_behind old mid new first line own status w f (inl p) =
    inl ((p.0.0 ∙ ap (λ known. append_known known line) w ∙ append_known-append old.written first line, p.0.1 ∙ f), p.1)
prints_behind old mid new first line own status w f (inr p) =
    inr ((AppendsPrefix-after old.written mid.written new.written first line w p.0.0, subst (λ count. Rose count new.faults) f p.0.1), p.1)

-- a text that was written, with the status after it
pub prints_given : {S T E : Type 0} (written : S → Option (List ℕ)) (faults : S → ℕ) (old new : S) (result : Result T E) (text : List ℕ) (own status : Status)
    → Gives written faults old new result text → MatchResult result (λ _. status ≡ own) (λ _. status ≡ WriteFault)
    → Prints text own (output_view written faults old) (output_view written faults new) status
prints_given written faults old new (Ok value) text own status gives is = inl ((gives.all, gives.faultless), is)
prints_given written faults old new (Err fault) text own status gives is = inr ((gives.prefix, gives.failed), is)
