-- Two error lines of a source count as one.
use Rattle.std.proofs.Common.{◌≡◌, ℕ, List, Some, refl}
use Rattle.m_places.specs.declared.source.Text.{Text}
use Rattle.m_compile.specs.Lines.{source_line}
use Rattle.m_compile.specs.declared.fault.SourceFault.{SourceFault}
use Rattle.command_plans.specs.declared.status.Status.TheVariants.{Refused}
use Rattle.m_commands.specs.Output.{AreOneOutput, the_same, both_cycles, both_recursions}
use Rattle.m_compile.specs.Faults.{AreOneSourceFault}
use Rattle.m_compile.proofs.LineLaws.{AreOneLine}
use Rattle.m_compile.proofs.LineLaws as line_laws

pub of_lines : (t u : List ℕ) → AreOneLine t u → AreOneOutput t Refused u Refused
of_lines _ _ (line_laws.the_same e) = the_same e refl
of_lines _ _ (line_laws.both_cycles names others) = both_cycles names others
of_lines _ _ (line_laws.both_rings names others) = both_recursions names others

pub one_line : (texts : List Text) (fault other : SourceFault) (t u : List ℕ) → AreOneSourceFault fault other → source_line texts fault ≡ Some t
    → source_line texts other ≡ Some u → AreOneOutput t Refused u Refused
one_line texts fault other t u same a b = of_lines t u (line_laws.one_line texts fault other t u same a b)
