-- The lines of two faults of a source that count as one.
use Rattle.std.proofs.Common.{◌≡◌, ℕ, List, Some, subst}
use Rattle.m_places.specs.declared.source.Text.{Text}
use Rattle.tax_print.specs.FaultLines.{cycle_line, recursion_line}
use Rattle.m_compile.specs.Faults.{AreOneSourceFault}
use Rattle.m_compile.specs.Faults as faults
use Rattle.m_compile.specs.Lines.{source_line}
use Rattle.m_compile.specs.declared.fault.SourceFault.{SourceFault}

-- the lines are equal, or both show a cycle of cells, or both a cycle of functions
pub data AreOneLine : List ℕ → List ℕ → Type 0 where
  the_same : {text other : List ℕ} → text ≡ other → AreOneLine text other
  both_cycles : (names others : List (List ℕ)) → AreOneLine (cycle_line names) (cycle_line others)
  both_rings : (names others : List (List ℕ)) → AreOneLine (recursion_line names) (recursion_line others)

pub one_line : (texts : List Text) (fault other : SourceFault) (t u : List ℕ) → AreOneSourceFault fault other → source_line texts fault ≡ Some t
    → source_line texts other ≡ Some u → AreOneLine t u
one_line texts fault other t u (faults.the_same e) a b =
    let c : source_line texts other ≡ Some t = subst (λ (f : SourceFault). source_line texts f ≡ Some t) e a in
    the_same (cc (c, b))
one_line texts fault other t u (faults.both_cycles {names = ns} {others = os}) a b =
    let c : cycle_line ns ≡ t = cc a in
    let d : cycle_line os ≡ u = cc b in
    subst (λ (x : List ℕ). AreOneLine x u) c (subst (λ (x : List ℕ). AreOneLine (cycle_line ns) x) d (both_cycles ns os))
one_line texts fault other t u (faults.both_rings {names = ns} {others = os}) a b =
    let c : recursion_line ns ≡ t = cc a in
    let d : recursion_line os ≡ u = cc b in
    subst (λ (x : List ℕ). AreOneLine x u) c (subst (λ (x : List ℕ). AreOneLine (recursion_line ns) x) d (both_rings ns os))
