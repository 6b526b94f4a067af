use Rattle.std.proofs.Common.{sym, ◌∙◌, subst}
use Rattle.m_symbols.specs.Declarations.{Declared}
use Rattle.why_report.specs.inner.Named.{AreNamed}
use Rattle.why_report.proofs.cell_names.CellNames.of.Goals as goal

pub invariant_of-result : goal.invariant_of-result
invariant_of-result c =
    subst (λ (d : Declared). AreNamed d c.in_ok-index.index c.in_ok-names.names.items c.in_ok-spans.spans.items c.in_ok-owners.owners.items)
    (sym c.of.ensures) (record {
      placed = c.requires.placed;
      index = c.in_ok-index.ensures ∙ c.deref.ensures.value ∙ c.in_ok-names.ensures.names;
      named = c.in_ok-names.ensures.names;
      spanned = c.in_ok-spans.ensures;
      owned = c.in_ok-owners.ensures.owners;
      few = c.in_ok-names.ensures.few;
      few_cells = c.in_ok-owners.ensures.few;
    })
