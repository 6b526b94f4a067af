use Rattle.std.proofs.Common.{rules, ◌<◌, Bool, List, refl, sym, subst, arith}
use Rattle.std.proofs.lemmas.List.{with_items_is, places}
use Rattle.micro_m.specs.Values.{environment}
use Rattle.why_report.specs.declared.line.ReportLine.{ReportLine}
use Rattle.why_report.specs.inner.Standing.{KnowsStanding}
use Rattle.why_report.proofs.CheckLemmas.{line-is, mark-false, derived-kept, follows-here, not-derived, keeps-more}
use Rattle.why_report.proofs.check.Checked.take.Goals as goal

pub returns-then-not-is_value-clause-derived : goal.returns-then-not-is_value-clause-derived
returns-then-not-is_value-clause-derived c =
    let base = c.args.base.now in
    let line = c.index-lines-position.result in
    let is = line-is c.args.lines.now c.args.position line c.requires.position c.index-lines-position.is in
    let found = derived-kept base (environment c.args.env.now) c.args.self.now line.cell _ _ c.derived_value-value.result c.derived_value-value.ensures.value
    c.deref.ensures.value c.deref-2.ensures.value in (
      λ t. absurd (cc),
      λ h. absurd (not-derived base (environment c.args.env.now) base.cells c.args.position c.args.lines.now c.args.self.now line
          c.derived_value-value.result c.requires.kept is found (λ e. let bad = c.if-not-is_value.ensures.1 e in absurd (cc)) h),
    )

pub returns-clause-derived : goal.returns-clause-derived
returns-clause-derived c =
    let base = c.args.base.now in
    let line = c.index-lines-position.result in
    let is = line-is c.args.lines.now c.args.position line c.requires.position c.index-lines-position.is in
    let found = derived-kept base (environment c.args.env.now) c.args.self.now line.cell _ _ c.derived_value-value.result c.derived_value-value.ensures.value
    c.deref.ensures.value c.deref-2.ensures.value in
    let away = mark-false c.args.self.now.marks.items line.cell c.index.result.now c.index.ensures c.if-index.false in (
      λ t. follows-here base (environment c.args.env.now) base.cells c.args.position c.args.lines.now c.args.self.now line c.derived_value-value.result
          c.requires.kept is away found (c.if-not-is_value.ensures.0 t),
      λ h. refl,
    )

pub returns-clause-kept : goal.returns-clause-kept
returns-clause-kept c =
    let base = c.args.base.now in
    let line = c.index-lines-position.result in
    let is = line-is c.args.lines.now c.args.position line c.requires.position c.index-lines-position.is in
    let away = mark-false c.args.self.now.marks.items line.cell c.index.result.now c.index.ensures c.if-index.false in
    let size = c.requires.kept.known_size in
    let same = c.derived_value-value.auto.known in
    keeps-more base.cells c.args.position c.args.lines.now c.args.self.now _ line c.derived_value-value.new.known c.requires.kept c.requires.position is
    (subst (λ (l : ReportLine). l.cell < base.cells) (sym c.index-lines-position.is) (c.requires.cells c.args.position line c.requires.position)) away refl refl
    (with_items_is c.args.self.now.known c.derived_value-value.new.known (search (rules, places))) (omega arith)
    (subst (λ (ms : List Bool). KnowsStanding ms c.derived_value-value.new.known) c.deref.ensures.value c.derived_value-value.ensures.knows)
