use Rattle.std.proofs.Common.{◌≡◌, ◌≤◌, List, [], length, get_or, ap, sym, subst, ◌∙◌, arith}
use Rattle.std.specs.Option.{option_map_or}
use Rattle.micro_m.specs.Bases.{definition_of}
use Rattle.micro_m.specs.Values.{environment, term_value}
use Rattle.why_report.specs.declared.part.Part.{Part}
use Rattle.why_report.specs.inner.Parts.{cell_parts, executed, height}
use Rattle.why_report.proofs.PartLemmas.{cell-value}
use Rattle.why_report.proofs.lines.cell_value.Goals as goal

pub of-requires-clause-within : goal.of-requires-clause-within
of-requires-clause-within c = let size = c.requires.terms.size in omega (arith, c.requires.cell)

pub of-requires-clause-span : goal.of-requires-clause-span
of-requires-clause-span c = c.requires.terms.spans c.args.cell c.requires.cell

pub evaluate-requires : goal.evaluate-requires
evaluate-requires c =
    let base = c.args.ordered.now.value.base in
    let low : height 0 (cell_parts base c.args.cell) ≤ length c.args.stack.now = let h = c.requires.terms.heights c.args.cell c.requires.cell in
    omega (arith, c.requires.stack) in
    subst (λ (ps : List Part). height 0 ps ≤ length c.args.stack.now) (sym (c.of.ensures ∙ c.requires.terms.rows c.args.cell c.requires.cell)) low

pub returns-clause-value : goal.returns-clause-value
returns-clause-value c =
    let base = c.args.ordered.now.value.base in
    let is = c.of.ensures ∙ c.requires.terms.rows c.args.cell c.requires.cell in
    c.evaluate.ensures.value
    ∙ ap (λ (ps : List Part). get_or (executed (environment c.args.values.now) ps []) 0 c.value_at.result) is
    ∙ cell-value base (environment c.args.values.now) c.args.cell c.value_at.result
    ∙ ap (λ v. option_map_or (term_value (environment c.args.values.now)) (definition_of base c.args.cell) v) c.value_at.ensures
