use Rattle.std.proofs.Common.{◌≡◌, ◌≤◌, List, ℕ, ◌++◌, ◌∷◌, [], length, drop, ap, sym, ◌∙◌, subst, arith}
use Rattle.why_report.specs.declared.part.Part.{Part}
use Rattle.why_report.specs.inner.Parts.{cell_parts, height}
use Rattle.why_report.proofs.TermLemmas.{terms-more, appended}
use Rattle.why_report.proofs.terms.add_cell.Goals as goal

pub returns : goal.returns
returns c =
    let base = c.args.base.now in
    let old = c.args.terms.now in
    let parts = c.append_cell.new.parts in
    let size : c.len.result ≡ length parts.items = omega (arith, c.len.ensures, parts.ok.0) in
    let begin : c.len-begin.result ≡ length old.parts.items = omega (arith, c.len-begin.ensures, old.parts.ok.0) in
    let new : drop c.len-begin.result c.deref.result.now ≡ cell_parts base c.args.cell = ap (drop c.len-begin.result) c.deref.ensures.value
    ∙ appended old.parts.items (cell_parts base c.args.cell) parts.items c.len-begin.result c.in_ok-append_cell.ensures begin in
    let high : height 0 (cell_parts base c.args.cell) ≤ c.height_behind.result = subst (λ (ps : List Part). height 0 ps ≤ c.height_behind.result) new
    c.height_behind.ensures in
    terms-more base c.args.cell old (record { parts = parts; begins = c.push.new.self; height = c.higher-terms.result }) c.requires.before
    c.in_ok-append_cell.ensures
    (c.in_ok-push.ensures.items ∙ ap (λ n. old.begins.items ++ n ∷ []) size) c.higher-terms.ensures.first (omega (arith, high, c.higher-terms.ensures.second))
