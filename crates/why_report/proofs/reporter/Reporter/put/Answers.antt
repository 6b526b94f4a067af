use Rattle.std.proofs.Common.{◌≡◌, ◌<◌, length, get_or, set, take, ap, sym, ◌∙◌, subst, arith}
use Rattle.std.proofs.lemmas.List.{get_or-set_same, get_or_default}
use Rattle.why_report.specs.Starts.{Reporting, IsStart, with_input}
use Rattle.why_report.proofs.StartLemmas.{put-start}
use Rattle.why_report.proofs.reporter.Reporter.put.Goals as goal

pub returns-clause-put : goal.returns-clause-put
returns-clause-put c =
    let inside = c.self.inside in
    let input = c.args.input in
    let few : input < length inside.inputs.items = subst (λ (h : Reporting). input < length h.inputs) (sym c.self.view_is) c.requires in
    let low : input < length inside.input_cells.items = omega (arith, c.self.invariant.0.each) in
    let cell : c.index-cell.result.now ≡ get_or inside.input_cells.items input 0 = c.index-cell.ensures
    ∙ get_or_default inside.input_cells.items input _ 0 low in
    let value : c.index.result.now ≡ c.args.v = c.index.ensures ∙ get_or-set_same inside.inputs.items input c.args.v _ few in
    (λ i. record {
      ordered = inside.ordered.value;
      input_cells = inside.input_cells.items;
      inputs = set inside.inputs.items input c.args.v;
      env = set inside.env.items (cell i) (value i);
      lines = take inside.found inside.room.lines.items;
    })
    ∙ ap (λ (h : Reporting). with_input h input c.args.v) c.self.view_is

pub returns-clause-start : goal.returns-clause-start
returns-clause-start c = λ declared is. subst (IsStart declared) (sym (returns-clause-put c))
    (put-start declared c.args.self.now c.args.input c.args.v c.requires is)
