use Rattle.std.proofs.Common.{◌≡◌, ◌<◌, ◌-◌, ℕ, List, [], length, take, drop, rules, ap, sym, ◌∙◌, subst, arith}
use Rattle.std.specs.List.{All}
use Rattle.std.specs.Vec.{with_items}
use Rattle.std.proofs.lemmas.List.{with_items_is, places}
use Rattle.m_fixed.specs.declared.amount.Value.{Value}
use Rattle.micro_m.specs.Values.{environment}
use Rattle.why_report.specs.declared.line.ReportLine.{ReportLine}
use Rattle.why_report.specs.Starts.{Reporting}
use Rattle.why_report.specs.Reasons.{IsReasonOf, lines_over, needed_cells, why_lines}
use Rattle.why_report.specs.inner.Held.{AreFollowing}
use Rattle.why_report.proofs.ReasonLemmas.{needed-all-below, needed-following, why-reason, why-below}
use Rattle.why_report.proofs.PassLemmas.{end-slice}
use Rattle.why_report.proofs.reporter.Reporter.why.Goals as goal

pub forget-requires-clause-cells : goal.forget-requires-clause-cells
forget-requires-clause-cells c =
    let ordered = c.self.inside.ordered.value in
    let ready = c.self.invariant.0 in
    let needed = c.find_needed-from.new.needed in
    let all = needed-all-below ordered c.args.cell ready.valid ready.order in
    let same : c.deref.result.now ≡ needed = c.deref.ensures.value ∙ with_items_is c.self.inside.room.needed needed (search (rules, places)) in
    let is = end-slice c.deref.result.now needed (needed_cells ordered c.args.cell) c.find_needed-from.result same c.find_needed-from.ensures.needed in
    let known = c.find_needed-from.new.known in
    let long : length known ≡ ordered.base.cells = omega (
      arith,
      c.find_needed-from.auto.known,
      ap length c.deref_mut.ensures.value,
      ready.room_for.known_size,
    ) in
    let size : length c.deref_mut-3.result.now ≡ ordered.base.cells = ap length (c.deref_mut-3.ensures.value
    ∙ with_items_is c.self.inside.room.known known (search (rules, places))) ∙ long in
    λ k d low. let b = subst (λ (xs : List ℕ). All (λ x. x < ordered.base.cells) xs) (sym is) all k d low in omega (arith, size)

pub fill_lines-requires-clause-cells : goal.fill_lines-requires-clause-cells
fill_lines-requires-clause-cells c =
    let ordered = c.self.inside.ordered.value in
    let ready = c.self.invariant.0 in
    let needed = c.find_needed-from.new.needed in
    let same : c.deref.result.now ≡ needed = c.deref.ensures.value ∙ with_items_is c.self.inside.room.needed needed (search (rules, places)) in
    let is = end-slice c.deref.result.now needed (needed_cells ordered c.args.cell) c.find_needed-from.result same c.find_needed-from.ensures.needed in
    subst (λ (xs : List ℕ). All (λ x. x < ordered.base.cells) xs) (sym is) (needed-all-below ordered c.args.cell ready.valid ready.order)

pub fill_lines-requires-clause-following : goal.fill_lines-requires-clause-following
fill_lines-requires-clause-following c =
    let ordered = c.self.inside.ordered.value in
    let ready = c.self.invariant.0 in
    let needed = c.find_needed-from.new.needed in
    let same : c.deref.result.now ≡ needed = c.deref.ensures.value ∙ with_items_is c.self.inside.room.needed needed (search (rules, places)) in
    let is = end-slice c.deref.result.now needed (needed_cells ordered c.args.cell) c.find_needed-from.result same c.find_needed-from.ensures.needed in
    subst (AreFollowing ordered.base []) (sym is) (needed-following ordered c.args.cell ready.valid ready.order)

pub returns-clause-reason : goal.returns-clause-reason
returns-clause-reason c =
    let inside = c.self.inside in
    let ready = c.self.invariant.0 in
    let given = environment inside.env.items in
    let needed = c.find_needed-from.new.needed in
    let lines = c.fill_lines.new.lines in
    let cells = take (length c.deref.result.now - c.find_needed-from.result) (drop c.find_needed-from.result c.deref.result.now) in
    let low : c.args.cell < inside.ordered.value.base.cells = subst (λ (h : Reporting). c.args.cell < h.ordered.base.cells) (sym c.self.view_is) c.requires in
    let same : c.deref.result.now ≡ needed = c.deref.ensures.value ∙ with_items_is inside.room.needed needed (search (rules, places)) in
    let is : cells ≡ needed_cells inside.ordered.value c.args.cell = end-slice c.deref.result.now needed (needed_cells inside.ordered.value c.args.cell)
    c.find_needed-from.result same c.find_needed-from.ensures.needed in
    let are : take (length cells) (with_items inside.room.lines lines).items ≡ why_lines inside.ordered.value given c.args.cell =
    ap (take (length cells)) (with_items_is inside.room.lines lines (search (rules, places)))
    ∙ c.fill_lines.ensures.lines
    ∙ ap (λ (vs : List Value). lines_over inside.ordered.value.base (environment vs) [] cells) c.deref-2.ensures.value
    ∙ ap (lines_over inside.ordered.value.base given []) is in
    subst (λ (h : Reporting). IsReasonOf h.ordered.base (environment h.env) c.args.cell (take (length cells) (with_items inside.room.lines lines).items))
    c.self.view_is
    (subst (IsReasonOf inside.ordered.value.base given c.args.cell) (sym are) (why-reason inside.ordered.value given c.args.cell ready.valid ready.order low))

pub returns-clause-known : goal.returns-clause-known
returns-clause-known c =
    let inside = c.self.inside in
    let ready = c.self.invariant.0 in
    let given = environment inside.env.items in
    let needed = c.find_needed-from.new.needed in
    let lines = c.fill_lines.new.lines in
    let cells = take (length c.deref.result.now - c.find_needed-from.result) (drop c.find_needed-from.result c.deref.result.now) in
    let same : c.deref.result.now ≡ needed = c.deref.ensures.value ∙ with_items_is inside.room.needed needed (search (rules, places)) in
    let is : cells ≡ needed_cells inside.ordered.value c.args.cell = end-slice c.deref.result.now needed (needed_cells inside.ordered.value c.args.cell)
    c.find_needed-from.result same c.find_needed-from.ensures.needed in
    let are : take (length cells) (with_items inside.room.lines lines).items ≡ why_lines inside.ordered.value given c.args.cell =
    ap (take (length cells)) (with_items_is inside.room.lines lines (search (rules, places)))
    ∙ c.fill_lines.ensures.lines
    ∙ ap (λ (vs : List Value). lines_over inside.ordered.value.base (environment vs) [] cells) c.deref-2.ensures.value
    ∙ ap (lines_over inside.ordered.value.base given []) is in
    subst (λ (h : Reporting). All (λ line. line.cell < h.ordered.base.cells) (take (length cells) (with_items inside.room.lines lines).items)) c.self.view_is
    (subst (λ (ls : List ReportLine). All (λ line. line.cell < inside.ordered.value.base.cells) ls) (sym are)
    (why-below inside.ordered.value given c.args.cell ready.valid ready.order))
