use Rattle.std.proofs.Common.{◌+◌, length, ap, sym, ◌∙◌}
use Rattle.std.specs.Prelude.{count_by}
use Rattle.flat_code.specs.Runs.{node_values}
use Rattle.flat_code.specs.Touched.{is_touched, touched}
use Rattle.flat_code.proofs.RunLemmas.{length-node_values}
use Rattle.value_sheet.specs.Held.{Held}
use Rattle.value_sheet.proofs.SettleLemmas.{right_from}
use Rattle.value_sheet.proofs.sheet.Sheet.settle.Goals as goal

pub settle_all-requires-clause-room : goal.settle_all-requires-clause-room
settle_all-requires-clause-room g c =
    let s = c.self.inside in
    ap length (c.deref_mut.ensures.value ∙ c.self.invariant.right) ∙ length-node_values s.last.value.items s.tidy.nodes
    ∙ ap length (sym c.nodes_of.ensures.nodes)

pub settle_all-requires-clause-right : goal.settle_all-requires-clause-right
settle_all-requires-clause-right g c =
    let s = c.self.inside in
    rw (c.nodes_of.ensures.nodes, c.deref_mut.ensures.value, c.deref.ensures.value)
    (right_from s.tidy.inputs s.tidy.nodes s.last.value.items s.inputs.items s.puts s.kept.items c.self.invariant.valid.nodes c.self.invariant.right
    c.self.invariant.same)

pub returns-clause-cost : goal.returns-clause-cost
returns-clause-cost g c =
    let s = c.self.inside in
    let begun = c.args.steps.now in
    c.settle_all.ensures.cost
    ∙ ap (λ ns. begun + count_by (is_touched s.puts c.deref_mut.result.now (node_values c.deref.result.now ns)) ns) c.nodes_of.ensures.nodes
    ∙ ap (λ now. begun + count_by (is_touched s.puts c.deref_mut.result.now (node_values now s.tidy.nodes)) s.tidy.nodes) c.deref.ensures.value
    ∙ ap (λ old. begun + count_by (is_touched s.puts old (node_values s.inputs.items s.tidy.nodes)) s.tidy.nodes) (c.deref_mut.ensures.value
    ∙ c.self.invariant.right)
    ∙ ap (λ (held : Held). begun + touched held.flat.nodes held.put held.settled held.now) c.self.view_is
