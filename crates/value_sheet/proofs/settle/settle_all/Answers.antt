use Rattle.std.proofs.Common.{◌≡◌, ◌+◌, ◌-◌, ◌<◌, ◌≤◌, false, length, ap, sym, subst, ◌∙◌, arith}
use Rattle.std.proofs.lemmas.List.{length-replicate}
use Rattle.flat_code.specs.Runs.{node_values}
use Rattle.value_sheet.specs.inner.Sound.{IsSettling}
use Rattle.value_sheet.proofs.SettleLemmas.{node_here, settling_skip, settling_turn, settling_first, settled_values, settled_marks, settled_cost, marked_first}
use Rattle.value_sheet.proofs.settle.settle_all.Goals as goal

pub loop-k-init : goal.loop-k-init
loop-k-init g c =
    let nodes = c.args.graph.now.nodes.now in
    let room : length c.mark_put.new.marks ≡ length c.args.graph.now.nodes.now = c.mark_put.ensures.many ∙ ap length c.requires.marks
    ∙ length-replicate (length nodes) false in
    record {
      settling = settling_first nodes c.args.inputs.now c.args.puts.now c.args.kept.now c.mark_put.new.marks c.args.steps.now c.requires.room room
          (marked_first nodes c.args.puts.now c.args.graph.now.input_rows.now c.mark_put.new.marks (length c.args.inputs.now) c.requires.input_rows
          c.requires.puts c.requires.valid
          c.mark_put.ensures.sound c.mark_put.ensures.complete);
      within = omega arith;
    }

pub turn-requires-clause-node : goal.turn-requires-clause-node
turn-requires-clause-node g c =
    node_here (length c.args.inputs.now) c.args.graph.now.nodes.now c.in-Some.k c.requires.valid
    (omega (arith, c.in-Some.ensures.within.0, c.loop-k.invariant.settling.room))

pub loop-k-preserved : goal.loop-k-preserved
loop-k-preserved g c =
    let nodes = c.args.graph.now.nodes.now in
    let k = c.in-Some.k in
    let lt : c.in-Some.k < length c.args.graph.now.nodes.now = omega (arith, c.in-Some.ensures.within.0, c.loop-k.invariant.settling.room) in
    let from : c.loop-k.p ≤ c.in-Some.k = c.in-Some.ensures.next.from in
    let at = settling_skip (length c.args.inputs.now) nodes c.args.inputs.now c.args.puts.now c.args.kept.now c.loop-k.kept c.loop-k.marks (k - c.loop-k.p)
    c.loop-k.p k c.args.steps.now c.loop-k.steps
    c.requires.valid c.requires.right (omega arith) (omega arith) c.in-Some.ensures.next.between c.loop-k.invariant.settling in
    record {
      settling = subst (λ n. IsSettling nodes c.args.puts.now c.args.kept.now (node_values c.args.inputs.now nodes) c.turn.new.kept c.turn.new.marks (k + 1)
          c.args.steps.now n) (sym c.turn.ensures.step)
          (settling_turn (length c.args.inputs.now) nodes c.args.inputs.now c.args.puts.now c.args.kept.now c.loop-k.kept c.turn.new.kept c.loop-k.marks
          c.turn.new.marks k c.args.steps.now c.loop-k.steps
          c.requires.valid lt c.in-Some.ensures.next.is c.turn.ensures.value c.turn.ensures.marks c.turn.ensures.many at);
      within = omega arith;
    }

pub returns-clause-values : goal.returns-clause-values
returns-clause-values g c =
    let nodes = c.args.graph.now.nodes.now in
    let within : c.loop-k.p ≤ length c.args.graph.now.nodes.now = c.loop-k.invariant.within in
    settled_values nodes c.args.inputs.now c.args.puts.now c.args.kept.now c.loop-k.kept c.loop-k.marks c.args.steps.now c.loop-k.steps
    (settling_skip (length c.args.inputs.now) nodes c.args.inputs.now c.args.puts.now c.args.kept.now c.loop-k.kept c.loop-k.marks (length nodes - c.loop-k.p)
    c.loop-k.p (length nodes) c.args.steps.now c.loop-k.steps
    c.requires.valid c.requires.right (omega arith) (omega arith) (λ k from below. c.in_default.ensures.next k from) c.loop-k.invariant.settling)

pub returns-clause-marks : goal.returns-clause-marks
returns-clause-marks g c =
    let nodes = c.args.graph.now.nodes.now in
    let within : c.loop-k.p ≤ length c.args.graph.now.nodes.now = c.loop-k.invariant.within in
    settled_marks nodes c.args.inputs.now c.args.puts.now c.args.kept.now c.loop-k.kept c.loop-k.marks c.args.steps.now c.loop-k.steps
    (settling_skip (length c.args.inputs.now) nodes c.args.inputs.now c.args.puts.now c.args.kept.now c.loop-k.kept c.loop-k.marks (length nodes - c.loop-k.p)
    c.loop-k.p (length nodes) c.args.steps.now c.loop-k.steps
    c.requires.valid c.requires.right (omega arith) (omega arith) (λ k from below. c.in_default.ensures.next k from) c.loop-k.invariant.settling)

pub returns-clause-cost : goal.returns-clause-cost
returns-clause-cost g c =
    let nodes = c.args.graph.now.nodes.now in
    let within : c.loop-k.p ≤ length c.args.graph.now.nodes.now = c.loop-k.invariant.within in
    settled_cost nodes c.args.inputs.now c.args.puts.now c.args.kept.now c.loop-k.kept c.loop-k.marks c.args.steps.now c.loop-k.steps
    (settling_skip (length c.args.inputs.now) nodes c.args.inputs.now c.args.puts.now c.args.kept.now c.loop-k.kept c.loop-k.marks (length nodes - c.loop-k.p)
    c.loop-k.p (length nodes) c.args.steps.now c.loop-k.steps
    c.requires.valid c.requires.right (omega arith) (omega arith) (λ k from below. c.in_default.ensures.next k from) c.loop-k.invariant.settling)
