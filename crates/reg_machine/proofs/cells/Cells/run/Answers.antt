use Rattle.std.proofs.Common.{ap, sym, ◌∙◌, length, refl, arith}
use Rattle.reg_machine.proofs.CellLemmas.{goes-start, goes-ok, goes-next, goes-stop, goes-end, at-any, length-outputs, length-slots}
use Rattle.reg_machine.proofs.cells.Cells.run.Goals as goal

pub loop-instr-init : goal.loop-instr-init
loop-instr-init c = record { goes = goes-start _ _ _ _ _ _ _ _ c.requires.fresh; slots = refl; outputs = refl }

pub act-stop-requires : goal.act-stop-requires
act-stop-requires c =
    let s = c.loop-instr.self in
    goes-ok c.args.inputs.now c.args.pool.now c.args.used.now c.args.packed.now _ c.loop-instr.instr-index _ _ s.registers s.slots.items s.outputs.items
    c.requires.packed c.loop-instr.invariant.outputs c.loop-instr-test.true (at-any c.args.packed.now c.loop-instr.instr-index _ _ c.loop-instr-test.true)
    c.loop-instr.invariant.goes

pub returns-then-is_some-clause-answer : goal.returns-then-is_some-clause-answer
returns-then-is_some-clause-answer c =
    let s = c.loop-instr.self in
    let ok = goes-ok c.args.inputs.now c.args.pool.now c.args.used.now c.args.packed.now _ c.loop-instr.instr-index _ _ s.registers s.slots.items
    s.outputs.items c.requires.packed c.loop-instr.invariant.outputs c.loop-instr-test.true
    (at-any c.args.packed.now c.loop-instr.instr-index _ _ c.loop-instr-test.true) c.loop-instr.invariant.goes in
    goes-stop c.args.inputs.now c.args.pool.now c.args.used.now c.args.packed.now _ c.loop-instr.instr-index _ s.registers s.slots.items s.outputs.items _ _
    c.loop-instr-test.true (at-any c.args.packed.now c.loop-instr.instr-index _ _ c.loop-instr-test.true) ok c.loop-instr.invariant.goes
    (sym c.is_some.ensures ∙ c.if-is_some.true) c.act-stop.ensures.stop

pub returns-then-is_some-clause-slots : goal.returns-then-is_some-clause-slots
returns-then-is_some-clause-slots c = ap length c.act-stop.ensures.slots ∙ length-slots _ _ _ ∙ c.loop-instr.invariant.slots

pub returns-then-is_some-clause-outputs : goal.returns-then-is_some-clause-outputs
returns-then-is_some-clause-outputs c = ap length c.act-stop.ensures.outputs ∙ length-outputs _ _ _ ∙ c.loop-instr.invariant.outputs

pub loop-instr-preserved : goal.loop-instr-preserved
loop-instr-preserved c =
    let s = c.loop-instr.self in
    let ok = goes-ok c.args.inputs.now c.args.pool.now c.args.used.now c.args.packed.now _ c.loop-instr.instr-index _ _ s.registers s.slots.items
    s.outputs.items c.requires.packed c.loop-instr.invariant.outputs c.loop-instr-test.true
    (at-any c.args.packed.now c.loop-instr.instr-index _ _ c.loop-instr-test.true) c.loop-instr.invariant.goes in
    record {
      goes = goes-next c.args.inputs.now c.args.pool.now c.args.used.now c.args.packed.now c.loop-instr.instr-index _ _ _ s.registers s.slots.items
          s.outputs.items _ _ _ c.requires.distinct c.loop-instr-test.true (at-any c.args.packed.now c.loop-instr.instr-index _ _ c.loop-instr-test.true) ok
          c.loop-instr.invariant.goes c.act-stop.result (sym c.is_some.ensures ∙ c.if-is_some.false) c.act-stop.ensures.stop (omega arith)
          c.act-stop.ensures.registers c.act-stop.ensures.slots c.act-stop.ensures.outputs;
      slots = ap length c.act-stop.ensures.slots ∙ length-slots _ _ _ ∙ c.loop-instr.invariant.slots;
      outputs = ap length c.act-stop.ensures.outputs ∙ length-outputs _ _ _ ∙ c.loop-instr.invariant.outputs;
    }

pub returns-clause-answer : goal.returns-clause-answer
returns-clause-answer c = goes-end c.args.inputs.now c.args.pool.now c.args.used.now c.args.packed.now _ c.loop-instr.instr-index _ _ _ c.loop-instr-test.false
    c.loop-instr.invariant.goes
