-- Runs, instruction by instruction, and their end.
use Rattle.std.proofs.Common.{◌≡◌, ℕ, ◌+◌, ◌<◌, get_or, length, take, drop, List, sym, ◌∙◌, ap, Vec}
use Rattle.std.specs.declared.alloc.Global.{Global}
use Rattle.std.proofs.lemmas.List.Sums.{fold-append, fold_more}
use Rattle.std.specs.Prelude.{IsSome, None}
use Rattle.std.proofs.lemmas.List.{take-append-drop}
use Rattle.m_fixed.specs.declared.amount.Value.{Value}
use Rattle.reg_machine.specs.declared.code.Packed.{Packed}
use Rattle.reg_machine.specs.declared.code.Parts.{Parts}
use Rattle.reg_machine.specs.declared.instr.TheConstants.{REGISTERS}
use Rattle.reg_machine.specs.Flow.{Listing}
use Rattle.reg_machine.specs.Machine.{machine_run}
use Rattle.reg_machine.specs.inner.Packed.{AreParts}
use Rattle.m_batch.specs.declared.room.Room.{Room}
use Rattle.m_batch.specs.inner.Rows.{row_at, row_inputs}
use Rattle.m_batch.specs.inner.Ran.{Ran, run_on, ran_from, ran_of, ran_answer, IsStep, AreRun}
use Rattle.m_batch.proofs.OrderLemmas.{ran_stays, ran_is_run}

-- one more instruction
pub run_next : (numbers : List ℕ) (rows : List (Vec Value Global)) (pool : List Value) (packed : List Packed) (n : ℕ) (d : Packed) (old before new : Room)
    → n < length packed
    → AreRun numbers rows pool (take n packed) old before → IsStep numbers rows pool (get_or packed n d) before new
    → AreRun numbers rows pool (take (n + 1) packed) old new
run_next numbers rows pool packed n d old before new h so_far step = λ r below.
    let inputs = row_inputs numbers (row_at rows r) in
    step r below ∙ ap (λ (ran : Ran). run_on inputs pool ran (get_or packed n d)) (so_far r below)
    ∙ sym (fold_more (run_on inputs pool) (ran_of r old) packed n d h)

-- a run that has stopped keeps its answer, however many instructions are left
pub stopped_answer : (inputs pool : List Value) (packed : List Packed) (n : ℕ) (start here : Ran) → here ≡ ran_from inputs pool start (take n packed)
    → IsSome here.stop
    → ran_answer here ≡ ran_answer (ran_from inputs pool start packed)
stopped_answer inputs pool packed n start here run stop =
    let all : ran_from inputs pool start packed ≡ ran_from inputs pool here (drop n packed) =
    ap (λ (ps : List Packed). ran_from inputs pool start ps) (sym (take-append-drop n packed))
    ∙ fold-append (run_on inputs pool) start (take n packed) (drop n packed) ∙ ap (λ (ran : Ran). ran_from inputs pool ran (drop n packed)) (sym run) in
    sym (ap ran_answer all ∙ ran_stays inputs pool (drop n packed) here stop)

-- A row's answer is that of the machine, whatever the run's initial registers and slots.
pub block_answer : (code : Listing) (parts : Parts) (inputs : List Value) (start end : Ran) → AreParts code parts → length inputs ≡ code.counts.inputs
    → ran_answer end ≡ ran_answer (ran_from inputs parts.pool.now start parts.packed.now) → start.stop ≡ None
    → length start.registers ≡ REGISTERS → length start.slots ≡ length parts.used.now → length start.outputs ≡ code.counts.outputs
    → ran_answer end ≡ machine_run code inputs
block_answer code parts inputs start end are many run going registers slots outputs = run
    ∙ ran_is_run code parts inputs start are many going registers slots outputs
