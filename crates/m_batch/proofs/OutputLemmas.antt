-- A run has as many outputs as the code.
use Rattle.std.proofs.Common.{◌≡◌, List, [], ◌∷◌, length, Option, None, Some, refl, ap, ◌∙◌}
use Rattle.std.proofs.lemmas.List.{length-set, length-replicate}
use Rattle.m_fixed.specs.declared.amount.Value.{Value}
use Rattle.m_fixed.specs.declared.amount.Value.TheVariants.{Undef}
use Rattle.observables.specs.declared.answer.Stop.{Stop}
use Rattle.observables.specs.declared.answer.Answer.TheVariants.{Values}
use Rattle.reg_machine.specs.declared.instr.Instr.{Instr}
use Rattle.reg_machine.specs.declared.instr.Instr.TheVariants.{Take, Lit, Do, Store, Load, Check, Output}
use Rattle.reg_machine.specs.Flow.{Listing}
use Rattle.reg_machine.specs.Machine.{Machine, fresh, act, act_at, acts, answer_of, machine_run}

-- an instruction doesn't change the number of outputs
act-outputs : (inputs : List Value) (instr : Instr) (m : Machine) → length (act inputs instr m).outputs ≡ length m.outputs
act-outputs inputs (Take r n) m = refl
act-outputs inputs (Lit r v) m = refl
act-outputs inputs (Do op r a b c) m = refl
act-outputs inputs (Store k r) m = refl
act-outputs inputs (Load r k) m = refl
act-outputs inputs (Check g r over_only label) m = refl
act-outputs inputs (Output k r) m = length-set m.outputs k (m.registers r)

at-outputs : (inputs : List Value) (ended : Option Stop) (instr : Instr) (m : Machine) → length (act_at inputs ended instr m).outputs ≡ length m.outputs
at-outputs inputs None instr m = act-outputs inputs instr m
at-outputs inputs (Some stop) instr m = refl

acts-outputs : (inputs : List Value) (m : Machine) (instrs : List Instr) → length (acts inputs m instrs).outputs ≡ length m.outputs
acts-outputs inputs m [] = refl
acts-outputs inputs m (instr ∷ instrs) = acts-outputs inputs (act_at inputs m.ended instr m) instrs ∙ at-outputs inputs m.ended instr m

-- the values of an answer are the outputs at the end
same-outputs : (ended : Option Stop) (outputs ends : List Value) → Values outputs ≡ answer_of ended ends → outputs ≡ ends
same-outputs None outputs ends e = cc
same-outputs (Some stop) outputs ends e = cc

-- a run that didn't stop has as many values as the code has outputs
pub outputs-long : (code : Listing) (inputs outputs : List Value) → Values outputs ≡ machine_run code inputs → length outputs ≡ code.counts.outputs
outputs-long code inputs outputs e =
    let after = acts inputs (fresh code.counts.outputs) code.instrs in
    ap length (same-outputs after.ended outputs after.outputs e) ∙ acts-outputs inputs (fresh code.counts.outputs) code.instrs
    ∙ length-replicate code.counts.outputs Undef
