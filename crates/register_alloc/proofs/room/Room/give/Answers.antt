use Rattle.std.proofs.Common.{◌≡◌, ◌<◌, ◌≤◌, ◌+◌, suc, length, refl, ap, sym, ◌∙◌, subst, rules, arith}
use Rattle.std.proofs.lemmas.List.{length_push}
use Rattle.reg_machine.specs.declared.instr.Instr.TheVariants.{Output}
use Rattle.reg_machine.specs.Flow.{loads_of, Listing}
use Rattle.register_alloc.specs.inner.Tables.{look}
use Rattle.register_alloc.specs.inner.OutputChain.{IsNext}
use Rattle.register_alloc.specs.inner.Sound.{count_some, given_part}
use Rattle.register_alloc.proofs.SoundSteps.{sound-gave, right-gave, loads-gave}
use Rattle.register_alloc.proofs.OutputLemmas.{count-gave, part-least}
use Rattle.register_alloc.proofs.ChainLemmas.{sound-skip, part-next-output}
use Rattle.register_alloc.proofs.room.Room.give.Goals as goal

pub loop-output-init : goal.loop-output-init
loop-output-init c =
    let next = c.first_output-output.ensures in
    record {
      sound = sound-skip c.args.node 0 _ c.args.flat.now.outputs c.requires.sound next;
      within = next.within;
      is = next.is;
      registers = search rules;
      counts = search rules;
      len = omega (arith, ap count_some (part-next-output c.args.node 0 _ c.args.flat.now.outputs next));
      loads = λ y. refl;
    }

pub add-requires-clause-few : goal.add-requires-clause-few
add-requires-clause-few c =
    let before = c.loop-output.invariant in
    omega (arith, before.len, part-least c.args.node c.loop-output.output c.args.flat.now.outputs)

pub add-requires-clause-right : goal.add-requires-clause-right
add-requires-clause-right c =
    let before = c.loop-output.invariant in
    let below : c.loop-output.output < length c.args.flat.now.outputs = search rules in
    let here = ap (λ t. look t c.args.register) before.registers ∙ c.requires.here in
    right-gave c.args.node c.loop-output.output before.sound c.args.register below c.requires.within here (before.is below)

pub loop-output-preserved : goal.loop-output-preserved
loop-output-preserved c =
    let outputs = c.args.flat.now.outputs in
    let k = c.loop-output.output in
    let before = c.loop-output.invariant in
    let below : k < length outputs = search rules in
    let is = before.is below in
    let next = subst (λ y. IsNext outputs y (suc k) c.next_output-output.result) is c.next_output-output.ensures in
    let here = ap (λ t. look t c.args.register) before.registers ∙ c.requires.here in
    let added = c.in_ok-add.ensures.added in
    let size = ap (λ (code : Listing). length code.instrs) added ∙ length_push c.loop-output.self.code.instrs (Output k c.args.register) in
    let more = count-gave c.args.node k (suc k) outputs refl below is in
    let same = ap count_some (part-next-output c.args.node (suc k) _ outputs next) in
    record {
      sound = rw added (sound-skip c.args.node (suc k) _ outputs (sound-gave c.args.node k before.sound (suc k) c.args.register refl below c.requires.within
          here is) next);
      within = next.within;
      is = next.is;
      registers = before.registers;
      counts = ap (λ (code : Listing). code.counts) added ∙ before.counts;
      len = omega (arith, before.len);
      loads = λ y. ap (loads_of y) added ∙ loads-gave c.args.node k before.sound c.args.register below c.requires.within here is y ∙ before.loads y;
    }
