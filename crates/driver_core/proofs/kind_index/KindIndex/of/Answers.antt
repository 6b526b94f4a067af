use Rattle.driver_core.proofs.Adding.{turn}
use Rattle.driver_core.proofs.kind_index.KindIndex.of.Goals as goal

pub loop-v-preserved : goal.loop-v-preserved
loop-v-preserved c =
    let done = c.in_ok-add_variable.ensures in
    record {
      numbered = done.numbered;
      added = turn c.args.symbols.now.variables c.loop-v.v c.variable.result.now c.loop-v.index c.add_variable.new.self c.variable.ensures
          c.loop-v.invariant.added done.added;
    }
