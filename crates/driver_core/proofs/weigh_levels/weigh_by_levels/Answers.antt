use Rattle.std.proofs.Common.{◌≡◌, suc, length, map, get_or, sym, ap, ◌∙◌, arith, add-one}
use Rattle.driver_core.specs.ActionView.{block_of}
use Rattle.driver_core.specs.Weights.{block_weight}
use Rattle.driver_core.specs.inner.Capped.{capped}
use Rattle.driver_core.specs.inner.WeightTable.{weight_in}
use Rattle.driver_core.proofs.LevelLemmas.{level-first, level-next}
use Rattle.driver_core.proofs.weigh_levels.weigh_by_levels.Goals as goal

pub loop-level-init : goal.loop-level-init
loop-level-init c = record {
  within = omega arith;
  weighed = λ base er ec f. level-first c.args.core.now base _ c.in_ok-weights.weights.items (c.in_ok-weights.ensures.items_if_clones_equal (λ y p. p)) f;
}

pub loop-level-preserved : goal.loop-level-preserved
loop-level-preserved c = record {
  within = omega (arith, c.loop-level-test.true, ap length c.as_slice-bodies.ensures);
  weighed = λ base er ec f.
      level-next c.args.core.now base c.loop-level.level c.args.rules c.args.cells c.loop-level.weights.items _ er ec
      (c.loop-level.invariant.weighed base er ec)
      (c.in_ok-weights-2.ensures ∙ (λ j. map (λ commands. capped (block_weight c.args.rules c.args.cells (λ g. get_or (c.deref.ensures.value j) g 0)
      (block_of commands))) (c.as_slice-bodies.ensures j))) f
      ∙ ap (λ n. capped (weight_in c.args.core.now base n f)) (sym (add-one c.loop-level.level));
}

pub returns : goal.returns
returns c = λ base er ec.
    let core = c.args.core.now in
    let level : c.loop-level.level ≡ length core.bodies = omega (
      arith,
      c.loop-level-test.false,
      c.loop-level.invariant.within,
      ap length
          c.as_slice-bodies.ensures,
    ) in
    c.entry.ensures
    ∙ ap (λ l. get_or l core.main 0) c.deref-3.ensures.value
    ∙ level-next core base c.loop-level.level c.args.rules c.args.cells c.loop-level.weights.items c.in_ok-last.last.items er ec
    (c.loop-level.invariant.weighed base er ec)
    (c.in_ok-last.ensures ∙ (λ j. map (λ commands. capped (block_weight c.args.rules c.args.cells (λ g. get_or (c.deref-2.ensures.value j) g 0)
    (block_of commands))) (c.as_slice-bodies.ensures j))) core.main
    ∙ ap (λ n. capped (weight_in core base (suc n) core.main)) level
