use Rattle.std.proofs.Common.{◌≡◌, ◌+◌, ◌∷◌, ℕ, List, drop, sym, ap, ◌∙◌, arith}
use Rattle.micro_m.specs.declared.term.Step.{Step}
use Rattle.micro_m.specs.Trees.{TreeOf, nodes}
use Rattle.micro_m.specs.Leaves.{written, all_written, along_written}
use Rattle.micro_m.specs.Views.{tree_of, trees_of, steps_of}
use Rattle.micro_m.specs.inner.Falls.{sizes_fall, terms_fall}
use Rattle.driver_core.specs.Weights.{tree_weight, trees_weight, steps_weight}
use Rattle.driver_core.specs.inner.Capped.{capped}
use Rattle.driver_core.proofs.SumLemmas.{drop-next, sum-next}
use Rattle.driver_core.proofs.weigh_base.+trees.Goals as goal

pub weigh_tree-weigh_trees-requires : goal.weigh_tree-weigh_trees-requires
weigh_tree-weigh_trees-requires g t c κs within =
    rw c.deref-in-Apply.ensures.value (
      omega (arith, terms_fall c.in-Apply.arguments.items, ap nodes c.term.view_is, ap (λ n. nodes (tree_of n)) c.in-Apply.is),
      within,
    )

pub weigh_tree-weigh_steps-requires : goal.weigh_tree-weigh_steps-requires
weigh_tree-weigh_steps-requires g t c κs within =
    rw c.deref-in-Chain-2.ensures.value (
      omega (arith, sizes_fall c.in-Chain.steps.items, ap nodes c.term.view_is, ap (λ n. nodes (tree_of n)) c.in-Chain.is),
      within,
    )

pub weigh_trees-loop-argument-preserved : goal.weigh_trees-loop-argument-preserved
weigh_trees-loop-argument-preserved g t c =
    let leaf = g.L.Leaf.leaf_tree in
    let all = c.args.arguments.now in
    let i = c.loop-argument.argument-index in
    let a = c.argument-item.result in
    let w : List (TreeOf _) → ℕ = λ l. trees_weight (all_written leaf (trees_of l)) in
    let next : drop i all ≡ a ∷ drop (i + 1) all = drop-next all i a c.loop-argument-test.true c.argument-item.is in
    record {
      sum = sum-next c.loop-argument.total (tree_weight (written leaf a)) (w (drop (i + 1) all)) (w all) _ _ c.saturating_add-total.ensures
          (c.weigh_tree.ensures) (ap (λ n. capped (c.loop-argument.total + n)) (sym (ap w next)) ∙ c.loop-argument.invariant.sum);
      fits = omega (arith, c.saturating_add-total.ensures);
    }

pub weigh_steps-loop-step-preserved : goal.weigh_steps-loop-step-preserved
weigh_steps-loop-step-preserved g t c =
    let leaf = g.L.Leaf.leaf_tree in
    let all = c.args.steps.now in
    let i = c.loop-step.step-index in
    let a = c.step-item.result in
    let w : List (Step _) → ℕ = λ l. steps_weight (along_written leaf (steps_of l)) in
    let next : drop i all ≡ a ∷ drop (i + 1) all = drop-next all i a c.loop-step-test.true c.step-item.is in
    record {
      sum = sum-next c.loop-step.total (tree_weight (written leaf a.term) + 1) (w (drop (i + 1) all)) (w all) _ _ c.saturating_add-total.ensures
          (omega (arith, c.saturating_add.ensures, c.weigh_tree.ensures)) (ap (λ n. capped (c.loop-step.total + n)) (sym (ap w next))
          ∙ c.loop-step.invariant.sum);
      fits = omega (arith, c.saturating_add-total.ensures);
    }
