use Rattle.std.proofs.Common.{◌≡◌, ◌+◌, ◌∷◌, ℕ, List, get_or, drop, sym, ap, ◌∙◌, arith}
use Rattle.driver_core.specs.Actions.{Action}
use Rattle.driver_core.specs.ActionView.{block_of, action_of}
use Rattle.driver_core.specs.Leaves.{rule_term}
use Rattle.driver_core.specs.Weights.{tree_weight, action_weight, block_weight, names_changed_in}
use Rattle.driver_core.specs.inner.Capped.{capped}
use Rattle.driver_core.proofs.SumLemmas.{block-part, drop-next, sum-next}
use Rattle.driver_core.proofs.weigh_blocks.+weigh.Goals as goal

pub weigh_block-weigh_command-requires : goal.weigh_block-weigh_command-requires
weigh_block-weigh_command-requires t c = (
  omega (
    arith,
    block-part c.args.block.now c.loop-command.command-index c.command-item.result c.loop-command-test.true
        c.command-item.is,
  ),
  tt,
)

pub weigh_block-loop-command-preserved : goal.weigh_block-loop-command-preserved
weigh_block-loop-command-preserved t c =
    let all = c.args.block.now in
    let i = c.loop-command.command-index in
    let a = c.command-item.result in
    let w : List Action → ℕ = λ l. block_weight c.args.rules c.args.cells (λ f. get_or c.args.table.now f 0) (block_of l) in
    let next : drop i all ≡ a ∷ drop (i + 1) all = drop-next all i a c.loop-command-test.true c.command-item.is in
    record {
      sum = sum-next c.loop-command.total (action_weight c.args.rules c.args.cells (λ f. get_or c.args.table.now f 0) a) (w (drop (i + 1) all)) (w all) _ _
          c.saturating_add-total.ensures (c.weigh_command.ensures) (ap (λ n. capped (c.loop-command.total + n)) (sym (ap w next))
          ∙ c.loop-command.invariant.sum);
      fits = omega (arith, c.saturating_add-total.ensures);
    }

pub weigh_command-returns-in-If : goal.weigh_command-returns-in-If
weigh_command-returns-in-If t c =
    let w : List Action → ℕ = λ l. block_weight c.args.rules c.args.cells (λ f. get_or c.args.table.now f 0) (block_of l) in
    let n : List Action → ℕ = λ l. names_changed_in (block_of l) in
    let first = c.in-If.first.items in
    let second = c.in-If.second.items in
    let sum : c.saturating_add-in-If-3.result ≡ capped (tree_weight (rule_term c.in-If.condition) + w first + w second + n first + n second) =
    omega (
      arith,
      c.weigh_tree-in-If.ensures,
      c.weigh_block.ensures,
      c.saturating_add.ensures,
      c.weigh_block-in-If.ensures,
      c.saturating_add-in-If.ensures,
      c.names_in.ensures,
      c.saturating_add-in-If-2.ensures,
      c.names_in-in-If.ensures,
      c.saturating_add-in-If-3.ensures,
      ap w c.deref.ensures.value,
      ap w
          c.deref-in-If.ensures.value,
      ap n c.deref-in-If-2.ensures.value,
      ap n c.deref-in-If-3.ensures.value,
    ) in
    sum ∙ ap (λ a. capped (action_weight c.args.rules c.args.cells (λ f. get_or c.args.table.now f 0) a)) (sym (ap action_of c.in-If.is) ∙ c.command.view_is)

pub weigh_command-returns-in-Partition : goal.weigh_command-returns-in-Partition
weigh_command-returns-in-Partition t c =
    let w : List Action → ℕ = λ l. block_weight c.args.rules c.args.cells (λ f. get_or c.args.table.now f 0) (block_of l) in
    let sum : c.saturating_add-in-Partition.result ≡ capped (w c.in-Partition.block.items + c.args.cells) =
    omega (arith, c.weigh_block-in-Partition.ensures, c.saturating_add-in-Partition.ensures, ap w c.deref-in-Partition.ensures.value) in
    sum ∙ ap (λ a. capped (action_weight c.args.rules c.args.cells (λ f. get_or c.args.table.now f 0) a)) (sym (ap action_of c.in-Partition.is)
    ∙ c.command.view_is)
