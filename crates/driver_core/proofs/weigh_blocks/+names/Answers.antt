use Rattle.std.proofs.Common.{◌≡◌, ◌+◌, ◌∷◌, ℕ, List, drop, sym, ap, ◌∙◌, arith}
use Rattle.driver_core.specs.Actions.{Action}
use Rattle.driver_core.specs.ActionView.{block_of}
use Rattle.driver_core.specs.Weights.{names_changed, names_changed_in}
use Rattle.driver_core.specs.inner.Capped.{capped}
use Rattle.driver_core.proofs.SumLemmas.{block-part, drop-next, sum-next}
use Rattle.driver_core.proofs.weigh_blocks.+names.Goals as goal

pub names_in-names_of-requires : goal.names_in-names_of-requires
names_in-names_of-requires t c = (
  omega (
    arith,
    block-part c.args.block.now c.loop-command.command-index c.command-item.result c.loop-command-test.true
        c.command-item.is,
  ),
  tt,
)

pub names_in-loop-command-preserved : goal.names_in-loop-command-preserved
names_in-loop-command-preserved t c =
    let all = c.args.block.now in
    let i = c.loop-command.command-index in
    let a = c.command-item.result in
    let w : List Action → ℕ = λ l. names_changed_in (block_of l) in
    let next : drop i all ≡ a ∷ drop (i + 1) all = drop-next all i a c.loop-command-test.true c.command-item.is in
    record {
      sum = sum-next c.loop-command.total (names_changed a) (w (drop (i + 1) all)) (w all) _ _ c.saturating_add-total.ensures (c.names_of.ensures)
          (ap (λ n. capped (c.loop-command.total + n)) (sym (ap w next)) ∙ c.loop-command.invariant.sum);
      fits = omega (arith, c.saturating_add-total.ensures);
    }
