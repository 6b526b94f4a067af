use Rattle.std.proofs.Common.{ℕ, ◌∙◌, subst}
use Rattle.std.specs.Prelude.{OnOk}
use Rattle.driver_core.specs.Actions.{partition}
use Rattle.driver_core.specs.ActionView.{block_of}
use Rattle.mpp_inline.specs.declared.builder.Builder.{Builder}
use Rattle.mpp_inline.specs.inner.Work.{Whole, Standing, Moves, ahead}
use Rattle.mpp_inline.proofs.blocks.begin_kind.Goals as goal

pub returns-clause-step : goal.returns-clause-step
returns-clause-step c =
    let e = c.args.env.now in
    let ws = c.args.left.now.items in
    subst (λ xs. OnOk c.begin_partition.result ((whole : Whole) (b : Builder) (guard : ℕ) → Standing whole b e guard ws
    → Moves whole b b c.begin_partition.new.env guard ws c.begin_partition.new.left.items
    (λ inputs. ahead whole b inputs e guard c.args.depth (partition c.args.line xs (block_of c.args.block.now)))))
    (c.deref.ensures.value ∙ c.in_ok-cells.ensures) c.begin_partition.ensures.step
