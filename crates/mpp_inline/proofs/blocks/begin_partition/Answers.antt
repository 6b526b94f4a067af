use Rattle.std.proofs.Common.{◌≡◌, [], ◌∷◌, ◌++◌, sym, ap, ◌∙◌, subst, arith}
use Rattle.driver_core.specs.Actions.{partition}
use Rattle.driver_core.specs.ActionView.{block_of}
use Rattle.mpp_inline.specs.declared.work.Work.TheVariants.{Run, Restore}
use Rattle.mpp_inline.specs.inner.Work.{Moves, ahead}
use Rattle.mpp_inline.specs.inner.Sizes.{left_weight, left_turns}
use Rattle.mpp_inline.proofs.SizeLemmas.{weight-last, turns-last}
use Rattle.mpp_inline.proofs.CommandMoves.{part-moves}
use Rattle.mpp_inline.proofs.blocks.begin_partition.Goals as goal

pub returns-clause-step : goal.returns-clause-step
returns-clause-step c =
    let ws = c.args.left.now.items in
    let e = c.args.env.now in
    let w = Restore c.in_ok-before.before in
    let last = Run c.args.depth c.args.block in
    let items : c.push-2.new.self.items ≡ (ws ++ w ∷ []) ++ last ∷ [] = c.in_ok-push-2.ensures.items ∙ ap (λ l. l ++ last ∷ []) c.in_ok-push.ensures.items in
    λ whole b g s. subst (λ l. Moves whole b b c.blank.new.env g ws l
    (λ inputs. ahead whole b inputs e g c.args.depth (partition c.args.line c.args.cells.now (block_of c.args.block.now)))) (sym items)
    (subst (λ x. Moves whole b b x g ws ((ws ++ w ∷ []) ++ last ∷ [])
    (λ inputs. ahead whole b inputs e g c.args.depth (partition c.args.line c.args.cells.now (block_of c.args.block.now)))) (sym c.blank.ensures)
    (part-moves c.args.depth c.args.line c.in_ok-before.before c.args.cells.now c.args.block c.in_ok-before.ensures s))

pub returns-clause-size : goal.returns-clause-size
returns-clause-size c =
    let ws = c.args.left.now.items in
    let w = Restore c.in_ok-before.before in
    let last = Run c.args.depth c.args.block in
    let items : c.push-2.new.self.items ≡ (ws ++ w ∷ []) ++ last ∷ [] = c.in_ok-push-2.ensures.items ∙ ap (λ l. l ++ last ∷ []) c.in_ok-push.ensures.items in
    λ whole. omega (arith, ap (left_weight whole) items, weight-last whole (ws ++ w ∷ []) last, weight-last whole ws w)

pub returns-clause-turns : goal.returns-clause-turns
returns-clause-turns c =
    let ws = c.args.left.now.items in
    let w = Restore c.in_ok-before.before in
    let last = Run c.args.depth c.args.block in
    let items : c.push-2.new.self.items ≡ (ws ++ w ∷ []) ++ last ∷ [] = c.in_ok-push-2.ensures.items ∙ ap (λ l. l ++ last ∷ []) c.in_ok-push.ensures.items in
    λ whole. omega (arith, ap (left_turns whole) items, turns-last whole (ws ++ w ∷ []) last, turns-last whole ws w)
