use Rattle.std.proofs.Common.{◌≡◌, [], ◌∷◌, ◌++◌, sym, ap, ◌∙◌, subst, arith}
use Rattle.driver_core.specs.Actions.{branch}
use Rattle.driver_core.specs.ActionView.{block_of}
use Rattle.driver_core.specs.Leaves.{rule_term}
use Rattle.mpp_inline.specs.declared.work.Work.TheVariants.{Run, Under}
use Rattle.mpp_inline.specs.inner.Work.{Moves, ahead}
use Rattle.mpp_inline.specs.inner.Sizes.{left_weight, left_turns}
use Rattle.mpp_inline.proofs.SizeLemmas.{weight-last, turns-last}
use Rattle.mpp_inline.proofs.CommandMoves.{if-moves}
use Rattle.mpp_inline.proofs.blocks.begin_if.Goals as goal

pub returns-clause-step : goal.returns-clause-step
returns-clause-step c =
    let b = c.args.b.now in
    let d = c.open_branches.new.b in
    let e = c.args.env.now in
    let g = c.args.frame.guard in
    let ws = c.args.left.now.items in
    let r = c.in_ok-branches.branches in
    let items : c.push-4.new.self.items ≡ (((ws ++ Under g ∷ []) ++ Run c.args.frame.depth c.args.choice.now.second ∷ []) ++ Under r.second ∷ [])
    ++ Run c.args.frame.depth c.args.choice.now.first ∷ [] =
    c.in_ok-push-4.ensures.items
    ∙ ap (λ l. l ++ Run c.args.frame.depth c.args.choice.now.first ∷ []) (c.in_ok-push-3.ensures.items
    ∙ ap (λ l. l ++ Under r.second ∷ []) (c.in_ok-push-2.ensures.items
    ∙ ap (λ l. l ++ Run c.args.frame.depth c.args.choice.now.second ∷ []) c.in_ok-push.ensures.items)) in
    λ whole s. subst (λ l. Moves whole b d e r.first ws l
    (λ inputs. ahead whole b inputs e g c.args.frame.depth
    (branch c.args.choice.now.line (rule_term c.args.choice.now.condition.now) (block_of c.args.choice.now.first.now) (block_of c.args.choice.now.second.now))))
    (sym items)
    (if-moves (rule_term c.args.choice.now.condition.now) c.args.frame.depth c.args.choice.now.first c.args.choice.now.second c.in_ok-branches.ensures.step s)

pub returns-clause-size : goal.returns-clause-size
returns-clause-size c =
    let ws = c.args.left.now.items in
    let w1 = Under c.args.frame.guard in
    let w2 = Run c.args.frame.depth c.args.choice.now.second in
    let w3 = Under c.in_ok-branches.branches.second in
    let w4 = Run c.args.frame.depth c.args.choice.now.first in
    λ whole. omega (
      arith,
      c.in_ok-branches.ensures.size,
      ap (left_weight whole) c.in_ok-push.ensures.items,
      ap (left_weight whole) c.in_ok-push-2.ensures.items,
      ap (left_weight whole) c.in_ok-push-3.ensures.items,
      ap (left_weight whole) c.in_ok-push-4.ensures.items,
      weight-last whole ws w1,
      weight-last whole c.push.new.self.items w2,
      weight-last whole c.push-2.new.self.items w3,
      weight-last whole c.push-3.new.self.items w4,
    )

pub returns-clause-turns : goal.returns-clause-turns
returns-clause-turns c =
    let ws = c.args.left.now.items in
    let w1 = Under c.args.frame.guard in
    let w2 = Run c.args.frame.depth c.args.choice.now.second in
    let w3 = Under c.in_ok-branches.branches.second in
    let w4 = Run c.args.frame.depth c.args.choice.now.first in
    λ whole. omega (
      arith,
      ap (left_turns whole) c.in_ok-push.ensures.items,
      ap (left_turns whole) c.in_ok-push-2.ensures.items,
      ap (left_turns whole) c.in_ok-push-3.ensures.items,
      ap (left_turns whole) c.in_ok-push-4.ensures.items,
      turns-last whole ws w1,
      turns-last whole c.push.new.self.items w2,
      turns-last whole c.push-2.new.self.items w3,
      turns-last whole c.push-3.new.self.items w4,
    )
