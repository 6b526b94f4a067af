use Rattle.std.proofs.Common.{◌≡◌, [], ◌∷◌, ◌++◌, sym, ap, ◌∙◌, subst, arith}
use Rattle.driver_core.specs.Actions.{call}
use Rattle.driver_core.specs.ActionView.{block_of}
use Rattle.mpp_inline.specs.Labelling.{Labelling, with_body}
use Rattle.mpp_inline.specs.declared.work.Work.TheVariants.{Run, Return}
use Rattle.mpp_inline.specs.inner.Growth.{calls}
use Rattle.mpp_inline.specs.inner.Work.{Moves, ahead, does, adds, whole_of}
use Rattle.mpp_inline.specs.inner.Sizes.{left_weight, left_turns, block_size, block_turns}
use Rattle.mpp_inline.proofs.SizeLemmas.{weight-last, turns-last}
use Rattle.mpp_inline.proofs.CommandMoves.{call-moves}
use Rattle.mpp_inline.proofs.blocks.begin_call.Goals as goal

pub returns-clause-step : goal.returns-clause-step
returns-clause-step c =
    let core = c.args.core.now in
    let ws = c.args.left.now.items in
    let deep = c.saturating_sub.result in
    let last = Run deep c.body_at-body.result in
    let items : c.push-2.new.self.items ≡ (ws ++ Return c.args.cells c.in_ok-outer.outer ∷ []) ++ last ∷ [] = c.in_ok-push-2.ensures.items
    ∙ ap (λ l. l ++ last ∷ []) c.in_ok-push.ensures.items in
    λ line names ordered b g s.
    let whole = whole_of core ordered in
    let body : does whole deep c.body_at-body.result.now ≡ calls core ordered.base ordered.sequence c.args.depth c.args.function = ap
    (λ n. does whole n c.body_at-body.result.now) c.saturating_sub.ensures ∙ c.body_at-body.ensures.means ordered in
    let labels : (l : Labelling) → adds whole deep c.body_at-body.result.now l ≡ with_body ordered.base core.bodies c.args.depth c.args.function l = λ l. ap
    (λ n. adds whole n c.body_at-body.result.now l) c.saturating_sub.ensures ∙ c.body_at-body.ensures.labelling ordered l in
    subst (λ l. Moves whole b b c.args.env.now g ws l
    (λ inputs. ahead whole b inputs c.args.env.now g c.args.depth (call line names c.args.cells.now c.args.function))) (sym items)
    (call-moves c.args.depth line names deep c.args.function c.args.cells c.in_ok-outer.outer c.body_at-body.result
    (c.in_ok-outer.ensures.items_if_clones_equal (λ x y p. p)) body labels s)

pub returns-clause-size : goal.returns-clause-size
returns-clause-size c =
    let core = c.args.core.now in
    let ws = c.args.left.now.items in
    let w = Return c.args.cells c.in_ok-outer.outer in
    let last = Run c.saturating_sub.result c.body_at-body.result in
    let items : c.push-2.new.self.items ≡ (ws ++ w ∷ []) ++ last ∷ [] = c.in_ok-push-2.ensures.items ∙ ap (λ l. l ++ last ∷ []) c.in_ok-push.ensures.items in
    λ ordered.
    let whole = whole_of core ordered in
    omega (
      arith,
      ap (left_weight whole) items,
      weight-last whole (ws ++ w ∷ []) last,
      weight-last whole ws w,
      ap
          (λ n. block_size whole n (block_of c.body_at-body.result.now)) c.saturating_sub.ensures,
      c.body_at-body.ensures.weight ordered,
    )

pub returns-clause-turns : goal.returns-clause-turns
returns-clause-turns c =
    let core = c.args.core.now in
    let ws = c.args.left.now.items in
    let w = Return c.args.cells c.in_ok-outer.outer in
    let last = Run c.saturating_sub.result c.body_at-body.result in
    let items : c.push-2.new.self.items ≡ (ws ++ w ∷ []) ++ last ∷ [] = c.in_ok-push-2.ensures.items ∙ ap (λ l. l ++ last ∷ []) c.in_ok-push.ensures.items in
    λ ordered.
    let whole = whole_of core ordered in
    omega (
      arith,
      ap (left_turns whole) items,
      turns-last whole (ws ++ w ∷ []) last,
      turns-last whole ws w,
      ap
          (λ n. block_turns whole n (block_of c.body_at-body.result.now)) c.saturating_sub.ensures,
      c.body_at-body.ensures.turns ordered,
    )
