use Rattle.std.proofs.Common.{◌≡◌, ℕ, ◌+◌, List, [], ◌∷◌, ◌++◌, take, map, get_or, sym, ap, ◌∙◌}
use Rattle.std.proofs.lemmas.List.{take_more, map-append}
use Rattle.driver_core.specs.Actions.{Action}
use Rattle.driver_core.specs.ActionView.{block_of}
use Rattle.driver_core.specs.Weights.{block_weight}
use Rattle.driver_core.specs.inner.Capped.{capped}
use Rattle.driver_core.proofs.weigh_levels.next_level.Goals as goal

pub loop-body-preserved : goal.loop-body-preserved
loop-body-preserved c =
    let weigh : List Action → ℕ = λ commands. capped (block_weight c.args.rules c.args.cells (λ f. get_or c.args.weights.now f 0) (block_of commands)) in
    let bodies = c.args.bodies.now in
    let i = c.loop-body.body-index in
    let d = c.body-item.result in
    let more : map weigh (take (i + 1) bodies) ≡ map weigh (take i bodies) ++ weigh d ∷ [] =
    ap (map weigh) (take_more bodies i d c.loop-body-test.true)
    ∙ map-append weigh (take i bodies) (get_or bodies i d ∷ [])
    ∙ ap (λ x. map weigh (take i bodies) ++ weigh x ∷ []) (sym c.body-item.is) in
    c.in_ok-push.ensures.items
    ∙ (λ j. c.loop-body.invariant j ++ (c.weigh_block-weight.ensures ∙ ap weigh c.as_slice.ensures) j ∷ [])
    ∙ sym more
