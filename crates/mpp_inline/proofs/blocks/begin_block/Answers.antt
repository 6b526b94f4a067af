use Rattle.std.proofs.Common.{◌≡◌, ℕ, ◌+◌, ◌*◌, ◌<◌, ◌≤◌, List, [], ◌∷◌, length, refl, ap, subst, arith}
use Rattle.std.proofs.lemmas.Result.{on_ok_weaker, IfOk-weaker}
use Rattle.driver_core.specs.Actions.{Action}
use Rattle.driver_core.specs.ActionView.{block_of}
use Rattle.mpp_inline.specs.inner.Work.{Standing, Moves, ahead, block_ahead, whole_of}
use Rattle.mpp_inline.specs.declared.work.Work.TheVariants.{Run}
use Rattle.mpp_inline.specs.inner.Sizes.{load, left_weight, left_turns, action_size, block_size, action_turns, block_turns}
use Rattle.mpp_inline.proofs.SizeLemmas.{weight-last, turns-last, block-some}
use Rattle.mpp_inline.proofs.CommandMoves.{first-moves, none-moves}
use Rattle.mpp_inline.proofs.blocks.begin_block.Goals as goal

nothing : (xs : List Action) → length xs ≡ 0 → xs ≡ []
nothing [] h = refl
nothing (x ∷ xs) h = absurd (omega arith)

pub returns-in_ok-push-in-Some-clause-step : goal.returns-in_ok-push-in-Some-clause-step
returns-in_ok-push-in-Some-clause-step c =
    let whole = whole_of c.args.driver.now.core.now c.args.driver.now.ordered.now in
    let b = c.args.b.now in
    let d = c.begin_command.new.b in
    let e = c.args.env.now in
    let g = c.args.frame.guard in
    let depth = c.args.frame.depth in
    let ws = c.args.left.now.items in
    let ws' = c.begin_command.new.left.items in
    let a = c.in-Some.first.now in
    IfOk-weaker c.begin_command.result
    (λ (k : ℕ). Standing whole b e g c.push.new.self.items
    → Moves whole b d c.begin_command.new.env k c.push.new.self.items ws' (λ inputs. ahead whole b inputs e g depth a))
    (λ (k : ℕ). Standing whole b e g ws → Moves whole b d c.begin_command.new.env k ws ws' (λ inputs. block_ahead whole b inputs e g depth c.args.block.now))
    (λ (k : ℕ) (m : Standing whole b e g c.push.new.self.items
    → Moves whole b d c.begin_command.new.env k c.push.new.self.items ws' (λ inputs. ahead whole b inputs e g depth a)).
    λ (s : Standing whole b e g ws). first-moves depth a c.args.block.now c.in-Some.rest c.in-Some.ensures.cases.0 s
    (subst (λ l. Standing whole b e g l → Moves whole b d c.begin_command.new.env k l ws' (λ inputs. ahead whole b inputs e g depth a))
    c.in_ok-push-in-Some.ensures.items m))
    c.begin_command.ensures.step

pub returns-in-None-clause-step : goal.returns-in-None-clause-step
returns-in-None-clause-step c = λ s. none-moves c.args.frame.depth c.args.block.now (nothing c.args.block.now c.in-None.ensures.cases) s

pub begin_command-requires : goal.begin_command-requires
begin_command-requires c =
    let whole = whole_of c.args.driver.now.core.now c.args.driver.now.ordered.now in
    let is : c.args.block.now ≡ c.in-Some.first.now ∷ c.in-Some.rest.now = c.in-Some.ensures.cases.0 in
    record {
      valid = c.requires.valid;
      order = c.requires.order;
      room = omega (arith, c.requires.room, ap (λ l. block_size whole c.args.frame.depth (block_of l)) is);
    }

pub returns-in_ok-push-in-Some-clause-size : goal.returns-in_ok-push-in-Some-clause-size
returns-in_ok-push-in-Some-clause-size c =
    let whole = whole_of c.args.driver.now.core.now c.args.driver.now.ordered.now in
    let depth = c.args.frame.depth in
    let ws = c.args.left.now.items in
    let is : c.args.block.now ≡ c.in-Some.first.now ∷ c.in-Some.rest.now = c.in-Some.ensures.cases.0 in
    on_ok_weaker c.begin_command.result
    (λ (m : load c.begin_command.new.b + 6 * left_weight whole c.begin_command.new.left.items ≤ load c.args.b.now + 6 *
    (left_weight whole c.push.new.self.items + action_size whole depth c.in-Some.first.now)).
    let goal' : load c.begin_command.new.b + 6 * left_weight whole c.begin_command.new.left.items ≤ load c.args.b.now + 6 *
    (left_weight whole ws + block_size whole depth (block_of c.args.block.now)) =
    omega (
      arith,
      m,
      ap (left_weight whole) c.in_ok-push-in-Some.ensures.items,
      weight-last whole ws (Run depth c.in-Some.rest),
      ap
          (λ l. block_size whole depth (block_of l)) is,
    ) in goal')
    c.begin_command.ensures.size

pub returns-in_ok-push-in-Some-clause-turns : goal.returns-in_ok-push-in-Some-clause-turns
returns-in_ok-push-in-Some-clause-turns c =
    let whole = whole_of c.args.driver.now.core.now c.args.driver.now.ordered.now in
    let depth = c.args.frame.depth in
    let ws = c.args.left.now.items in
    let is : c.args.block.now ≡ c.in-Some.first.now ∷ c.in-Some.rest.now = c.in-Some.ensures.cases.0 in
    on_ok_weaker c.begin_command.result
    (λ (m : left_turns whole c.begin_command.new.left.items ≤ left_turns whole c.push.new.self.items + action_turns whole depth c.in-Some.first.now).
    let goal' : left_turns whole c.begin_command.new.left.items < left_turns whole ws + block_turns whole depth (block_of c.args.block.now) =
    omega (
      arith,
      m,
      ap (left_turns whole) c.in_ok-push-in-Some.ensures.items,
      turns-last whole ws (Run depth c.in-Some.rest),
      ap
          (λ l. block_turns whole depth (block_of l)) is,
    ) in goal')
    c.begin_command.ensures.turns

pub returns-in-None-clause-turns : goal.returns-in-None-clause-turns
returns-in-None-clause-turns c = omega (
  arith,
  block-some (whole_of c.args.driver.now.core.now c.args.driver.now.ordered.now) c.args.frame.depth
      (block_of c.args.block.now),
)
