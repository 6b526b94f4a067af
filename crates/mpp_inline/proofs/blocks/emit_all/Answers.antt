use Rattle.std.proofs.Common.{◌≡◌, ◌+◌, ◌-◌, List, [], ◌∷◌, ◌++◌, length, refl, sym, ap, ◌∙◌, subst, arith, add-one}
use Rattle.driver_core.specs.Meaning.{called}
use Rattle.mpp_inline.specs.Labelling.{Labelling, with_body}
use Rattle.mpp_inline.specs.declared.work.Work.{Work}
use Rattle.mpp_inline.specs.declared.work.Work.TheVariants.{Run}
use Rattle.mpp_inline.specs.inner.Growth.{calls, rules_in_turn}
use Rattle.mpp_inline.specs.inner.Work.{Moves, does, adds, whole_of}
use Rattle.driver_core.specs.ActionView.{block_of}
use Rattle.driver_core.specs.Weights.{weight_of}
use Rattle.mpp_inline.specs.inner.Sizes.{left_weight, left_turns, block_size, body_size}
use Rattle.mpp_inline.proofs.SizeLemmas.{weight-last, turns-last}
use Rattle.mpp_inline.proofs.CommandMoves.{main-point, main-first, main-last, moves-then}
use Rattle.mpp_inline.proofs.blocks.emit_all.Goals as goal

pub loop-work-init : goal.loop-work-init
loop-work-init c =
    let core = c.args.core.now in
    let ordered = c.args.ordered.now in
    let whole = whole_of core ordered in
    let b = c.args.b.now in
    let e = c.args.env.now.items in
    let main = c.body_at-main.result in
    let depth = length c.as_slice-2.result.now in
    let next = called (rules_in_turn ordered.base ordered.sequence) core.bodies (length core.bodies + 1) core.main in
    let long : depth ≡ (length c.as_slice.result.now + 1) - 1 = omega (arith, ap length c.as_slice.ensures, ap length c.as_slice-2.ensures) in
    let is : does whole depth main.now ≡ next =
    ap (λ n. does whole n main.now) long ∙ c.body_at-main.ensures.means ordered
    ∙ ap (λ l. calls core ordered.base ordered.sequence (length l + 1) core.main) c.as_slice.ensures in
    let more = with_body ordered.base core.bodies (length core.bodies + 1) core.main in
    let labels : (l : Labelling) → adds whole depth main.now l ≡ more l = λ l.
    ap (λ n. adds whole n main.now l) long ∙ c.body_at-main.ensures.labelling ordered l
    ∙ ap (λ fs. with_body ordered.base core.bodies (length fs + 1) core.main l) c.as_slice.ensures in
    let items : c.push.new.self.items ≡ Run depth main ∷ [] = c.in_ok-push.ensures.items ∙ ap (λ l. l ++ Run depth main ∷ []) c.new-left.ensures.items in
    let heavy : block_size whole depth (block_of main.now) ≡ weight_of core ordered.base =
    ap (λ n. block_size whole n (block_of main.now)) long ∙ c.body_at-main.ensures.weight ordered
    ∙ ap (λ l. body_size whole (length l + 1) core.main) c.as_slice.ensures
    ∙ ap (λ n. body_size whole n core.main) (add-one (length core.bodies)) in
    record {
      step = λ r. subst (λ l. Moves whole b b e 2 [] l (main-point b e next more)) (sym items) (main-first depth main next more is labels r);
      size = omega (arith, ap (left_weight whole) items, heavy);
    }

pub loop-work-preserved : goal.loop-work-preserved
loop-work-preserved c =
    let core = c.args.core.now in
    let ordered = c.args.ordered.now in
    let whole = whole_of core ordered in
    let b = c.args.b.now in
    let e = c.args.env.now.items in
    let next = called (rules_in_turn ordered.base ordered.sequence) core.bodies (length core.bodies + 1) core.main in
    let more = with_body ordered.base core.bodies (length core.bodies + 1) core.main in
    record {
      step = λ r. moves-then c.pop.new.self.items c.in-Some.work
          (subst (λ l. Moves whole b c.loop-work.b c.loop-work.env.items c.loop-work.guard [] l (main-point b e next more)) c.in-Some.ensures.items
          (c.loop-work.invariant.step r))
          c.in_ok-guard.ensures.step;
      size = omega (
        arith,
        c.loop-work.invariant.size,
        c.in_ok-guard.ensures.size,
        ap (left_weight whole) c.in-Some.ensures.items,
        weight-last whole
            c.pop.new.self.items c.in-Some.work,
      );
    }

pub advance-requires : goal.advance-requires
advance-requires c =
    let whole = whole_of c.args.core.now c.args.ordered.now in
    record {
      valid = c.requires.valid;
      order = c.requires.order;
      room = omega (
        arith,
        c.requires.room,
        c.loop-work.invariant.size,
        ap (left_weight whole) c.in-Some.ensures.items,
        weight-last whole c.pop.new.self.items
            c.in-Some.work,
      );
    }

pub loop-work-smaller : goal.loop-work-smaller
loop-work-smaller c =
    let whole = whole_of c.args.core.now c.args.ordered.now in
    omega (arith, c.in_ok-guard.ensures.turns, ap (left_turns whole) c.in-Some.ensures.items, turns-last whole c.pop.new.self.items c.in-Some.work)

nothing : (xs : List Work) → length xs ≡ 0 → xs ≡ []
nothing [] h = refl
nothing (x ∷ xs) h = absurd (omega (arith, h))

pub returns-clause-step : goal.returns-clause-step
returns-clause-step c = λ r. main-last
    (nothing c.loop-work.left.items (omega (arith, c.in_default.ensures.cases.0, c.loop-work.left.ok.0))) (c.loop-work.invariant.step r)
