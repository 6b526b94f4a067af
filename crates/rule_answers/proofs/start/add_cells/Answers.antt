use Rattle.std.proofs.Common.{◌≡◌, suc, ◌-◌, ◌++◌, replicate, sym, ap, ◌∙◌, arith}
use Rattle.mpp_inline.proofs.ListLemmas.{snoc-append}
use Rattle.rule_answers.proofs.start.add_cells.Goals as goal

pub loop-left-preserved : goal.loop-left-preserved
loop-left-preserved c =
    let x = c.args.value.now in
    let env = c.loop-left.env.items in
    let n = c.loop-left.left - 1 in
    let is : c.loop-left.left ≡ suc n = omega (arith, c.loop-left-test.true) in
    ap (λ l. l ++ replicate n x) c.in_ok-push.ensures.items
    ∙ snoc-append env x (replicate n x)
    ∙ ap (λ m. env ++ replicate m x) (sym is)
    ∙ c.loop-left.invariant
