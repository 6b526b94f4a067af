use Rattle.std.proofs.Common.{◌≡◌, ℕ, ◌+◌, ◌*◌, ◌≤◌, ◌∷◌, drop, sym, ap, ◌∙◌, subst, arith}
use Rattle.std.specs.Prelude.{IfOk}
use Rattle.std.proofs.lemmas.Result.{IfOk-weaker}
use Rattle.std.proofs.lemmas.List.{drop_all}
use Rattle.micro_m.specs.Trees.{nodes, apply, chain}
use Rattle.micro_m.specs.Leaves.{written, all_written, along_written}
use Rattle.micro_m.specs.Views.{tree_of, trees_of, steps_of}
use Rattle.micro_m.specs.Values.{environment, term_value, argument_values, folded, picked, picked_value}
use Rattle.micro_m.specs.inner.Falls.{sizes_fall, terms_fall}
use Rattle.driver_core.specs.Weights.{tree_weight, trees_weight, steps_weight}
use Rattle.driver_core.proofs.SumLemmas.{read-some, read-none}
use Rattle.flat_code.specs.declared.program.Node.TheVariants.{Lit, Do}
use Rattle.mpp_inline.specs.inner.Growth.{IsUsable, at, denoted, Sane, Known, Pushed, Along, Gives, TermStep}
use Rattle.mpp_inline.specs.inner.Sizes.{load}
use Rattle.mpp_inline.proofs.SizeLemmas.{three-trees}
use Rattle.mpp_inline.proofs.ListLemmas.{drop_next}
use Rattle.mpp_inline.proofs.CheckGrowth.{gives-lit, gives-same, pushed-load}
use Rattle.mpp_inline.proofs.TermLemmas.{applied-step, undef-step, fold-first, fold-next, chain-step, argument-at, argument-past, literal-is}
use Rattle.mpp_inline.proofs.terms.+terms.Goals as goal

pub emit_applied-returns-clause-step : goal.emit_applied-returns-clause-step
emit_applied-returns-clause-step g t c =
    IfOk-weaker _ (λ k. Pushed c.emit_argument-3.new.b c.push.new.self _ k) _
    (λ k p s kn. applied-step c.args.op (λ e. argument_values e (all_written g.L.Leaf.leaf_tree (trees_of c.args.arguments.now)))
    c.in_ok-first.ensures.step c.in_ok-second.ensures.step c.in_ok-third.ensures.step p s kn)
    c.push.ensures

pub emit_argument-returns-in-Some-clause-step : goal.emit_argument-returns-in-Some-clause-step
emit_argument-returns-in-Some-clause-step g t c =
    let found = c.in-Some.ensures.lookup in
    let leaf = g.L.Leaf.leaf_tree in
    let b = c.args.b.now in
    let e = c.args.env.now in
    IfOk-weaker _ (λ k. Sane b → Known b e → TermStep b c.emit_tree.new.b e (λ x. term_value x (written leaf c.in-Some.argument.now)) k) _
    (λ k f s kn. gives-same (λ inputs. argument-at leaf (environment (denoted b inputs e)) c.args.arguments.now c.args.place c.in-Some.argument.now
    found.3.0 found.1) (f s kn))
    c.emit_tree.ensures.step

pub emit_argument-returns-in-None-clause-step : goal.emit_argument-returns-in-None-clause-step
emit_argument-returns-in-None-clause-step g t c =
    λ s kn. undef-step _ (λ inputs. argument-past g.L.Leaf.leaf_tree (environment (denoted c.args.b.now inputs c.args.env.now)) c.args.arguments.now
    c.args.place c.in-None.ensures.lookup.3) s

pub emit_tree-emit_applied-requires : goal.emit_tree-emit_applied-requires
emit_tree-emit_applied-requires g t c κs within =
    let leaf = g.L.Leaf.leaf_tree in
    rw c.deref-in-Apply.ensures.value (
      omega (arith, terms_fall c.in-Apply.arguments.items, ap nodes c.term.view_is, ap (λ n. nodes (tree_of n)) c.in-Apply.is),
      (
        within,
        omega (
          arith,
          c.requires,
          ap (λ x. tree_weight (written leaf x)) c.term.view_is,
          ap (λ n. tree_weight (written leaf (tree_of n))) c.in-Apply.is,
        ),
      ),
    )

pub emit_tree-emit_steps-requires : goal.emit_tree-emit_steps-requires
emit_tree-emit_steps-requires g t c κs within =
    let leaf = g.L.Leaf.leaf_tree in
    rw c.deref-in-Chain-2.ensures.value (
      omega (arith, sizes_fall c.in-Chain.steps.items, ap nodes c.term.view_is, ap (λ n. nodes (tree_of n)) c.in-Chain.is),
      (
        within,
        omega (
          arith,
          c.requires,
          c.in_ok-so_far-in-Chain.ensures.size,
          ap (λ x. tree_weight (written leaf x)) c.deref-in-Chain.ensures,
          ap (λ x. tree_weight (written leaf x)) c.term.view_is,
          ap (λ n. tree_weight (written leaf (tree_of n))) c.in-Chain.is,
        ),
      ),
    )

pub emit_tree-returns-in-Lit-clause-step : goal.emit_tree-returns-in-Lit-clause-step
emit_tree-returns-in-Lit-clause-step g t c =
    let b = c.args.b.now in
    let e = c.args.env.now in
    IfOk-weaker _ (λ k. Pushed b c.push.new.self (Lit c.in-Lit.value) k) _
    (λ k p s kn. subst (λ f. TermStep b c.push.new.self e (λ x. term_value x (written g.L.Leaf.leaf_tree f)) k)
    (sym (ap tree_of c.in-Lit.is) ∙ c.term.view_is) (gives-lit c.in-Lit.value p s))
    c.push.ensures

pub emit_tree-returns-in-Cell-clause-step : goal.emit_tree-returns-in-Cell-clause-step
emit_tree-returns-in-Cell-clause-step g t c =
    let b = c.args.b.now in
    let e = c.args.env.now in
    subst (λ f. IfOk c.emit.result (λ k. Sane b → Known b e → TermStep b c.emit.new.b e (λ x. term_value x (written g.L.Leaf.leaf_tree f)) k))
    (sym (ap tree_of c.in-Cell.is) ∙ c.term.view_is) c.emit.ensures.step

pub emit_tree-returns-in-Apply-clause-step : goal.emit_tree-returns-in-Apply-clause-step
emit_tree-returns-in-Apply-clause-step g t c =
    let b = c.args.b.now in
    let e = c.args.env.now in
    let is = (λ i. apply c.in-Apply.op (trees_of (c.deref-in-Apply.ensures.value i))) ∙ sym (ap tree_of c.in-Apply.is) ∙ c.term.view_is in
    subst (λ f. IfOk c.emit_applied.result (λ k. Sane b → Known b e → TermStep b c.emit_applied.new.b e (λ x. term_value x (written g.L.Leaf.leaf_tree f)) k))
    is c.emit_applied.ensures.step

pub emit_tree-returns-in_ok-so_far-in-Chain-clause-step : goal.emit_tree-returns-in_ok-so_far-in-Chain-clause-step
emit_tree-returns-in_ok-so_far-in-Chain-clause-step g t c =
    let leaf = g.L.Leaf.leaf_tree in
    let b = c.args.b.now in
    let d = c.emit_tree.new.b in
    let e = c.args.env.now in
    let x = c.in_ok-so_far-in-Chain.so_far in
    let steps = c.deref-in-Chain-2.result.now in
    let is = (λ i. chain (c.deref-in-Chain.ensures i) (steps_of (c.deref-in-Chain-2.ensures.value i))) ∙ sym (ap tree_of c.in-Chain.is) ∙ c.term.view_is in
    IfOk-weaker c.emit_steps.result (λ k. Sane d → Known d e → IsUsable d x
    → Gives d c.emit_steps.new.b (λ inputs. folded (environment (denoted d inputs e)) (at d inputs x) (along_written leaf (steps_of steps))) k) _
    (λ k f s kn. subst (λ h. TermStep b c.emit_steps.new.b e (λ y. term_value y (written leaf h)) k) is
    (chain-step (λ y. term_value y (written leaf c.deref-in-Chain.result.now)) (λ y v. folded y v (along_written leaf (steps_of steps)))
    c.in_ok-so_far-in-Chain.ensures.step f s kn))
    c.emit_steps.ensures.step

pub emit_steps-loop-step-init : goal.emit_steps-loop-step-init
emit_steps-loop-step-init g t c = record {
  size = omega arith;
  step = λ s kn h. fold-first
      (λ inputs v. folded (environment (denoted c.args.b.now inputs c.args.env.now)) v (along_written g.L.Leaf.leaf_tree (steps_of c.args.steps.now)))
      c.args.so_far s h;
}

pub emit_steps-loop-step-preserved : goal.emit_steps-loop-step-preserved
emit_steps-loop-step-preserved g t c =
    let leaf = g.L.Leaf.leaf_tree in
    let b = c.args.b.now in
    let e = c.args.env.now in
    let all = c.args.steps.now in
    let i = c.loop-step.step-index in
    let d = c.step-item.result in
    let next : drop i all ≡ d ∷ drop (i + 1) all = drop_next all i d c.loop-step-test.true c.step-item.is in
    record {
      size = omega (
        arith,
        c.loop-step.invariant.size,
        ap (λ l. steps_weight (along_written leaf (steps_of l))) next,
        c.in_ok-operand.ensures.size,
        pushed-load
            c.in_ok-number.ensures,
      );
      step = λ s kn h. fold-next (λ y. term_value y (written leaf d.term))
          (λ inputs v. folded (environment (denoted b inputs e)) v (along_written leaf (steps_of (drop (i + 1) all))))
          (subst (λ l. Along b c.loop-step.b (λ inputs v. folded (environment (denoted b inputs e)) v (along_written leaf (steps_of l)))
          (λ inputs. folded (environment (denoted b inputs e)) (at b inputs c.args.so_far) (along_written leaf (steps_of all))) c.loop-step.number) next
          (c.loop-step.invariant.step s kn h))
          c.in_ok-operand.ensures.step c.in_ok-number.ensures kn;
    }

pub emit_steps-returns : goal.emit_steps-returns
emit_steps-returns g t c =
    let leaf = g.L.Leaf.leaf_tree in
    let b = c.args.b.now in
    let e = c.args.env.now in
    let all = c.args.steps.now in
    record {
      size = omega (arith, c.loop-step.invariant.size);
      step = λ s kn h. subst (λ l. Along b c.loop-step.b (λ inputs v. folded (environment (denoted b inputs e)) v (along_written leaf (steps_of l)))
          (λ inputs. folded (environment (denoted b inputs e)) (at b inputs c.args.so_far) (along_written leaf (steps_of all))) c.loop-step.number)
          (drop_all c.loop-step.step-index all c.loop-step-test.false) (c.loop-step.invariant.step s kn h);
    }

pub emit_read-returns-in_ok-place-in-None-clause-step : goal.emit_read-returns-in_ok-place-in-None-clause-step
emit_read-returns-in_ok-place-in-None-clause-step g t c =
    let d = c.emit_tree.new.b in
    let e = c.args.env.now in
    let x = c.in_ok-place-in-None.place in
    let first = c.args.first in
    let size = c.args.size in
    IfOk-weaker c.emit_table.result (λ k. Sane d → Known d e → IsUsable d x
    → Gives d c.emit_table.new.b (λ inputs. picked_value (environment (denoted d inputs e)) (picked first size (at d inputs x))) k) _
    (λ k f s kn. chain-step (λ y. term_value y (written g.L.Leaf.leaf_tree c.args.index.now)) (λ y v. picked_value y (picked first size v))
    c.in_ok-place-in-None.ensures.step f s kn)
    c.emit_table.ensures.step

pub emit_applied-emit_argument-requires : goal.emit_applied-emit_argument-requires
emit_applied-emit_argument-requires g t c κs within = (omega arith, (within, omega (arith, c.requires, three-trees g.L.Leaf.leaf_tree c.args.arguments.now)))

pub emit_applied-emit_argument-requires-2 : goal.emit_applied-emit_argument-requires-2
emit_applied-emit_argument-requires-2 g t c κs within =
    (omega arith, (within, omega (arith, c.requires, three-trees g.L.Leaf.leaf_tree c.args.arguments.now, c.in_ok-first.ensures.size)))

pub emit_applied-emit_argument-requires-3 : goal.emit_applied-emit_argument-requires-3
emit_applied-emit_argument-requires-3 g t c κs within = (
  omega arith,
  (
    within,
    omega (
      arith,
      c.requires,
      three-trees g.L.Leaf.leaf_tree c.args.arguments.now,
      c.in_ok-first.ensures.size,
      c.in_ok-second.ensures.size,
    ),
  ),
)

pub emit_applied-push-requires : goal.emit_applied-push-requires
emit_applied-push-requires g t c = omega (
  arith,
  c.requires,
  three-trees g.L.Leaf.leaf_tree c.args.arguments.now,
  c.in_ok-first.ensures.size,
  c.in_ok-second.ensures.size,
  c.in_ok-third.ensures.size,
)

pub emit_applied-returns-clause-size : goal.emit_applied-returns-clause-size
emit_applied-returns-clause-size g t c =
    let most = load c.args.b.now + 2 * trees_weight (all_written g.L.Leaf.leaf_tree (trees_of c.args.arguments.now)) + 1 in
    IfOk-weaker c.push.result
    (λ (k : ℕ). Pushed c.emit_argument-3.new.b c.push.new.self (Do c.args.op c.in_ok-first.first c.in_ok-second.second c.in_ok-third.third) k)
    (λ (k : ℕ). load c.push.new.self ≤ most)
    (λ (k : ℕ) p.
    let goal' : load c.push.new.self ≤ most =
    omega (
      arith,
      pushed-load p,
      three-trees g.L.Leaf.leaf_tree c.args.arguments.now,
      c.in_ok-first.ensures.size,
      c.in_ok-second.ensures.size,
      c.in_ok-third.ensures.size,
    ) in
    goal')
    c.push.ensures
