use Rattle.std.proofs.Common.{◌≡◌, ◌+◌, ◌<◌, [], ◌∷◌, length, get_or, drop, sym, ap, ◌∙◌, subst, arith}
use Rattle.std.specs.List.{sum_by}
use Rattle.std.proofs.lemmas.List.Sums.{sum_by-cons}
use Rattle.micro_m.specs.Values.{environment, term_value}
use Rattle.driver_core.specs.Meaning.{goes}
use Rattle.driver_core.specs.Weights.{check_weight}
use Rattle.mpp_inline.specs.Labelling.{with_check, with_checks}
use Rattle.mpp_inline.specs.inner.Growth.{Ready, Stage, judged, checked}
use Rattle.mpp_inline.specs.inner.Labels.{labelling_by}
use Rattle.mpp_inline.proofs.ListLemmas.{drop_next}
use Rattle.mpp_inline.proofs.StageLemmas.{stage-ready, stage-next}
use Rattle.mpp_inline.proofs.rules.emit_checks.Goals as goal

pub loop-condition-preserved : goal.loop-condition-preserved
loop-condition-preserved c =
    let base = c.args.base.now in
    let items = c.as_slice-condition-items.result.now in
    let d = c.loop-condition-item.result in
    let i = c.loop-condition.condition-index in
    let env = c.args.env.now in
    let same = c.as_slice-condition-items.ensures in
    let within : i < length base.checks = subst (λ l. i < length l) same c.loop-condition-test.true in
    let is : d ≡ get_or base.checks i d = c.loop-condition-item.is ∙ ap (λ l. get_or l i d) same in
    let low : d.1 < length base.labels = subst (λ x. x.1 < length base.labels) (sym is) (c.requires.valid.labels i d within) in
    let next : drop i items ≡ d ∷ drop (i + 1) items = drop_next items i d c.loop-condition-test.true c.loop-condition-item.is in
    let b1 = c.loop-condition.b in
    let b2 = c.emit_check.new.b in
    let g = c.args.guard in
    let tried : Ready base.labels b1 env g → Stage b1 b2 g env env (λ x. goes [] x) (λ x. judged base.labels d.1 (term_value (environment x) d.0) x) =
    subst (λ ls. Ready ls b1 env g → Stage b1 b2 g env env (λ x. goes [] x) (λ x. judged ls d.1 (term_value (environment x) d.0) x)) c.as_slice.ensures
    (c.in_ok-emit_check.ensures.step b1 env d c.in_ok-value.ensures.step (λ j. d.1) (subst (λ ls. d.1 < length ls) (sym c.as_slice.ensures) low)) in
    record {
      step = λ r. stage-next r
          (subst (λ ds. Stage c.args.b.now c.loop-condition.b c.args.guard env env (checked base.labels ds) (checked base.labels base.checks)) next
          (c.loop-condition.invariant.step r))
          tried;
      labelling = λ r.
          let ready = stage-ready r (c.loop-condition.invariant.step r) in
          let more = with_checks base.labels (drop (i + 1) items) in
          ap more (c.in_ok-emit_check.ensures.labelling
          ∙ (λ x. with_check (c.as_slice.ensures x) d.1 ((c.in_ok-value.ensures.step ready.placed.sane ready.placed.known).grows.labelling x)))
          ∙ ap (λ ds. with_checks base.labels ds (labelling_by b1)) (sym next)
          ∙ c.loop-condition.invariant.labelling r;
      size = omega (
        arith,
        c.loop-condition.invariant.size,
        ap (sum_by check_weight) next,
        sum_by-cons check_weight d (drop (i + 1) items),
        c.in_ok-value.ensures.size,
        c.in_ok-emit_check.ensures.size,
      );
    }

pub emit_term-requires : goal.emit_term-requires
emit_term-requires c =
    let items = c.as_slice-condition-items.result.now in
    let d = c.loop-condition-item.result in
    let i = c.loop-condition.condition-index in
    let next : drop i items ≡ d ∷ drop (i + 1) items = drop_next items i d c.loop-condition-test.true c.loop-condition-item.is in
    omega (arith, c.requires.room, c.loop-condition.invariant.size, ap (sum_by check_weight) next, sum_by-cons check_weight d (drop (i + 1) items))
