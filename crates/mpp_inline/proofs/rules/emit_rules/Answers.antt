use Rattle.std.proofs.Common.{◌≡◌, ◌+◌, ◌*◌, ◌≤◌, [], length, sym, ap, ◌∙◌, subst, arith}
use Rattle.std.proofs.lemmas.List.{length-map}
use Rattle.std.proofs.lemmas.Result.{on_ok_weaker}
use Rattle.micro_m.specs.Bases.{target_at}
use Rattle.rule_order.specs.Orders.{cells_at}
use Rattle.driver_core.specs.Weights.{base_weight}
use Rattle.mpp_inline.specs.Labelling.{with_rules}
use Rattle.mpp_inline.specs.inner.Cells.{picked, written, received}
use Rattle.mpp_inline.specs.inner.Growth.{Placed, Held, Merged, SameBut, cells_of, rules_in_turn}
use Rattle.mpp_inline.specs.inner.Work.{Step}
use Rattle.mpp_inline.specs.inner.Sizes.{load}
use Rattle.mpp_inline.proofs.ListLemmas.{restored, cells-picked, length-picked}
use Rattle.mpp_inline.proofs.SizeLemmas.{order-weight}
use Rattle.mpp_inline.proofs.WorkLemmas.{rules-step, rules-step-all}
use Rattle.mpp_inline.proofs.rules.emit_rules.Goals as goal

pub emit_definitions-requires : goal.emit_definitions-requires
emit_definitions-requires c = record {
  order = c.requires.order;
  room = omega (arith, c.requires.room, order-weight c.args.ordered.now.base c.args.ordered.now.sequence c.requires.order);
}

pub emit_checks-requires : goal.emit_checks-requires
emit_checks-requires c = record {
  valid = c.requires.valid;
  room = omega (
    arith,
    c.requires.room,
    order-weight c.args.ordered.now.base c.args.ordered.now.sequence c.requires.order,
    c.in_ok-emit_definitions.ensures.size,
  );
}

-- at most as many cells are copied back as are defined

pub write_under-requires : goal.write_under-requires
write_under-requires c =
    let e = c.args.env.now in
    let f = c.emit_definitions.new.env in
    let xs = c.args.cells.now in
    let base = c.args.ordered.now.base in
    let sequence = c.args.ordered.now.sequence in
    let given : c.deref-then-cells-len.result.now ≡ picked 0 xs f = c.deref-then-cells-len.ensures.value ∙ c.in_ok-given.ensures in
    omega (
      arith,
      c.requires.room,
      c.if-cells-len.true,
      c.len.ensures,
      c.in_ok-before.before.ok.0,
      ap length c.in_ok-before.ensures,
      length-picked 0 (cells_at base sequence) e,
      length-map sequence (target_at base),
      order-weight base sequence c.requires.order,
      c.in_ok-emit_definitions.ensures.size,
      c.in_ok-emit_checks.ensures.size,
      ap length given,
      length-picked 0 xs f,
    )

pub returns-then-cells-len-clause-step : goal.returns-then-cells-len-clause-step
returns-then-cells-len-clause-step c =
    let d2 = c.emit_checks.new.b in
    let last = c.write_under.new.b in
    let e = c.args.env.now in
    let f = c.emit_definitions.new.env in
    let h = c.write_under.new.env in
    let xs = c.args.cells.now in
    let g = c.args.guard in
    let base = c.args.ordered.now.base in
    let cells = cells_at base c.args.ordered.now.sequence in
    let back : c.write.new.env ≡ e =
    c.write.ensures
    ∙ ap (λ ps. written ps f) (c.deref.ensures.value ∙ c.in_ok-before.ensures)
    ∙ restored cells e f c.in_ok-emit_definitions.ensures.frame in
    let given : c.deref-then-cells-len.result.now ≡ picked 0 xs f = c.deref-then-cells-len.ensures.value ∙ c.in_ok-given.ensures in
    on_ok_weaker c.write_under.result
    (λ (m : Placed d2 c.write.new.env g → Held d2 c.deref-then-cells-len.result.now → Merged d2 last g [] c.deref-then-cells-len.result.now c.write.new.env h).
    rules-step xs
    c.in_ok-emit_definitions.ensures.step
    c.in_ok-emit_checks.ensures.step
    c.in_ok-emit_checks.ensures.labelling
    (subst (λ x. Placed d2 x g → Held d2 (picked 0 xs f) → Merged d2 last g [] (picked 0 xs f) x h) back
    (subst (λ ps. Placed d2 c.write.new.env g → Held d2 ps → Merged d2 last g [] ps c.write.new.env h) given m)))
    c.write_under.ensures.step

pub returns-then-cells-len-clause-size : goal.returns-then-cells-len-clause-size
returns-then-cells-len-clause-size c =
    let b = c.args.b.now in
    let d2 = c.emit_checks.new.b in
    let last = c.write_under.new.b in
    let e = c.args.env.now in
    let f = c.emit_definitions.new.env in
    let xs = c.args.cells.now in
    let base = c.args.ordered.now.base in
    let sequence = c.args.ordered.now.sequence in
    let given : c.deref-then-cells-len.result.now ≡ picked 0 xs f = c.deref-then-cells-len.ensures.value ∙ c.in_ok-given.ensures in
    on_ok_weaker c.write_under.result
    (λ (m : load last ≤ load d2 + length c.deref-then-cells-len.result.now).
    let goal' : load last ≤ load b + 4 * base_weight base = omega (
      arith,
      m,
      c.if-cells-len.true,
      c.len.ensures,
      c.in_ok-before.before.ok.0,
      ap length c.in_ok-before.ensures,
      length-picked 0 (cells_at base sequence) e,
      length-map sequence (target_at base),
      order-weight base sequence c.requires.order,
      c.in_ok-emit_definitions.ensures.size,
      c.in_ok-emit_checks.ensures.size,
      ap length given,
      length-picked 0 xs f,
    ) in goal')
    c.write_under.ensures.size

-- more cells are copied back

pub write_under-requires-2 : goal.write_under-requires-2
write_under-requires-2 c =
    let f = c.emit_definitions.new.env in
    let base = c.args.ordered.now.base in
    let sequence = c.args.ordered.now.sequence in
    let after : c.deref-3.result.now ≡ picked 0 (cells_at base sequence) f = c.deref-3.ensures.value ∙ c.in_ok-after.ensures in
    omega (
      arith,
      c.requires.room,
      order-weight base sequence c.requires.order,
      c.in_ok-emit_definitions.ensures.size,
      c.in_ok-emit_checks.ensures.size,
      ap length after,
      length-picked 0 (cells_at base sequence) f,
      length-map sequence (target_at base),
    )

pub returns : goal.returns
returns c =
    let b = c.args.b.now in
    let d2 = c.emit_checks.new.b in
    let last = c.write_under-2.new.b in
    let e = c.args.env.now in
    let f = c.emit_definitions.new.env in
    let m = c.write_under-2.new.env in
    let xs = c.args.cells.now in
    let g = c.args.guard in
    let base = c.args.ordered.now.base in
    let sequence = c.args.ordered.now.sequence in
    let cells = cells_at base sequence in
    let frame = c.in_ok-emit_definitions.ensures.frame in
    let after : c.deref-3.result.now ≡ picked 0 cells f = c.deref-3.ensures.value ∙ c.in_ok-after.ensures in
    let back : c.write-2.new.env ≡ e = c.write-2.ensures ∙ ap (λ ps. written ps f) (c.deref-2.ensures.value ∙ c.in_ok-before.ensures)
    ∙ restored cells e f frame in
    let changed : SameBut cells e m = subst (λ x. SameBut cells x m) back
    (subst (λ ys. SameBut ys c.write-2.new.env m) (ap cells_of after ∙ cells-picked 0 cells f) c.in_ok-write_under.ensures.frame) in
    let back2 : c.write-3.new.env ≡ e = c.write-3.ensures ∙ ap (λ ps. written ps m) (c.deref-4.ensures.value ∙ c.in_ok-before.ensures)
    ∙ restored cells e m changed in
    let end : c.write-4.new.env ≡ received 0 xs m e = c.write-4.ensures ∙ (λ i. written ((c.deref-5.ensures.value ∙ c.in_ok-given-2.ensures) i) (back2 i)) in
    record {
      step = λ r. subst (λ x. Step b last g e x (rules_in_turn base sequence xs) (with_rules base)) (sym end)
          (rules-step-all xs cells frame
          c.in_ok-emit_definitions.ensures.step
          c.in_ok-emit_checks.ensures.step
          c.in_ok-emit_checks.ensures.labelling
          (subst (λ x. Placed d2 x g → Held d2 (picked 0 cells f) → Merged d2 last g [] (picked 0 cells f) x m) back
          (subst (λ ps. Placed d2 c.write-2.new.env g → Held d2 ps → Merged d2 last g [] ps c.write-2.new.env m) after c.in_ok-write_under.ensures.step))
          r);
      size = omega (
        arith,
        order-weight base sequence c.requires.order,
        c.in_ok-write_under.ensures.size,
        c.in_ok-emit_definitions.ensures.size,
        c.in_ok-emit_checks.ensures.size,
        ap length after,
        length-picked 0 cells f,
        length-map sequence (target_at base),
      );
    }
