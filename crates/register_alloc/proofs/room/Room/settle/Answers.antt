use Rattle.std.proofs.Common.{◌≡◌, ◌+◌, suc, ap, ◌∙◌, rules, arith}
use Rattle.register_alloc.specs.declared.moment.Moment.{Moment}
use Rattle.register_alloc.specs.inner.Sound.{count_given, checks_read}
use Rattle.register_alloc.proofs.SoundSteps.{turn-room, tests-more}
use Rattle.register_alloc.proofs.room.Room.settle.Goals as goal

pub test-requires-clause-few : goal.test-requires-clause-few
test-requires-clause-few c = omega (arith, turn-room c.loop-check.invariant.sound c.loop-check.invariant.short)

pub loop-check-preserved : goal.loop-check-preserved
loop-check-preserved c =
    let flat = c.args.flat.now in
    let before = c.loop-check.invariant in
    let after = c.in_ok-at.ensures in
    let made : c.in_ok-at.at.made ≡ c.loop-check.at.made = ap (λ (m : Moment). m.made) after.next in
    let checked : c.in_ok-at.at.checked ≡ suc c.loop-check.at.checked = ap (λ (m : Moment). m.checked) after.next in
    let given : count_given c.in_ok-at.at.made flat.outputs ≡ count_given c.loop-check.at.made flat.outputs = ap (λ m. count_given m flat.outputs) made in
    record {
      sound = after.sound;
      same = search rules;
      counts = after.counts ∙ before.counts;
      short = omega (arith, before.short, after.len);
      loads = λ y.
          let more = ap (λ m. checks_read flat m y) checked ∙ tests-more flat c.loop-check.at.checked c.in-Some.check c.in-Some.ensures.next
          c.in-Some.ensures.check y in
          omega (arith, before.loads y, after.loads y, more);
    }
