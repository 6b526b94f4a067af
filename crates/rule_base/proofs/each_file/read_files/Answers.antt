use Rattle.std.proofs.Common.{arith, refl, ◌≡◌, ◌+◌}
use Rattle.rule_base.proofs.FileSteps.{reported}
use Rattle.rule_base.proofs.Rows.{goes_first, goes_at, goes_next, goes_through}
use Rattle.rule_base.specs.Files.{here}
use Rattle.rule_base.proofs.each_file.read_files.Goals as goal

pub returns-in_err-items : goal.returns-in_err-items
returns-in_err-items c =
    reported _ _ _ _ _ c.from_residual.ensures.1
    (λ n. (goes_at _ c.args.texts.now c.loop-text.text-index _ _ _ c.loop-text-test.true c.text-item.is c.loop-text.invariant.goes).bad _
    (here (c.in_err-items.ensures n)))

pub loop-text-preserved : goal.loop-text-preserved
loop-text-preserved c = record {
  goes = goes_next _ c.args.texts.now _ _ _ _ _ _ _ refl c.in_ok-push.ensures.items
      (goes_at _ c.args.texts.now c.loop-text.text-index _ _ _ c.loop-text-test.true c.text-item.is c.loop-text.invariant.goes) c.in_ok-items.ensures;
  place = omega (arith, c.loop-text.invariant.place);
}

pub returns : goal.returns
returns c = goes_through _ c.args.texts.now c.loop-text.text-index _ _ c.loop-text-test.false c.loop-text.invariant.goes
