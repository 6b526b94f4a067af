use Rattle.command_plans.proofs.Rules.{resumes_first, rules_turn, rules_end, rules_stop, rules_whole}
use Rattle.std.proofs.Common.{arith, length, sym, subst, ap, ◌∷◌, []}
use Rattle.m_places.specs.SourceLimits.{EachIsWithin, TextsAreWithin, all_bytes}
use Rattle.m_places.proofs.Pushed.{within_push, bytes_push, count_push}
use Rattle.command_plans.proofs.gather.gather_rules.Goals as goal

pub loop-name-init : goal.loop-name-init
loop-name-init g c = record {
  resumes = resumes_first _ _ _ c.new-texts.ensures.items;
  each = subst EachIsWithin (sym c.new-texts.ensures.items) tt;
  spent = let none = ap all_bytes c.new-texts.ensures.items in omega (arith, none);
  counted = ap length c.new-texts.ensures.items;
  reached = omega arith;
}

pub loop-name-preserved : goal.loop-name-preserved
loop-name-preserved g c = record {
  resumes = rules_turn c.args.names.now c.loop-name.name-index _ _ _ _ _ _ _ _ _ _ _ _ c.loop-name-test.true c.name-item.is c.min.ensures c.in_ok-name.ensures
      c.as_slice.ensures c.in_ok-push.ensures.items
      c.loop-name.invariant.resumes c.in_ok-bytes.ensures.along;
  each = let least = c.min.ensures in let within = c.in_ok-bytes.ensures.within in within_push _ _ _ c.in_ok-push.ensures.items c.loop-name.invariant.each
      (omega (arith, least, within));
  spent = let least = c.min.ensures in let within = c.in_ok-bytes.ensures.within in
      omega (arith, least, within, ap length c.as_slice.ensures, c.loop-name.invariant.spent, bytes_push _ _ _ c.in_ok-push.ensures.items);
  counted = omega (arith, c.loop-name.invariant.counted, count_push _ _ _ c.in_ok-push.ensures.items);
  reached = let h = c.loop-name-test.true in omega (arith, h);
}

pub returns-in_err-bytes-clause-along : goal.returns-in_err-bytes-clause-along
returns-in_err-bytes-clause-along g c =
    rules_end c.args.names.now c.loop-name.name-index _ _ _ _ _ _ _ _ _ _ c.loop-name-test.true c.name-item.is c.min.ensures c.loop-name.invariant.resumes
    c.in_err-bytes.ensures.along c.from_residual.ensures.1

pub returns-in_err-name-clause-along : goal.returns-in_err-name-clause-along
returns-in_err-name-clause-along g c =
    rules_stop c.args.names.now c.loop-name.name-index _ _ _ _ _ _ _ _ _ _ c.loop-name-test.true c.name-item.is c.min.ensures c.loop-name.invariant.resumes
    c.in_ok-bytes.ensures.along
    c.from_residual-in_err-name.ensures.1

pub returns-in_err-push-clause-along : goal.returns-in_err-push-clause-along
returns-in_err-push-clause-along g c =
    rules_stop c.args.names.now c.loop-name.name-index _ _ _ _ _ _ _ _ _ _ c.loop-name-test.true c.name-item.is c.min.ensures c.loop-name.invariant.resumes
    c.in_ok-bytes.ensures.along
    c.from_residual-in_err-push.ensures.1

pub returns-clause-along : goal.returns-clause-along
returns-clause-along g c = rules_whole c.args.names.now c.loop-name.name-index _ _ _ _ _ _ c.loop-name-test.false c.from_vec.ensures
    c.loop-name.invariant.resumes

pub returns-clause-within : goal.returns-clause-within
returns-clause-within g c =
    let many = c.loop-name.invariant.counted in
    let reached = c.loop-name.invariant.reached in
    let limit = c.requires in
    rw c.from_vec.ensures (record {
      few = omega (arith, many, limit, reached);
      each = c.loop-name.invariant.each;
      total = omega
          (arith, c.loop-name.invariant.spent);
    })
