use Rattle.std.proofs.Common.{◌<◌, take, length, sym, subst, rules}
use Rattle.std.proofs.lemmas.List.{take_more}
use Rattle.flat_code.specs.Tidy.{check_at}
use Rattle.dead_rules.specs.inner.Firsts.{AreFirsts}
use Rattle.dead_rules.proofs.FirstLemmas.{firsts-step}
use Rattle.dead_rules.proofs.firsts.firsts.Goals as goal

pub loop-i-preserved : goal.loop-i-preserved
loop-i-preserved c =
    let checks = c.args.checks.now in
    let i = c.loop-i.i in
    let old = c.loop-i.taken.items in
    let new = c.take.new.taken.items in
    let lt : i < length checks = search rules in
    record {
      firsts = subst (λ front. AreFirsts front new) (sym (take_more checks i _ lt))
          (firsts-step (take i checks) old new (check_at checks i) c.loop-i.invariant.firsts c.in_ok-take.ensures.taken);
      same = c.in_ok-take.ensures.same;
    }
