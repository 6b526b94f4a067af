use Rattle.std.proofs.Common.{subst, sym, arith}
use Rattle.common_terms.specs.Numbers.{IsEntered}
use Rattle.dead_rules.specs.inner.Firsts.{check_node, IsTaken}
use Rattle.dead_rules.proofs.FirstLemmas.{taken-added, taken-there}
use Rattle.dead_rules.proofs.firsts.take.Goals as goal

pub returns-in_ok-push-clause-taken : goal.returns-in_ok-push-clause-taken
returns-in_ok-push-clause-taken c =
    let count = c.count-count.ensures in
    let entered : IsEntered c.args.table.now c.find_or_add.new.self (check_node c.args.check) c.in_ok-number.number =
    subst (λ n. IsEntered c.args.table.now c.find_or_add.new.self n c.in_ok-number.number) c.node_of.ensures c.in_ok-number.ensures.entered in
    subst (λ new. IsTaken c.args.taken.now.items new c.args.check) (sym c.in_ok-push.ensures.items)
    (taken-added c.args.table.now c.args.taken.now.items c.args.check c.find_or_add.new.self c.in_ok-number.number c.requires.same entered
    (let same = c.if-number-count.true in omega (arith, same, count))).1

pub returns-else-number-count-clause-taken : goal.returns-else-number-count-clause-taken
returns-else-number-count-clause-taken c =
    let count = c.count-count.ensures in
    let entered : IsEntered c.args.table.now c.find_or_add.new.self (check_node c.args.check) c.in_ok-number.number =
    subst (λ n. IsEntered c.args.table.now c.find_or_add.new.self n c.in_ok-number.number) c.node_of.ensures c.in_ok-number.ensures.entered in
    (taken-there c.args.table.now c.args.taken.now.items c.args.check c.find_or_add.new.self c.in_ok-number.number c.requires.same entered
    (λ e. let other = c.if-number-count.false in absurd (omega (arith, other, count, e)))).1
