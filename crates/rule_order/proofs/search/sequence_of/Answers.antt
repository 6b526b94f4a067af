use Rattle.std.proofs.Common.{List, length, ap, arith}
use Rattle.micro_m.specs.Bases.{Definition}
use Rattle.rule_order.proofs.SearchLemmas.{ordered}
use Rattle.rule_order.proofs.search.sequence_of.Goals as goal

pub returns : goal.returns
returns c = record {
  outcome = ordered c.args.base.now c.loop-position.search.marks.items c.loop-position.search.sequence.items c.loop-position.invariant.0.search
      (λ p h. c.loop-position.invariant.1 p (let e = ap (λ (ds : List Definition). length ds) c.as_slice-position-end.ensures in
      let all = c.loop-position-test.false in omega arith));
}
