use Rattle.std.proofs.Common.{arith, refl}
use Rattle.m_lexer.proofs.Chains.{chain_start, chain_turn, chain_stop, chain_stuck}
use Rattle.mpp_parser.specs.inner.Reading.{numbers_at}
use Rattle.mpp_parser.proofs.expression.read_numbers.Goals as goal

pub numbers-init : goal.numbers-init
unfolding numbers_at
numbers-init c = record {
  shorter = c.in-Some.ensures.shorter;
  going = rw (c.in_ok-push.ensures.items, c.new-numbers.ensures.items) (chain_start _ _ _ (rw c.in-Some.ensures.number refl));
}

pub returns-in_default-read_number-clause-reads : goal.returns-in_default-read_number-clause-reads
returns-in_default-read_number-clause-reads c =
    chain_stuck _ _ _ c.numbers.invariant.going c.numbers-test.ensures.sign c.numbers-test.ensures.shorter c.in_default-read_number.ensures.number

pub numbers-preserved : goal.numbers-preserved
numbers-preserved c = record {
  shorter = omega (arith, c.in-Some-read_number.ensures.shorter, c.numbers-test.ensures.shorter);
  going = rw c.in_ok-push-2.ensures.items (chain_turn _ _ _ c.numbers.invariant.going c.numbers-test.ensures.sign c.in-Some-read_number.ensures.number
      (omega (arith, c.in-Some-read_number.ensures.shorter, c.numbers-test.ensures.shorter)));
}

pub returns-clause-reads : goal.returns-clause-reads
returns-clause-reads c = rw c.numbers-test.ensures.sign.0 (chain_stop _ _ _ c.numbers.invariant.going c.numbers-test.ensures.sign.1)
