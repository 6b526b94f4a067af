use Rattle.m_fixed.proofs.Reading.{no_whole, whole_alone, no_decimals, whole_and_decimals}
use Rattle.m_fixed.proofs.read.read_number.Goals as goal

pub returns-then-not-is_digits-clause-value : goal.returns-then-not-is_digits-clause-value
returns-then-not-is_digits-clause-value c = no_whole c.args.text.now _ c.split_at_point.ensures.before c.if-not-is_digits.ensures

pub returns-in-None-clause-value : goal.returns-in-None-clause-value
returns-in-None-clause-value c = whole_alone c.args.text.now _ _ c.split_at_point.ensures.before (rw c.in-None.is at c.split_at_point.ensures.behind)
    c.if-not-is_digits.ensures c.size.ensures.value

pub returns-then-not-is_digits-2-clause-value : goal.returns-then-not-is_digits-2-clause-value
returns-then-not-is_digits-2-clause-value c = no_decimals c.args.text.now _ _ c.split_at_point.ensures.before
    (rw c.in-Some.is at c.split_at_point.ensures.behind) c.if-not-is_digits.ensures c.if-not-is_digits-2.ensures

pub returns-else-not-is_digits-2-clause-value : goal.returns-else-not-is_digits-2-clause-value
returns-else-not-is_digits-2-clause-value c = whole_and_decimals c.args.text.now _ _ _ c.split_at_point.ensures.before
    (rw c.in-Some.is at c.split_at_point.ensures.behind) c.if-not-is_digits.ensures c.if-not-is_digits-2.ensures c.size-in-Some.ensures.value
