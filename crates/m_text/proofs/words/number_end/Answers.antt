use Rattle.std.proofs.Common.{◌≡◌, ◌+◌, ◌<◌, length, get_or, arith, inl, inr, subst}
use Rattle.m_text.specs.Bytes.{IsDigit}
use Rattle.m_text.proofs.Spelled.{digits_between, whole_longest, no_point, no_digit, decimal_between, decimal_longest}
use Rattle.m_text.proofs.words.number_end.Goals as goal
use Rattle.m_text.proofs.words.number_end.Goals.{else-whole-bytes-via-then-whole-bytes+else-bytes-whole-eq46, else-whole-bytes-via-else-whole-bytes}

pub returns-then-whole-end-clause-number : goal.returns-then-whole-end-clause-number
returns-then-whole-end-clause-number c = inr (decimal_between c.args.bytes.now c.args.from c.args.whole _ c.requires.some c.requires.digits
    c.if-whole-bytes.true c.if-bytes-whole-eq46.true c.if-whole-end.true c.digits_end-end.ensures)

pub returns-then-whole-end-clause-longest : goal.returns-then-whole-end-clause-longest
returns-then-whole-end-clause-longest c = decimal_longest c.args.bytes.now c.args.from c.args.whole _ c.requires.some c.requires.digits c.if-whole-bytes.true
    c.if-bytes-whole-eq46.true c.if-whole-end.true c.digits_end-end.ensures

pub returns-else-whole-end-clause-number : goal.returns-else-whole-end-clause-number
returns-else-whole-end-clause-number c = inl (digits_between c.args.bytes.now c.args.from c.args.whole c.requires.some c.requires.digits)

pub returns-else-whole-end-clause-longest : goal.returns-else-whole-end-clause-longest
returns-else-whole-end-clause-longest c = whole_longest c.args.bytes.now c.args.from c.args.whole c.requires.some c.requires.digits c.requires.apart
    (no_digit c.args.bytes.now c.args.whole c.if-whole-bytes.true no_more)
  where
    at : c.digits_end-end.result ≡ c.args.whole + 1
    at = omega (arith, c.digits_end-end.ensures.onward)

    no_more : c.args.whole + 1 < length c.args.bytes.now → IsDigit (get_or c.args.bytes.now (c.args.whole + 1) 0) → ⊥
    no_more = subst (λ n. n < length c.args.bytes.now → IsDigit (get_or c.args.bytes.now n 0) → ⊥) at c.digits_end-end.ensures.stops

pub returns-else-whole-bytes-clause-number : goal.returns-else-whole-bytes-clause-number
returns-else-whole-bytes-clause-number c = inl (digits_between c.args.bytes.now c.args.from c.args.whole c.requires.some c.requires.digits)

pub returns-else-whole-bytes-clause-longest : goal.returns-else-whole-bytes-clause-longest
returns-else-whole-bytes-clause-longest c = whole_longest c.args.bytes.now c.args.from c.args.whole c.requires.some c.requires.digits c.requires.apart
    (no_point c.args.bytes.now c.args.whole (λ h e. elim c.else-whole-bytes.branch [
      | else-whole-bytes-via-then-whole-bytes+else-bytes-whole-eq46 w ↦ w.if-bytes-whole-eq46.false e
      | else-whole-bytes-via-else-whole-bytes w ↦ omega (arith, w.if-whole-bytes.false)
    ]))
