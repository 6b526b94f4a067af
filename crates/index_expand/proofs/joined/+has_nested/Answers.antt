use Rattle.std.proofs.Common.{arith}
use Rattle.index_expand.proofs.TermLemmas.{term_below, link_below, low_below, high_below}
use Rattle.index_expand.proofs.joined.+has_nested.Goals as goal

pub term_has_nested-has_nested-requires : goal.term_has_nested-has_nested-requires
term_has_nested-has_nested-requires t c = (
  omega (
    arith,
    term_below c.args.terms.now c.loop-term.term-index c.term-item.result c.loop-term-test.true
        c.term-item.is,
  ),
  tt,
)

pub link_has_nested-has_nested-requires : goal.link_has_nested-has_nested-requires
link_has_nested-has_nested-requires t c = (
  omega (
    arith,
    link_below c.args.links.now c.loop-link.link-index c.link-item.result c.loop-link-test.true
        c.link-item.is,
  ),
  tt,
)

pub member_has_nested-has_nested-requires : goal.member_has_nested-has_nested-requires
member_has_nested-has_nested-requires t c = (
  omega (
    arith,
    low_below c.args.members.now c.loop-member.member-index c.member-item.result c.loop-member-test.true
        c.member-item.is,
  ),
  tt,
)

pub member_has_nested-has_nested-requires-else-has_nested : goal.member_has_nested-has_nested-requires-else-has_nested
member_has_nested-has_nested-requires-else-has_nested t
    c = (omega (arith, high_below c.args.members.now c.loop-member.member-index c.member-item.result c.loop-member-test.true c.member-item.is), tt)
