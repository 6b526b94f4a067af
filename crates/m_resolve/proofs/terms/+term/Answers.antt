use Rattle.std.proofs.Common.{arith, ap}
use Rattle.m_ast.specs.Syntax.{nodes}
use Rattle.m_ast.specs.PlainView.{syntax_of}
use Rattle.m_resolve.proofs.Sizes.{term_size, link_size, member_size}
use Rattle.m_symbols.proofs.Outcomes.{reported}
use Rattle.m_resolve.proofs.Lists.{terms_fault, chain_fault}
use Rattle.m_resolve.proofs.terms.+term.Goals as goal

pub terms-returns-in_err-tree : goal.terms-returns-in_err-tree
terms-returns-in_err-tree t c =
    reported _ _ _ _ _ c.from_residual-in_err-tree.ensures.1
    (λ n. terms_fault c.args.symbols.now _ c.args.all.now c.loop-one.one-index _ _ _ c.loop-one-test.true c.one-item.is c.loop-one.invariant
    (c.in_err-tree.ensures n))

pub chained-returns-in_err-tree : goal.chained-returns-in_err-tree
chained-returns-in_err-tree t c =
    reported _ _ _ _ _ c.from_residual-in_err-tree.ensures.1
    (λ n. chain_fault c.args.symbols.now c.args.first.now _ c.args.links.now c.loop-link.link-index _ _ _ c.in_ok-first.ensures c.loop-link-test.true
    c.link-item.is c.loop-link.invariant (c.in_err-tree.ensures n))

pub term-table_read-requires : goal.term-table_read-requires
term-table_read-requires t c = (omega (arith, ap nodes c.deref.ensures, ap nodes c.term.view_is, ap (λ n. nodes (syntax_of n)) c.in-Cell.is), tt)

pub term-applied-requires : goal.term-applied-requires
term-applied-requires t c = rw c.deref-in-Apply.ensures.value (omega (arith, ap nodes c.term.view_is, ap (λ n. nodes (syntax_of n)) c.in-Apply.is), tt)

pub terms-term-requires : goal.terms-term-requires
terms-term-requires t c = (omega (arith, term_size c.args.all.now c.loop-one.one-index _ c.loop-one-test.true c.one-item.is), tt)

pub chained-term-requires-in-loop-link : goal.chained-term-requires-in-loop-link
chained-term-requires-in-loop-link t c = (omega (arith, link_size c.args.links.now c.loop-link.link-index _ c.loop-link-test.true c.link-item.is), tt)

pub member_steps-member-requires-in-loop-one : goal.member_steps-member-requires-in-loop-one
member_steps-member-requires-in-loop-one t c = (omega (arith, member_size c.args.others.now c.loop-one.one-index _ c.loop-one-test.true c.one-item.is), tt)
