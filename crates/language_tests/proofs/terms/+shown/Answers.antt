use Rattle.std.proofs.Common.{arith, ap}
use Rattle.m_ast.specs.inner.Falls.{sizes_fall_terms, sizes_fall_links, sizes_fall_members}
use Rattle.m_ast.specs.Syntax.{nodes}
use Rattle.m_ast.specs.View.{syntax_of}
use Rattle.language_tests.proofs.terms.+shown.Goals as goal

pub add_term-add_terms-requires : goal.add_term-add_terms-requires
add_term-add_terms-requires t c =
    rw c.deref-in-Apply.ensures.value (
      omega (
        arith,
        sizes_fall_terms c.in-Apply.arguments.items,
        ap nodes c.term.view_is,
        ap (λ n. nodes (syntax_of n))
            c.in-Apply.is,
      ),
      tt,
    )

pub add_term-add_links-requires : goal.add_term-add_links-requires
add_term-add_links-requires t c =
    rw c.deref-in-Chain-2.ensures.value (
      omega (
        arith,
        sizes_fall_links c.in-Chain.links.items,
        ap nodes c.term.view_is,
        ap (λ n. nodes (syntax_of n))
            c.in-Chain.is,
      ),
      tt,
    )

pub add_term-add_members-requires : goal.add_term-add_members-requires
add_term-add_members-requires t c =
    rw c.deref-in-Among-2.ensures.value (
      omega (
        arith,
        sizes_fall_members c.in-Among.members.items,
        ap nodes c.term.view_is,
        ap (λ n. nodes (syntax_of n))
            c.in-Among.is,
      ),
      tt,
    )
