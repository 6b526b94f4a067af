use Rattle.std.proofs.Common.{arith, ap}
use Rattle.m_ast.specs.inner.Falls.{sizes_fall_terms, sizes_fall_links, sizes_fall_members}
use Rattle.m_ast.specs.Syntax.{nodes}
use Rattle.m_ast.specs.View.{syntax_of}
use Rattle.m_ast.proofs.copy_term.+copied.Goals as goal

pub copied-copied_terms-requires : goal.copied-copied_terms-requires
copied-copied_terms-requires t c =
    rw c.deref-in-Apply.ensures.value (
      omega (
        arith,
        sizes_fall_terms c.in-Apply.arguments.items,
        ap nodes c.term.view_is,
        ap (λ n. nodes (syntax_of n))
            c.in-Apply.is,
      ),
      tt,
    )

pub copied-copied_links-requires : goal.copied-copied_links-requires
copied-copied_links-requires t c =
    rw c.deref-in-Chain-2.ensures.value (
      omega (
        arith,
        sizes_fall_links c.in-Chain.links.items,
        ap nodes c.term.view_is,
        ap (λ n. nodes (syntax_of n))
            c.in-Chain.is,
      ),
      tt,
    )

pub copied-copied_members-requires : goal.copied-copied_members-requires
copied-copied_members-requires t c =
    rw c.deref-in-Among-2.ensures.value (
      omega (
        arith,
        sizes_fall_members c.in-Among.members.items,
        ap nodes c.term.view_is,
        ap (λ n. nodes (syntax_of n))
            c.in-Among.is,
      ),
      tt,
    )
