use Rattle.std.proofs.Common.{arith, ap}
use Rattle.m_ast.specs.inner.Falls.{sizes_fall_terms, sizes_fall_links, sizes_fall_members}
use Rattle.m_ast.specs.Syntax.{nodes}
use Rattle.m_ast.specs.View.{syntax_of}
use Rattle.index_expand.proofs.parts.+parts.Goals as goal

pub parts-terms_parts-requires : goal.parts-terms_parts-requires
parts-terms_parts-requires t c =
    rw c.deref-in-Apply.ensures.value (
      omega (
        arith,
        sizes_fall_terms c.in-Apply.arguments.items,
        ap nodes c.term.view_is,
        ap (λ n. nodes (syntax_of n))
            c.in-Apply.is,
      ),
      tt,
    )

pub parts-links_parts-requires : goal.parts-links_parts-requires
parts-links_parts-requires t c =
    rw c.deref-in-Chain-2.ensures.value (
      omega (
        arith,
        sizes_fall_links c.in-Chain.links.items,
        ap nodes c.term.view_is,
        ap (λ n. nodes (syntax_of n))
            c.in-Chain.is,
      ),
      omega arith,
    )

pub parts-members_parts-requires : goal.parts-members_parts-requires
parts-members_parts-requires t c =
    rw c.deref-in-Among-2.ensures.value (
      omega (
        arith,
        sizes_fall_members c.in-Among.members.items,
        ap nodes c.term.view_is,
        ap (λ n. nodes (syntax_of n))
            c.in-Among.is,
      ),
      omega arith,
    )
