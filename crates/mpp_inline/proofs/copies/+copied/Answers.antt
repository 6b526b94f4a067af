use Rattle.std.proofs.Common.{arith, ap}
use Rattle.micro_m.specs.Trees.{nodes}
use Rattle.micro_m.specs.Views.{tree_of}
use Rattle.micro_m.specs.inner.Falls.{sizes_fall, terms_fall}
use Rattle.mpp_inline.proofs.copies.+copied.Goals as goal

pub copied-copied_terms-requires : goal.copied-copied_terms-requires
copied-copied_terms-requires t c =
    rw c.deref-in-Apply.ensures.value (
      omega (
        arith,
        terms_fall c.in-Apply.arguments.items,
        ap nodes c.term.view_is,
        ap (λ n. nodes (tree_of n))
            c.in-Apply.is,
      ),
      tt,
    )

pub copied-copied_steps-requires : goal.copied-copied_steps-requires
copied-copied_steps-requires t c =
    rw c.deref-in-Chain-2.ensures.value (
      omega (
        arith,
        sizes_fall c.in-Chain.steps.items,
        ap nodes c.term.view_is,
        ap
            (λ n. nodes (tree_of n)) c.in-Chain.is,
      ),
      tt,
    )
