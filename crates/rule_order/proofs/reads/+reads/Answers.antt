use Rattle.std.proofs.Common.{arith, ap}
use Rattle.micro_m.specs.inner.Falls.{sizes_fall, terms_fall}
use Rattle.micro_m.specs.Trees.{nodes}
use Rattle.micro_m.specs.Views.{tree_of}
use Rattle.rule_order.proofs.reads.+reads.Goals as goal

pub add_reads-add_all-requires : goal.add_reads-add_all-requires
add_reads-add_all-requires t c =
    rw c.deref-in-Apply.ensures.value (
      omega (arith, terms_fall c.in-Apply.arguments.items, ap nodes c.term.view_is, ap (λ n. nodes (tree_of n)) c.in-Apply.is),
      tt,
    )

pub add_reads-add_along-requires : goal.add_reads-add_along-requires
add_reads-add_along-requires t c =
    rw c.deref-in-Chain-2.ensures.value (
      omega (arith, sizes_fall c.in-Chain.steps.items, ap nodes c.term.view_is, ap (λ n. nodes (tree_of n)) c.in-Chain.is),
      tt,
    )
