use Rattle.std.proofs.Common.{arith, ap, ◌∙◌}
use Rattle.micro_m.specs.inner.Falls.{sizes_fall, terms_fall}
use Rattle.micro_m.specs.Trees.{nodes}
use Rattle.micro_m.specs.Values.{environment}
use Rattle.micro_m.specs.Views.{tree_of}
use Rattle.micro_m.proofs.TermLemmas.{argument_values-at, argument_values-past}
use Rattle.micro_m.proofs.value.+value.Goals as goal

pub argument_value-returns-in-Some : goal.argument_value-returns-in-Some
argument_value-returns-in-Some t c =
    let found = c.in-Some.ensures.lookup in
    c.term_value.ensures ∙ argument_values-at (environment c.args.values.now) c.args.arguments.now c.args.at c.in-Some.argument.now found.3.0 found.1

pub argument_value-returns-in-None : goal.argument_value-returns-in-None
argument_value-returns-in-None t c =
    argument_values-past (environment c.args.values.now) c.args.arguments.now c.args.at c.in-None.ensures.lookup.3

pub term_value-applied-requires : goal.term_value-applied-requires
term_value-applied-requires t c =
    rw c.deref-in-Apply.ensures.value (
      omega (arith, terms_fall c.in-Apply.arguments.items, ap nodes c.term.view_is, ap (λ n. nodes (tree_of n)) c.in-Apply.is),
      tt,
    )

pub term_value-folded-requires : goal.term_value-folded-requires
term_value-folded-requires t c =
    rw c.deref-in-Chain-2.ensures.value (
      omega (arith, sizes_fall c.in-Chain.steps.items, ap nodes c.term.view_is, ap (λ n. nodes (tree_of n)) c.in-Chain.is),
      tt,
    )
