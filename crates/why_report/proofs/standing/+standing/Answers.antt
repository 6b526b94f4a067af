use Rattle.std.proofs.Common.{length, arith, ap, sym, ◌∙◌, subst}
use Rattle.micro_m.specs.inner.Falls.{sizes_fall, terms_fall}
use Rattle.micro_m.specs.Bases.{IsWithin}
use Rattle.micro_m.specs.Trees.{nodes}
use Rattle.micro_m.specs.Views.{tree_of}
use Rattle.why_report.proofs.standing.+standing.Goals as goal

pub term_is_marked-arguments_stand-requires : goal.term_is_marked-arguments_stand-requires
term_is_marked-arguments_stand-requires t c =
    rw c.deref-in-Apply.ensures.value (
      omega (arith, terms_fall c.in-Apply.arguments.items, ap nodes c.term.view_is, ap (λ n. nodes (tree_of n)) c.in-Apply.is),
      (
        subst (λ tree. IsWithin (length c.args.marks.now) tree) (sym c.term.view_is ∙ ap tree_of c.in-Apply.is) c.requires.within,
        (c.requires.size, c.requires.knows),
      ),
    )

pub term_is_marked-steps_stand-requires : goal.term_is_marked-steps_stand-requires
term_is_marked-steps_stand-requires t c =
    rw c.deref-then-term_is_marked-2.ensures.value (
      omega (arith, sizes_fall c.in-Chain.steps.items, ap nodes c.term.view_is, ap (λ n. nodes (tree_of n)) c.in-Chain.is),
      (
        (subst (λ tree. IsWithin (length c.args.marks.now) tree) (sym c.term.view_is ∙ ap tree_of c.in-Chain.is) c.requires.within).1,
        (omega (arith, c.term_is_marked-in-Chain.auto.known, c.requires.size), c.term_is_marked-in-Chain.ensures.knows),
      ),
    )
