use Rattle.std.proofs.Common.{◌≡◌, Ok, Err, arith, sym, ◌∙◌, ap, subst}
use Rattle.m_places.specs.Refusals.{Outcome}
use Rattle.mpp_parser.specs.CommandView.{command_of}
use Rattle.mpp_core.specs.Bodies.{resolved_act}
use Rattle.mpp_core.specs.declared.fault.CoreFault.TheVariants.{Memory}
use Rattle.mpp_core.proofs.ListLemmas.{act_size}
use Rattle.mpp_core.proofs.commands.+command.Goals as goal

pub command-returns-in-Set : goal.command-returns-in-Set
command-returns-in-Set t c =
    subst (λ a. Outcome Memory c.assigned.result (λ stated. resolved_act c.args.scope.now c.args.names.now a ≡ Ok stated)
    (λ fault. resolved_act c.args.scope.now c.args.names.now a ≡ Err fault))
    (sym (ap command_of c.in-Set.is) ∙ c.command.view_is) c.assigned.ensures

pub command-returns-in-Del : goal.command-returns-in-Del
command-returns-in-Del t c =
    subst (λ a. Outcome Memory c.cleared.result (λ stated. resolved_act c.args.scope.now c.args.names.now a ≡ Ok stated)
    (λ fault. resolved_act c.args.scope.now c.args.names.now a ≡ Err fault))
    (sym (ap command_of c.in-Del.is) ∙ c.command.view_is) c.cleared.ensures

pub commands-command-requires : goal.commands-command-requires
commands-command-requires t c = (omega (arith, act_size c.args.all.now c.loop-one.one-index _ c.loop-one-test.true c.one-item.is), c.requires)
