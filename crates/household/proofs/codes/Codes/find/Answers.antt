use Rattle.std.proofs.Common.{List, length, ◌<◌, IfSome, sym, ap, ◌∙◌, subst, arith}
use Rattle.m_names.specs.Names.{index_of}
use Rattle.observables.specs.declared.inputs.Coded.{Coded}
use Rattle.observables.specs.Inputs.{codes_of}
use Rattle.household.proofs.KeptLemmas.{codes_kept, length_kept}
use Rattle.household.proofs.codes.Codes.find.Goals as goal

pub number-requires : goal.number-requires
number-requires c = omega (arith, c.self.invariant.1.0, c.self.invariant.1.1)

pub returns-clause-number : goal.returns-clause-number
returns-clause-number c =
    c.number.ensures.number
    ∙ ap (index_of c.args.code.now) (sym (codes_kept c.self.inside.names c.self.inside.kinds.items c.self.invariant.0))
    ∙ ap (λ (inputs : List Coded). index_of c.args.code.now (codes_of inputs)) c.self.view_is

pub returns-clause-within : goal.returns-clause-within
returns-clause-within c =
    subst (λ k. IfSome c.number.result (λ n. n < k)) (sym (length_kept c.self.inside.names c.self.inside.kinds.items c.self.invariant.0)
    ∙ ap length c.self.view_is) c.number.ensures.within
