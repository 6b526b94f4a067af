use Rattle.std.proofs.Common.{List, sym, ap, ◌∙◌}
use Rattle.observables.specs.declared.inputs.Coded.{Coded}
use Rattle.observables.specs.Inputs.{is_of_type}
use Rattle.household.specs.Household.{input_type}
use Rattle.household.proofs.KeptLemmas.{none_read, type_read}
use Rattle.household.proofs.codes.Codes.fits.Goals as goal

pub returns-in-Some : goal.returns-in-Some
returns-in-Some c =
    let l = c.in-Some.ensures.lookup in
    c.is_of_type.ensures
    ∙ ap (λ kind. is_of_type kind c.args.amount)
    (sym (type_read c.self.inside.names c.self.inside.kinds.items c.deref.result.now c.args.input c.in-Some.kind.now c.self.invariant.0 c.deref.ensures.value
    l.3.0 l.1))
    ∙ ap (λ (inputs : List Coded). is_of_type (input_type inputs c.args.input) c.args.amount) c.self.view_is

pub returns-in-None : goal.returns-in-None
returns-in-None c =
    ap (λ kind. is_of_type kind c.args.amount)
    (sym (none_read c.self.inside.names c.self.inside.kinds.items c.deref.result.now c.args.input c.deref.ensures.value c.in-None.ensures.lookup.3))
    ∙ ap (λ (inputs : List Coded). is_of_type (input_type inputs c.args.input) c.args.amount) c.self.view_is
