use Rattle.std.proofs.Common.{◌≡◌, ◌<◌, sym, subst}
use Rattle.std.specs.Prelude.{[]}
use Rattle.std.specs.List.{AllByRecursion}
use Rattle.household.specs.Household.{inputs_of, values_of}
use Rattle.household.proofs.GivenLemmas.{pairs_give}
use Rattle.household.proofs.ValueLemmas.{values_of-none}
use Rattle.observables.specs.Inputs.{AreValuesOf}
use Rattle.value_sheet.specs.Held.{Held}
use Rattle.household_session.proofs.session.Session.start.Goals as goal

pub put_all-requires-clause-none : goal.put_all-requires-clause-none
put_all-requires-clause-none c =
    subst (λ (held : Held). held.now ≡ values_of [] held.flat.inputs) (sym c.in_ok-sheet.ensures) (values_of-none c.args.tidy.inputs)

pub put_all-requires-clause-inputs : goal.put_all-requires-clause-inputs
put_all-requires-clause-inputs c =
    subst (λ (held : Held). AllByRecursion (λ input. input < held.flat.inputs) (inputs_of c.args.household.now.pairs)) (sym c.in_ok-sheet.ensures)
    c.requires.inputs

pub returns-clause-values : goal.returns-clause-values
returns-clause-values c =
    let pairs = c.args.household.now.pairs in
    let given = subst (λ n. AreValuesOf c.args.face.inputs (values_of pairs n)) c.requires.face.inputs
    (pairs_give c.args.face.inputs pairs c.requires.amounts) in
    let put = subst (λ (held : Held). AreValuesOf c.args.face.inputs (values_of pairs held.flat.inputs)) (sym c.in_ok-sheet.ensures) given in
    subst (λ (held : Held). AreValuesOf c.args.face.inputs held.now) (sym c.put_all.ensures) put
