-- What the program of a source has in common with the source's rules, and with other programs of the source.
use Rattle.std.proofs.Common.{◌≡◌, length, map, take, sym, ap, ◌∙◌, subst}
use Rattle.m_places.specs.declared.source.Source.{Source}
use Rattle.m_symbols.specs.Declarations.{Declared, inputs_from}
use Rattle.micro_m.specs.declared.base.Base.{Base}
use Rattle.observables.specs.declared.face.FaceLabel.TheVariants.{Verif}
use Rattle.driver_core.specs.Inputs.{inputs_declared}
use Rattle.m_compile.specs.Compiled.{IsProgramOf}
use Rattle.m_compile.specs.Faults.{IsSourceFault}
use Rattle.m_compile.specs.Sources.{HasRules}
use Rattle.m_compile.specs.declared.compiling.Program.{Program}
use Rattle.m_compile.specs.declared.fault.SourceFault.{SourceFault}
use Rattle.m_compile.proofs.Distinct.{many_inputs}
use Rattle.m_compile.proofs.OneLaws.{no_valid_and_fault, one_rules, one_validity}

-- a source that has a program has no fault
pub no_program_and_fault : (source : Source) (program : Program) (fault : SourceFault) → IsProgramOf source program → IsSourceFault source fault → ⊥
no_program_and_fault source program fault is f = no_valid_and_fault source is.declared is.base is.written is.requests fault is.valid f

-- two programs of a source have the same inputs
pub same_inputs : (source : Source) (one other : Program) → IsProgramOf source one → IsProgramOf source other → one.face.inputs ≡ other.face.inputs
same_inputs source one other is was =
    let same = (one_validity source is.declared was.declared is.base was.base is.written was.written is.requests was.requests is.valid was.valid).0 in
    is.inputs ∙ ap inputs_declared same ∙ sym was.inputs

-- the first labels are those of the base
pub labels_first : (source : Source) (declared : Declared) (base : Base) (program : Program) → HasRules source declared base → IsProgramOf source program
    → take (length base.labels) program.face.labels ≡ map Verif base.labels
labels_first source declared base program rules is =
    let same = (one_rules source is.declared declared is.base base is.valid.rules rules).1 in
    subst (λ (b : Base). take (length b.labels) program.face.labels ≡ map Verif b.labels) same is.first_labels

-- the inputs are as many as are declared
pub inputs_counted : (source : Source) (declared : Declared) (base : Base) (program : Program) → HasRules source declared base → IsProgramOf source program
    → program.tidy.inputs ≡ length (inputs_from 0 declared.variables)
inputs_counted source declared base program rules is =
    let same = (one_rules source is.declared declared is.base base is.valid.rules rules).0 in
    sym is.runnable.shown.inputs ∙ ap length is.inputs ∙ many_inputs is.declared ∙ ap (λ (d : Declared). length (inputs_from 0 d.variables)) same
