use Rattle.std.proofs.Common.{sym, ◌∙◌}
use Rattle.reg_machine.proofs.TableLemmas.{none≢some}
use Rattle.code_file.specs.Text.{slots_line}
use Rattle.code_file.specs.Reading.{IsShort}
use Rattle.code_file.specs.inner.Faces.{slots_of}
use Rattle.code_file.proofs.FaceLemmas.{slots-spelling, slots-fit}
use Rattle.code_file.proofs.FrontLemmas.{no-line, no-front, front-is}
use Rattle.code_file.proofs.read.next_slots.Goals as goal

pub returns-in-None : goal.returns-in-None
returns-in-None c = no-line slots_line slots_of IsShort slots-spelling c.args.text.now c.in-None.ensures

pub returns-in-None-slots_of : goal.returns-in-None-slots_of
returns-in-None-slots_of c = no-front slots_line slots_of IsShort slots-spelling c.args.text.now c.in-Some.line.now c.in-Some.behind.now c.in-Some.ensures
    (λ x h r. none≢some x (c.in-None-slots_of.ensures ∙ h))

pub returns-in-Some-slots_of : goal.returns-in-Some-slots_of
returns-in-Some-slots_of c = front-is slots_line slots_of IsShort slots-spelling c.args.text.now c.in-Some.line.now c.in-Some.behind.now
    c.in-Some-slots_of.slots c.in-Some.ensures (
      sym c.in-Some-slots_of.ensures,
      slots-fit c.in-Some.line.now c.in-Some-slots_of.slots
          (sym c.in-Some-slots_of.ensures),
    )
