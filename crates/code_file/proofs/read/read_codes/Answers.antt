use Rattle.std.proofs.Common.{length, refl, ap, arith}
use Rattle.code_file.proofs.StageLemmas.{few-inputs, again-fault, length-codes}
use Rattle.code_file.proofs.read.read_codes.Goals as goal

pub first_again-requires : goal.first_again-requires
first_again-requires c = omega (
  arith,
  few-inputs c.args.bytes.now c.args.rest.now c.in_ok-inputs.behind.now c.args.slots c.in_ok-inputs.inputs.items
      c.requires.text c.in_ok-inputs.ensures.whole,
  c.requires.few,
  ap length c.deref.ensures.value,
)

pub overflow_add-result : goal.overflow_add-result
overflow_add-result c =
    let again = rw c.in-Some.is at c.in_ok-k.ensures in
    let within = again.within in
    omega (
      arith,
      within,
      length-codes c.deref.result.now,
      few-inputs c.args.bytes.now c.args.rest.now c.in_ok-inputs.behind.now c.args.slots
          c.in_ok-inputs.inputs.items c.requires.text c.in_ok-inputs.ensures.whole,
      c.requires.few,
      ap length c.deref.ensures.value,
    )

pub returns-in-Some : goal.returns-in-Some
returns-in-Some c = λ _.
    let again = rw c.in-Some.is at c.in_ok-k.ensures in
    again-fault c.args.bytes.now c.args.rest.now c.in_ok-inputs.behind.now c.args.slots c.in-Some.k _ c.in_ok-inputs.inputs.items
    (omega (arith, c.ranges.slots.fits)) c.requires.text c.in_ok-inputs.ensures.whole c.in_ok-inputs.ensures.right (rw c.deref.ensures.value at again) refl
