use Rattle.std.proofs.Common.{◌≡◌, ◌+◌, length, codes, sym, ap, ◌∙◌, refl, subst, arith, not, bytes_eq}
use Rattle.code_file.specs.inner.Came.{Came, code_so_far, face_text, text_so_far}
use Rattle.code_file.proofs.StageLemmas.{word-line, no-word, other-word, start-fault, start-came, few-labels}
use Rattle.code_file.proofs.EndLemmas.{ne-same, ne-other}
use Rattle.code_file.proofs.read.read_start.Goals as goal

pub overflow_cast-inputs : goal.overflow_cast-inputs
overflow_cast-inputs c = omega (
  arith,
  few-labels c.args.bytes.now c.args.rest.now c.args.slots c.args.face.inputs c.args.face.labels c.args.face.outputs
      c.requires.right c.requires.text,
  c.requires.few,
  ap length c.as_slice.ensures,
)

pub overflow_cast-labels : goal.overflow_cast-labels
overflow_cast-labels c = omega (
  arith,
  few-labels c.args.bytes.now c.args.rest.now c.args.slots c.args.face.inputs c.args.face.labels c.args.face.outputs
      c.requires.right c.requires.text,
  c.requires.few,
  ap length c.as_slice-2.ensures,
)

pub overflow_cast-outputs : goal.overflow_cast-outputs
overflow_cast-outputs c = omega (
  arith,
  few-labels c.args.bytes.now c.args.rest.now c.args.slots c.args.face.inputs c.args.face.labels c.args.face.outputs
      c.requires.right c.requires.text,
  c.requires.few,
  ap length c.as_slice-3.ensures,
)

pub overflow_add-line : goal.overflow_add-line
overflow_add-line c = omega (
  arith,
  few-labels c.args.bytes.now c.args.rest.now c.args.slots c.args.face.inputs c.args.face.labels c.args.face.outputs
      c.requires.right c.requires.text,
  c.requires.few,
  ap length c.as_slice.ensures,
  ap length c.as_slice-2.ensures,
)

pub overflow_add-line-2 : goal.overflow_add-line-2
overflow_add-line-2 c = omega (
  arith,
  few-labels c.args.bytes.now c.args.rest.now c.args.slots c.args.face.inputs c.args.face.labels c.args.face.outputs
      c.requires.right c.requires.text,
  c.requires.few,
  ap length c.as_slice.ensures,
  ap length c.as_slice-2.ensures,
  ap length c.as_slice-3.ensures,
)

pub overflow_add-line-3 : goal.overflow_add-line-3
overflow_add-line-3 c = omega (
  arith,
  few-labels c.args.bytes.now c.args.rest.now c.args.slots c.args.face.inputs c.args.face.labels c.args.face.outputs
      c.requires.right c.requires.text,
  c.requires.few,
  ap length c.as_slice.ensures,
  ap length c.as_slice-2.ensures,
  ap length c.as_slice-3.ensures,
)

pub returns-in-None : goal.returns-in-None
returns-in-None c = λ _. start-fault c.args.bytes.now c.args.rest.now c.args.slots _ c.args.face.inputs c.args.face.labels c.args.face.outputs c.requires.right
    c.requires.text c.requires.ends
    (no-word c.args.rest.now (codes "code") c.in-None.ensures refl)
    (omega (arith, ap length c.as_slice.ensures, ap length c.as_slice-2.ensures, ap length c.as_slice-3.ensures))

pub returns-then-ne : goal.returns-then-ne
returns-then-ne c = λ _. start-fault c.args.bytes.now c.args.rest.now c.args.slots _ c.args.face.inputs c.args.face.labels c.args.face.outputs c.requires.right
    c.requires.text c.requires.ends
    (other-word c.args.rest.now c.in-Some.text.now c.in-Some.behind.now (codes "code") c.in-Some.ensures
    (ne-other c.in-Some.text.now (codes "code") c.ne.result (c.ne.ensures ∙ ap (λ l. not (bytes_eq c.in-Some.text.now l)) c.as_slice-in-Some.ensures)
    c.if-ne.true) refl)
    (omega (arith, ap length c.as_slice.ensures, ap length c.as_slice-2.ensures, ap length c.as_slice-3.ensures))

pub read_instrs-requires-clause-came : goal.read_instrs-requires-clause-came
read_instrs-requires-clause-came c =
    let line = word-line c.args.rest.now c.in-Some.text.now c.in-Some.behind.now (codes "code") c.in-Some.ensures
    (ne-same c.in-Some.text.now (codes "code") c.ne.result (c.ne.ensures ∙ ap (λ l. not (bytes_eq c.in-Some.text.now l)) c.as_slice-in-Some.ensures)
    c.if-ne.false) in
    subst (λ l. Came c.args.bytes.now (code_so_far c.args.slots c.args.face l) (length c.as_slice.result.now + length c.as_slice-2.result.now + length
    c.as_slice-3.result.now + 3) c.in-Some.behind.now) (sym (ap (λ l. l.instrs) c.new-code.ensures))
    (start-came c.args.bytes.now c.args.rest.now c.in-Some.behind.now c.args.slots _ c.args.face c.requires.right c.requires.text line
    (omega (arith, ap length c.as_slice.ensures, ap length c.as_slice-2.ensures, ap length c.as_slice-3.ensures)))

pub read_instrs-requires-clause-text : goal.read_instrs-requires-clause-text
read_instrs-requires-clause-text c =
    let line = word-line c.args.rest.now c.in-Some.text.now c.in-Some.behind.now (codes "code") c.in-Some.ensures
    (ne-same c.in-Some.text.now (codes "code") c.ne.result (c.ne.ensures ∙ ap (λ l. not (bytes_eq c.in-Some.text.now l)) c.as_slice-in-Some.ensures)
    c.if-ne.false) in
    subst (λ l. c.args.bytes.now ≡ text_so_far c.args.slots c.args.face l c.in-Some.behind.now) (sym (ap (λ l. l.instrs) c.new-code.ensures))
    (c.requires.text ∙ ap (face_text c.args.slots c.args.face.inputs c.args.face.labels c.args.face.outputs) line)
