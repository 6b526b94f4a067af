use Rattle.std.proofs.Common.{codes, sym, ap, ◌∙◌, refl, subst, arith, bytes_eq}
use Rattle.code_file.specs.Reading.{IsCodeFault}
use Rattle.code_file.proofs.CameLemmas.{came-long}
use Rattle.code_file.proofs.StageLemmas.{word-line, no-word, other-word, other-fault, shorter, few-instrs}
use Rattle.code_file.proofs.EndLemmas.{is-word, isnt-word, instr-none, instr-no-line, wrong-fault, next-came, next-code, next-text, next-right}
use Rattle.code_file.proofs.read.read_instrs.Goals as goal

pub overflow_add-result : goal.overflow_add-result
overflow_add-result c = omega (arith, came-long _ _ _ _ c.loop-made.invariant.so_far, c.requires.few)

pub overflow_add-result-in-None-instr_of : goal.overflow_add-result-in-None-instr_of
overflow_add-result-in-None-instr_of c = omega (arith, came-long _ _ _ _ c.loop-made.invariant.so_far, c.requires.few)

pub overflow_add-came : goal.overflow_add-came
overflow_add-came c = omega (arith, came-long _ _ _ _ c.loop-made.invariant.so_far, c.requires.few)

pub overflow_add-came-in-Some-instr_of : goal.overflow_add-came-in-Some-instr_of
overflow_add-came-in-Some-instr_of c = omega (arith, came-long _ _ _ _ c.loop-made.invariant.so_far, c.requires.few)

pub push-requires : goal.push-requires
push-requires c = record {
  few = omega (
    arith,
    few-instrs c.args.bytes.now c.loop-made.left.now c.args.slots c.args.face c.loop-made.made.instrs
        c.loop-made.invariant.text,
    c.requires.few,
  );
}

pub returns-in-None : goal.returns-in-None
returns-in-None c = λ _. other-fault c.args.bytes.now c.loop-made.left.now c.args.slots c.loop-made.came _ c.args.face c.loop-made.made
    c.loop-made.invariant.so_far c.loop-made.invariant.code (instr-no-line c.loop-made.left.now c.in-None.ensures)
    (λ more h t. no-word c.loop-made.left.now (codes "end") c.in-None.ensures refl more h) (omega arith)

pub finish-requires-clause-last : goal.finish-requires-clause-last
finish-requires-clause-last c =
    word-line c.loop-made.left.now c.in-Some.text.now c.in-Some.behind.now (codes "end") c.in-Some.ensures
    (is-word c.in-Some.text.now (codes "end") c.eq.result (c.eq.ensures ∙ ap (bytes_eq c.in-Some.text.now) c.as_slice.ensures) c.if-eq.true)

pub returns-in-None-instr_of : goal.returns-in-None-instr_of
returns-in-None-instr_of c = λ _. other-fault c.args.bytes.now c.loop-made.left.now c.args.slots c.loop-made.came _ c.args.face c.loop-made.made
    c.loop-made.invariant.so_far c.loop-made.invariant.code (instr-none c.loop-made.left.now c.in-Some.text.now c.in-Some.behind.now c.in-Some.ensures
    (sym c.in-None-instr_of.ensures))
    (λ more h t. other-word c.loop-made.left.now c.in-Some.text.now c.in-Some.behind.now (codes "end") c.in-Some.ensures
    (isnt-word c.in-Some.text.now (codes "end") c.eq.result (c.eq.ensures ∙ ap (bytes_eq c.in-Some.text.now) c.as_slice.ensures) c.if-eq.false) refl more h)
    (omega arith)

pub returns-in-Some-2 : goal.returns-in-Some-2
returns-in-Some-2 c = λ _. subst (IsCodeFault c.args.bytes.now) (sym c.fault_of.ensures)
    (wrong-fault c.args.bytes.now c.loop-made.left.now c.in-Some.text.now c.in-Some.behind.now c.args.slots c.loop-made.came _ c.args.face c.loop-made.made
    c.in-Some-instr_of.instr c.in-Some-2.wrong c.loop-made.invariant.so_far c.loop-made.invariant.code c.in-Some.ensures
    (isnt-word c.in-Some.text.now (codes "end") c.eq.result (c.eq.ensures ∙ ap (bytes_eq c.in-Some.text.now) c.as_slice.ensures) c.if-eq.false)
    (sym c.in-Some-instr_of.ensures) (sym c.in_ok-wrong-in-Some-instr_of.ensures.wrong ∙ c.in-Some-2.is) (omega arith))

pub loop-made-smaller : goal.loop-made-smaller
loop-made-smaller c = shorter c.loop-made.left.now c.in-Some.text.now c.in-Some.behind.now c.in-Some.ensures

pub loop-made-preserved : goal.loop-made-preserved
loop-made-preserved c = record {
  so_far = next-came c.args.bytes.now c.loop-made.left.now c.in-Some.text.now c.in-Some.behind.now c.args.slots c.loop-made.came _ c.args.face c.loop-made.made
      c.push.new.self c.in-Some-instr_of.instr c.loop-made.invariant.so_far c.loop-made.invariant.code c.in-Some.ensures (sym c.in-Some-instr_of.ensures)
      (sym c.in_ok-wrong-in-Some-instr_of.ensures.wrong ∙ c.in-None-2.is) (rw c.in-None-2.is at c.in_ok-wrong-in-Some-instr_of.ensures.added) (omega arith);
  text = next-text c.args.bytes.now c.loop-made.left.now c.in-Some.text.now c.in-Some.behind.now c.args.slots c.args.face c.loop-made.made c.push.new.self
      c.in-Some-instr_of.instr c.loop-made.invariant.text c.in-Some.ensures (sym c.in-Some-instr_of.ensures)
      (rw c.in-None-2.is at c.in_ok-wrong-in-Some-instr_of.ensures.added);
  instrs = next-right c.in-Some.text.now c.loop-made.made c.push.new.self c.in-Some-instr_of.instr c.loop-made.invariant.instrs (sym c.in-Some-instr_of.ensures)
      (rw c.in-None-2.is at c.in_ok-wrong-in-Some-instr_of.ensures.added);
  code = next-code c.args.slots c.args.face c.loop-made.made c.push.new.self c.in-Some-instr_of.instr c.loop-made.invariant.code
      (sym c.in_ok-wrong-in-Some-instr_of.ensures.wrong ∙ c.in-None-2.is) (rw c.in-None-2.is at c.in_ok-wrong-in-Some-instr_of.ensures.added);
}
