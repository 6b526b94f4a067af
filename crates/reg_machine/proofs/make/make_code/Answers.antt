use Rattle.std.proofs.Common.{◌≡◌, ℕ, suc, ◌+◌, ◌∷◌, ◌++◌, [], drop, take, get_or, List, Option, Some, None, ap, sym, ◌∙◌, subst, arith, rules, drop-cons}
use Rattle.std.specs.Prelude.{MatchOption}
use Rattle.std.proofs.Math.Seq.{take-suc}
use Rattle.reg_machine.specs.declared.instr.Instr.{Instr}
use Rattle.reg_machine.specs.declared.wrong.Wrong.{Wrong}
use Rattle.reg_machine.specs.Flow.{code_of, with_instr, wrong_behind}
use Rattle.reg_machine.proofs.NumberingLemmas.{Rest, rest-next, rest-wrong}
use Rattle.reg_machine.proofs.make.make_code.Goals as goal

pub returns-in-Some : goal.returns-in-Some
returns-in-Some c = λ _.
    let whole = code_of c.args.inputs c.args.slots c.args.labels c.args.outputs c.args.instrs.now in
    let instrs = c.args.instrs.now in
    let i = c.loop-place.place in
    let instr = c.index-instrs-place.result in
    let is : get_or instrs i instr ≡ instr = search rules in
    let left : drop i instrs ≡ instr ∷ drop (suc i) instrs = drop-cons instrs i instr c.loop-place-test.true ∙ ap (λ x. x ∷ drop (suc i) instrs) is in
    let rest = subst (λ (xs : List Instr). Rest c.loop-place.code whole i xs) left c.loop-place.invariant.rest in
    rest-wrong c.loop-place.code whole i instr (drop (suc i) instrs) c.in-Some.wrong rest (sym (c.in_ok-wrong.ensures.wrong) ∙ c.in-Some.is)
    ∙ ap (λ w. Some w) (sym c.placed.ensures)

pub loop-place-preserved : goal.loop-place-preserved
loop-place-preserved c =
    let whole = code_of c.args.inputs c.args.slots c.args.labels c.args.outputs c.args.instrs.now in
    let code = c.loop-place.code in
    let instrs = c.args.instrs.now in
    let i = c.loop-place.place in
    let instr = c.index-instrs-place.result in
    let next : suc i ≡ i + 1 = omega arith in
    let is : get_or instrs i instr ≡ instr = search rules in
    let left : drop i instrs ≡ instr ∷ drop (suc i) instrs = drop-cons instrs i instr c.loop-place-test.true ∙ ap (λ x. x ∷ drop (suc i) instrs) is in
    let rest = subst (λ (xs : List Instr). Rest code whole i xs) left c.loop-place.invariant.rest in
    let right : wrong_behind code instr ≡ None = sym (c.in_ok-wrong.ensures.wrong) ∙ c.in-None.is in
    let added : c.push.new.self ≡ with_instr code instr = subst (λ (o : Option Wrong). MatchOption o (c.push.new.self ≡ with_instr code instr)
    (λ _. c.push.new.self ≡ code)) c.in-None.is c.in_ok-wrong.ensures.added in
    record {
      rest = subst (λ (k : ℕ). Rest c.push.new.self whole k (drop k instrs)) next
          (subst (λ l. Rest l whole (suc i) (drop (suc i) instrs)) (sym added) (rest-next code whole i instr (drop (suc i) instrs) rest right));
      is = added ∙ ap (λ l. with_instr l instr) c.loop-place.invariant.is
          ∙ ap (λ (xs : List Instr). code_of c.args.inputs c.args.slots c.args.labels c.args.outputs xs)
          (ap (λ x. take i instrs ++ x ∷ []) (sym is) ∙ sym (take-suc instrs i instr c.loop-place-test.true) ∙ ap (λ k. take k instrs) next);
    }
