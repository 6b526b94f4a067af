use Rattle.std.proofs.Common.{◌==◌, ◌∙◌, sym, ap, refl, length, arith, true≢false}
use Rattle.code_file.proofs.CameLemmas.{came-long}
use Rattle.code_file.proofs.StageLemmas.{nothing}
use Rattle.code_file.proofs.EndLemmas.{behind-fault, is-form}
use Rattle.code_file.proofs.read.finish.Goals as goal

pub overflow_add-result : goal.overflow_add-result
overflow_add-result c = omega (arith, came-long _ _ _ _ c.requires.came, c.requires.few)

pub overflow_add-result-then-not-is_empty : goal.overflow_add-result-then-not-is_empty
overflow_add-result-then-not-is_empty c = omega (arith, came-long _ _ _ _ c.requires.came, c.requires.few)

pub returns-then-not-is_empty : goal.returns-then-not-is_empty
returns-then-not-is_empty c = λ _. behind-fault c.args.bytes.now c.args.rest.now c.args.behind.now c.args.slots c.args.line _ c.args.face c.args.code
    c.requires.came c.requires.code c.requires.last c.in-Some.ensures.1 (λ e. true≢false (sym (c.is_empty.ensures ∙ ap (λ l. length l == 0) e)
    ∙ c.if-not-is_empty.true)) refl

pub returns-else-not-is_empty : goal.returns-else-not-is_empty
returns-else-not-is_empty c = is-form c.args.bytes.now c.args.rest.now c.args.behind.now c.args.slots _ c.args.code c.in-Some.ensures.0 c.requires.code
    c.requires.right c.requires.instrs c.in-Some.ensures.1 c.requires.text c.requires.last
    (nothing c.args.behind.now (sym c.is_empty.ensures ∙ c.if-not-is_empty.false))
