use Rattle.std.proofs.Common.{◌∙◌, sym, true≢false}
use Rattle.std.proofs.lemmas.Bool.{false≢true}
use Rattle.code_file.proofs.NameLemmas.{cell-yes, cell-parts, cell-not}
use Rattle.code_file.proofs.names.is_cell_name.Goals as goal

pub returns-then-is_plain_name-2 : goal.returns-then-is_plain_name-2
returns-then-is_plain_name-2 c = (
  λ h. cell-yes c.args.text.now c.in-Some.name.now c.in-Some.index.now c.in-Some.ensures (c.is_plain_name-in-Some.ensures.0 c.if-is_plain_name-2.true)
      (sym c.is_index.ensures ∙ h),
  λ h. c.is_index.ensures ∙ (cell-parts c.args.text.now c.in-Some.name.now c.in-Some.index.now c.in-Some.ensures
      (λ p. true≢false (sym (c.is_plain_name.ensures.1 p) ∙ c.if-is_plain_name.false)) h).1,
)

pub returns-else-is_plain_name-2 : goal.returns-else-is_plain_name-2
returns-else-is_plain_name-2 c = (
  λ h. absurd (false≢true (sym c.if-is_plain_name-2.false ∙ h)),
  λ h. c.is_plain_name-in-Some.ensures.1 (cell-parts c.args.text.now c.in-Some.name.now c.in-Some.index.now c.in-Some.ensures
      (λ p. true≢false (sym (c.is_plain_name.ensures.1 p) ∙ c.if-is_plain_name.false)) h).0,
)

pub returns-in-None : goal.returns-in-None
returns-in-None c = (
  λ h. absurd (false≢true h),
  λ h. absurd (cell-not c.args.text.now c.in-None.ensures (λ p. true≢false (sym (c.is_plain_name.ensures.1 p) ∙ c.if-is_plain_name.false)) h),
)
