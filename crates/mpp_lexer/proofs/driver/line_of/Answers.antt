use Rattle.std.proofs.Common.{length, ap, sym, ◌∙◌}
use Rattle.std.proofs.lemmas.Bool.{eqb-false, eqb-true}
use Rattle.mpp_lexer.proofs.Steps.{spaces_counted}
use Rattle.mpp_lexer.proofs.Texts.{with_line, without_line}
use Rattle.mpp_lexer.proofs.driver.line_of.Goals as goal

pub returns-then-is_empty : goal.returns-then-is_empty
returns-then-is_empty c = λ texts others d. without_line _ _ texts _ others c.requires.tokens (ap length (sym (c.as_slice.ensures ∙ c.from_vec-tokens.ensures))
    ∙ eqb-true _ 0 (sym c.if-is_empty.ensures)) d

pub returns : goal.returns
returns c = λ texts others d. rw c.from_vec-tokens.ensures
    (with_line _ _ _ texts _ others c.requires.tokens
    (λ e. eqb-false _ 0 (sym c.if-is_empty.ensures) (ap length (c.as_slice.ensures ∙ c.from_vec-tokens.ensures) ∙ e))
    (spaces_counted _ _ c.spaces_end-indent.ensures) d)
