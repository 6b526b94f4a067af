use Rattle.rule_base.proofs.FileSteps.{reported, lex_reported, parse_reported}
use Rattle.rule_base.proofs.each_file.file_items.Goals as goal

pub returns-in_err-tokens : goal.returns-in_err-tokens
returns-in_err-tokens c = reported _ _ _ _ _ c.from_residual.ensures.1
    (lex_reported c.args.number c.args.text.now _ (rw c.as_slice.ensures at c.in_err-tokens.ensures.outcome))

pub returns-in_err-items : goal.returns-in_err-items
returns-in_err-items c =
    reported _ _ _ _ _ c.from_residual-in_err-items.ensures.1
    (parse_reported c.args.number c.args.text.now _ _ (rw c.as_slice.ensures at c.in_ok-tokens.ensures.outcome)
    (rw c.as_slice-2.ensures.value at c.in_err-items.ensures.outcome))
