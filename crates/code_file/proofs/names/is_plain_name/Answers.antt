use Rattle.std.proofs.Common.{◌∙◌, sym}
use Rattle.code_file.proofs.NameLemmas.{no-small-yes, no-small-is}
use Rattle.code_file.proofs.names.is_plain_name.Goals as goal

pub returns-then-is_free_word : goal.returns-then-is_free_word
returns-then-is_free_word c = (
  λ h. (c.is_free_word.ensures.0 c.if-is_free_word.true, no-small-yes c.args.text.now (sym c.has_no_small.ensures ∙ h)),
  λ h. c.has_no_small.ensures
      ∙ no-small-is c.args.text.now h.1,
)
