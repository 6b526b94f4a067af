use Rattle.std.proofs.Common.{◌∙◌, ap, sym, is_some}
use Rattle.code_file.proofs.NameLemmas.{few-yes, few-is}
use Rattle.code_file.proofs.names.are_few_digits.Goals as goal

pub returns : goal.returns
returns c =
    let is = c.is_some.ensures ∙ ap is_some c.whole_number.ensures in
    (λ h. few-yes c.args.text.now (sym is ∙ h), λ h. is ∙ few-is c.args.text.now h)
