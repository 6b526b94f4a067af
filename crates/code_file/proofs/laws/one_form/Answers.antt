use Rattle.code_file.proofs.FormLaws.{one-form}
use Rattle.code_file.proofs.laws.one_form.Goals as goal

pub returns : goal.returns
returns c = one-form
