use Rattle.code_file.proofs.FormLaws.{no-fault-of-form}
use Rattle.code_file.proofs.laws.no_fault_of_form.Goals as goal

pub returns : goal.returns
returns c = no-fault-of-form
