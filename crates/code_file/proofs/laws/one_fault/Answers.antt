use Rattle.code_file.proofs.EntryLaws.{one-fault}
use Rattle.code_file.proofs.laws.one_fault.Goals as goal

pub returns : goal.returns
returns c = one-fault
