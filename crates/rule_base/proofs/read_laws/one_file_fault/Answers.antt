use Rattle.rule_base.proofs.OneFiles.{fail_once}
use Rattle.rule_base.proofs.read_laws.one_file_fault.Goals as goal

pub returns : goal.returns
returns c = fail_once 0
