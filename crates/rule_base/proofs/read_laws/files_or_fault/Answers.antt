use Rattle.rule_base.proofs.OneFiles.{each_or_fail}
use Rattle.rule_base.proofs.read_laws.files_or_fault.Goals as goal

pub returns : goal.returns
returns c = each_or_fail 0
