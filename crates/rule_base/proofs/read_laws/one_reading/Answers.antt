use Rattle.rule_base.proofs.OneFiles.{each_one}
use Rattle.rule_base.proofs.read_laws.one_reading.Goals as goal

pub returns : goal.returns
returns c = each_one 0
