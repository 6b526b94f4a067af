use Rattle.report_laws.proofs.Sources.{of_rules}
use Rattle.report_laws.proofs.laws.cells_are_named.Goals as goal

pub returns : goal.returns
returns c = λ source declared base cell rules low. (of_rules source declared base rules).named cell low
