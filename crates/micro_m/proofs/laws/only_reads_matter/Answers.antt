use Rattle.micro_m.proofs.TermLemmas.{term_value-same}
use Rattle.micro_m.proofs.laws.only_reads_matter.Goals as goal

pub returns : goal.returns
returns c = term_value-same
