use Rattle.m_fixed.proofs.ReadsBack.{reads_back, is_read, one_form}
use Rattle.m_fixed.proofs.laws.written_reads_back.Goals as goal

pub returns-clause-value : goal.returns-clause-value
returns-clause-value c = reads_back

pub returns-clause-read : goal.returns-clause-read
returns-clause-read c = is_read

pub returns-clause-one_form : goal.returns-clause-one_form
returns-clause-one_form c = one_form
