use Rattle.household_session.proofs.ReplyLemmas.{replies-line, replies-last}
use Rattle.household_session.proofs.laws.line_by_line.Goals as goal

pub returns-clause-more : goal.returns-clause-more
returns-clause-more c = λ sitting first rest free. replies-line sitting first rest free

pub returns-clause-last : goal.returns-clause-last
returns-clause-last c = λ sitting first free some. replies-last sitting first free some
