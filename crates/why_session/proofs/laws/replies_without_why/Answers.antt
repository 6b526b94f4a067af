use Rattle.why_session.proofs.LineLemmas.{without_why}
use Rattle.why_session.proofs.laws.replies_without_why.Goals as goal

pub returns : goal.returns
returns c = λ showing explains values lines none. without_why showing explains values lines none
