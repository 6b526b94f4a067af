use Rattle.m_commands.proofs.Lints.{lint_true}
use Rattle.m_commands.proofs.laws.linted_truly.Goals as goal

pub returns : goal.returns
returns c = λ source text status declared base written requests valid replies. lint_true source text status declared base written requests valid replies
