use Rattle.m_resolve.proofs.Words.{words_there}
use Rattle.m_resolve.proofs.checks.words_at.Goals as goal

pub returns : goal.returns
returns c = words_there c.args.symbols.now.errors c.args.errors.now c.args.number _ c.requires.words c.requires.within c.index-errors-number.is
