use Rattle.m_resolve.specs.Bases.{error_named}
use Rattle.m_resolve.proofs.Words.{stated_by_words}
use Rattle.m_resolve.proofs.checks.label.Goals as goal

pub returns : goal.returns
returns c = rw (stated_by_words c.args.condition.now (error_named c.args.symbols.now c.args.condition.now.error), ← c.error_named-words.ensures)
    c.resolved_with.ensures
