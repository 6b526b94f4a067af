use Rattle.std.proofs.Common.{All, sym, subst}
use Rattle.m_ast.specs.Whole.{IsWholeItem}
use Rattle.m_symbols.proofs.Outcomes.{reported}
use Rattle.rule_base.proofs.OneFiles.{stated_all, stated_whole}
use Rattle.rule_base.proofs.Counts.{counted}
use Rattle.rule_base.proofs.Steps.{read_reported}
use Rattle.rule_base.proofs.files.items_of.Goals as goal

pub returns-in_err-files-clause-outcome : goal.returns-in_err-files-clause-outcome
returns-in_err-files-clause-outcome g c = reported _ _ _ _ _ c.from_residual.ensures.1 (read_reported c.args.texts.now _ c.in_err-files.ensures)

pub returns-clause-outcome : goal.returns-clause-outcome
returns-clause-outcome g c = rw c.in_ok-items.ensures (stated_all 0 c.args.texts.now _ c.in_ok-files.ensures)

pub returns-clause-whole : goal.returns-clause-whole
returns-clause-whole g c = rw c.in_ok-items.ensures (stated_whole 0 c.args.texts.now _ (stated_all 0 c.args.texts.now _ c.in_ok-files.ensures))

pub returns-clause-few : goal.returns-clause-few
returns-clause-few g c = rw c.in_ok-items.ensures (counted (stated_all 0 c.args.texts.now _ c.in_ok-files.ensures) c.requires.total)
