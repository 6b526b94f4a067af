use Rattle.std.proofs.Common.{rules}
use Rattle.why_report.proofs.TermLemmas.{terms-none}
use Rattle.why_report.proofs.terms.terms_of.Goals as goal

pub loop-cell-init : goal.loop-cell-init
loop-cell-init c = terms-none c.args.base.now _ (search rules) c.new.ensures.items
