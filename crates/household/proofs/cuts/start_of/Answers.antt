use Rattle.std.proofs.Common.{sym, ◌∙◌, arith}
use Rattle.household.proofs.LeftLemmas.{mark_there, no_mark}
use Rattle.household.proofs.cuts.start_of.Goals as goal

pub returns-then-bytes-lt3-clause-text : goal.returns-then-bytes-lt3-clause-text
returns-then-bytes-lt3-clause-text c = no_mark c.args.bytes.now (λ l. absurd (omega arith))

pub returns-then-is_mark-clause-text : goal.returns-then-is_mark-clause-text
returns-then-is_mark-clause-text c = mark_there c.args.bytes.now (omega arith) (sym c.is_mark.ensures ∙ c.if-is_mark.true)

pub returns-else-is_mark-clause-text : goal.returns-else-is_mark-clause-text
returns-else-is_mark-clause-text c = no_mark c.args.bytes.now (λ l. sym c.is_mark.ensures ∙ c.if-is_mark.false)
