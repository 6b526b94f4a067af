use Rattle.std.proofs.Common.{refl}
use Rattle.household.proofs.LineLemmas.{end_found, end_none}
use Rattle.household.proofs.cuts.line_end.Goals as goal

pub returns-in-Some-clause-line : goal.returns-in-Some-clause-line
returns-in-Some-clause-line c = end_found c.args.bytes.now _ c.args.from c.in-Some.place refl c.in-Some.ensures.0 c.in-Some.ensures.1

pub returns-in-None-clause-line : goal.returns-in-None-clause-line
returns-in-None-clause-line c = end_none c.args.bytes.now _ c.args.from c.requires refl c.in-None.ensures
