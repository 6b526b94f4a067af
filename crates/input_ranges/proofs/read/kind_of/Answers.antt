use Rattle.input_ranges.proofs.FieldLemmas.{kind_past, kind_read}
use Rattle.input_ranges.proofs.read.kind_of.Goals as goal

pub returns-in-Some : goal.returns-in-Some
returns-in-Some c = let l = c.in-Some.ensures.lookup in kind_read c.args.inputs.now c.args.input c.in-Some.coded.now l.3.0 l.1

pub returns-in-None : goal.returns-in-None
returns-in-None c = kind_past c.args.inputs.now c.args.input c.in-None.ensures.lookup.3
