use Rattle.std.proofs.Common.{codes, ap, ◌∙◌, not, bytes_eq}
use Rattle.code_file.proofs.StageLemmas.{word-line}
use Rattle.code_file.proofs.EndLemmas.{ne-same}
use Rattle.code_file.proofs.read.read_code.Goals as goal

pub read_slots-requires-clause-text : goal.read_slots-requires-clause-text
read_slots-requires-clause-text c =
    word-line c.args.bytes.now c.in-Some.line.now c.in-Some.rest.now (codes "mcode 1") c.in-Some.ensures
    (ne-same c.in-Some.line.now (codes "mcode 1") c.ne.result (c.ne.ensures ∙ ap (λ l. not (bytes_eq c.in-Some.line.now l)) c.as_slice.ensures) c.if-ne.false)
