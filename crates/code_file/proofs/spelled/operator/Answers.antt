use Rattle.std.proofs.Common.{sym, ap, ◌∙◌}
use Rattle.std.specs.Str.{bytes_eq}
use Rattle.code_file.specs.inner.Spelled.{operators}
use Rattle.code_file.proofs.OpLemmas.{op-next}
use Rattle.code_file.proofs.spelled.operator.Goals as goal

pub loop-k-preserved : goal.loop-k-preserved
loop-k-preserved c =
    c.loop-k.invariant ∙ op-next operators c.args.word.now c.loop-k.k _ c.loop-k-test.true (ap (bytes_eq c.args.word.now) (sym c.op_word.ensures)
    ∙ sym c.eq.ensures ∙ c.if-eq.false)
