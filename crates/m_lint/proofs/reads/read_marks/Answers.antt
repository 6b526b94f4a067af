use Rattle.std.proofs.Common.{◌∙◌}
use Rattle.m_lint.proofs.MarkLemmas.{marks-count, marks-read}
use Rattle.m_lint.proofs.reads.read_marks.Goals as goal

pub returns : goal.returns
returns c = record {
  count = marks-count (λ marks. marks.items) c.sweep.result c.args.base.now c.deref.result.now (c.deref.ensures.value ∙ c.in_ok-reach.ensures) c.sweep.ensures;
  marks = marks-read (λ marks. marks.items) c.sweep.result c.args.base.now c.deref.result.now c.requires (c.deref.ensures.value ∙ c.in_ok-reach.ensures)
      c.sweep.ensures;
}
