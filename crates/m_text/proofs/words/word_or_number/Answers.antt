use Rattle.m_text.proofs.Spelled.{word_between, word_longest}
use Rattle.m_text.proofs.words.word_or_number.Goals as goal

pub returns-then-whole-end : goal.returns-then-whole-end
returns-then-whole-end c = (
  word_longest c.args.bytes.now c.args.from _ _ c.word_end-end.ensures c.digits_end-whole.ensures c.if-whole-end.true,
  word_between c.args.bytes.now c.args.from _ _ c.word_end-end.ensures c.digits_end-whole.ensures c.if-whole-end.true,
)
