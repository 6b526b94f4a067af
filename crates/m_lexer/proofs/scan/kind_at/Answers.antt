use Rattle.std.proofs.lemmas.Bool.{false≢true}
use Rattle.m_lexer.proofs.Going.{bad_byte_there}
use Rattle.m_lexer.proofs.scan.kind_at.Goals as goal

pub returns-in-None-clause-outcome : goal.returns-in-None-clause-outcome
returns-in-None-clause-outcome c = λ _. bad_byte_there c.args.bytes.now c.args.place c.requires.more c.requires.no_gap
    (λ h. false≢true (c.if-is_word_byte.ensures.1 h)) c.if-first-eq34.false c.in-None.ensures.steps
