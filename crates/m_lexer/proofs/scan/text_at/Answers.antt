use Rattle.std.proofs.Common.{arith}
use Rattle.m_lexer.proofs.Going.{text_goes, open_there}
use Rattle.m_lexer.proofs.scan.text_at.Goals as goal

pub returns-then-end-bytes-clause-outcome : goal.returns-then-end-bytes-clause-outcome
returns-then-end-bytes-clause-outcome c = λ _. open_there c.args.bytes.now c.args.place _ c.requires.more c.requires.at_quote c.quote_end-end.ensures
    c.if-end-bytes.true

pub returns-clause-outcome : goal.returns-clause-outcome
returns-clause-outcome c =
    let within = c.quote_end-end.ensures.within in
    rw (c.further.ensures, c.line_feeds.ensures, c.in_ok-new.ensures) (text_goes c.args.bytes.now c.args.place c.quote_end-end.result c.requires.more
    c.requires.at_quote c.quote_end-end.ensures (omega arith))
