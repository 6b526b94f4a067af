use Rattle.std.proofs.Common.{rules}
use Rattle.m_lexer.proofs.Going.{two_goes, one_goes}
use Rattle.m_lexer.proofs.scan.sign_at.Goals as goal

pub returns-in-Some-clause-steps : goal.returns-in-Some-clause-steps
returns-in-Some-clause-steps c = rw c.further.ensures (two_goes c.args.bytes.now c.args.place _ c.if-at-bytes.true c.in-Some.ensures)

pub returns-in-Some-one_byte_sign-clause-steps : goal.returns-in-Some-one_byte_sign-clause-steps
returns-in-Some-one_byte_sign-clause-steps c = rw c.further-in-Some-one_byte_sign.ensures
    (one_goes c.args.bytes.now c.args.place _ c.requires.more c.in-Some-one_byte_sign.ensures (search rules))
