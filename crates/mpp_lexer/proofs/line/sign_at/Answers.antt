use Rattle.mpp_lexer.proofs.Steps.{none_there}
use Rattle.mpp_lexer.proofs.line.sign_at.Goals as goal

pub returns-in_err-sign-clause-token : goal.returns-in_err-sign-clause-token
returns-in_err-sign-clause-token c = rw c.from_residual.ensures (none_there c.args.line.now c.args.at c.requires.within c.requires.no_space
    c.requires.no_comment c.requires.no_word c.in_err-sign.ensures.sign)
