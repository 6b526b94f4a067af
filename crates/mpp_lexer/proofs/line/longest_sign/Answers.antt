use Rattle.std.proofs.Common.{◌+◌, ◌<◌, ◌≢◌, length, get_or, ◌∷◌, [], arith}
use Rattle.mpp_lexer.specs.declared.piece.DriverSign.{DriverSign}
use Rattle.mpp_lexer.specs.Tokens.{sign_spelling}
use Rattle.mpp_lexer.proofs.Steps.{one_goes, two_goes}
use Rattle.mpp_lexer.proofs.line.longest_sign.Goals as goal
use Rattle.mpp_lexer.proofs.line.longest_sign.Goals.{then-at-line+in_default, else-at-line}

pub returns-in-Some-clause-sign : goal.returns-in-Some-clause-sign
returns-in-Some-clause-sign c = two_goes c.args.line.now c.args.at _ c.if-at-line.true c.in-Some.ensures

pub returns-in-Some-one_byte_sign-clause-sign : goal.returns-in-Some-one_byte_sign-clause-sign
returns-in-Some-one_byte_sign-clause-sign c = one_goes c.args.line.now c.args.at _ c.requires c.in-Some-one_byte_sign.ensures none
  where
    none : c.args.at + 1 < length c.args.line.now → (s : DriverSign) → sign_spelling s ≢ get_or c.args.line.now c.args.at 0 ∷ get_or c.args.line.now
        (c.args.at + 1) 0 ∷ []
    none h = elim c.if-at-line.branch [
      | then-at-line+in_default w ↦ w.in_default.ensures
      | else-at-line w ↦ absurd (omega (arith, w.if-at-line.false))
    ]
