use Rattle.std.proofs.Common.{◌≡◌, [], drop, sym, subst, arith}
use Rattle.std.proofs.lemmas.List.{drop_all, append-nil}
use Rattle.m_lexer.specs.Tokens.{Lexes, end}
use Rattle.m_lexer.proofs.scan.lex.Goals as goal

pub returns : goal.returns
returns c =
    let q = c.loop-place.place in
    let none : drop q.byte c.args.bytes.now ≡ [] = drop_all q.byte c.args.bytes.now (omega (arith, c.loop-place-test.false)) in
    record { outcome = rw append-nil at (c.loop-place.invariant.steps.lists [] (subst (λ x. Lexes q x []) (sym none) end)) }
