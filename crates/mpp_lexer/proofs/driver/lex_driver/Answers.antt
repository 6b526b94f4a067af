use Rattle.std.proofs.Common.{[], ◌∷◌, sym, subst, arith, append_assoc, append-nil}
use Rattle.m_text.specs.Lines.{lines_of}
use Rattle.mpp_lexer.specs.Lines.{Lexes, FirstBadToken, here, later, end}
use Rattle.mpp_lexer.proofs.Texts.{first_within}
use Rattle.mpp_lexer.proofs.driver.lex_driver.Goals as goal
use Rattle.mpp_lexer.proofs.driver.lex_driver.Goals.{in-Some-line_of+in_ok-push, in_default-line_of}

pub returns-in_default-2 : goal.returns-in_default-2
returns-in_default-2 c =
    let bad = rw c.in_default-2.is at c.in_ok-tokens.ensures in
    record {
      outcome = λ _. c.loop-text.invariant.faults c.loop-text.number
          (subst (λ ls. FirstBadToken c.loop-text.number ls c.loop-text.number) (sym c.in-Some.ensures.first) (here bad));
    }

pub line_of-requires-clause-short : goal.line_of-requires-clause-short
line_of-requires-clause-short c =
    let h = first_within c.loop-text.rest.now c.in-Some.text.now (lines_of c.in-Some.behind.now) c.in-Some.ensures.first in
    omega (arith, h, c.loop-text.invariant.small, c.loop-text.invariant.from_one, c.requires)

pub loop-text-preserved : goal.loop-text-preserved
loop-text-preserved c =
    let n = c.loop-text.number in
    let behind = lines_of c.in-Some.behind.now in
    let tokens = rw c.in-Some-2.is at c.in_ok-tokens.ensures in
    record {
      lists = λ lines d. elim c.match-line_of.branch [
        | in-Some-line_of+in_ok-push w ↦ rw (w.lines-is, w.in_ok-push.ensures.items, append_assoc)
            (c.loop-text.invariant.lists _ (subst (λ ls. Lexes n ls (w.in-Some-line_of.line ∷ lines)) (sym c.in-Some.ensures.first)
            (w.in-Some-line_of.ensures behind lines d)))
        | in_default-line_of w ↦ rw w.lines-is (c.loop-text.invariant.lists lines
            (subst (λ ls. Lexes n ls lines) (sym c.in-Some.ensures.first) (rw w.in_default-line_of.is at (c.line_of.ensures behind lines d))))
      ];
      faults = λ fault d. c.loop-text.invariant.faults fault (subst (λ ls. FirstBadToken n ls fault) (sym c.in-Some.ensures.first) (later tokens d));
      from_one = omega (arith, c.loop-text.invariant.from_one);
      small = omega (arith, c.loop-text.invariant.small, c.in-Some.ensures.shorter);
    }

pub returns : goal.returns
returns c = record {
  outcome = rw append-nil at
      (c.loop-text.invariant.lists [] (subst (λ bytes. Lexes c.loop-text.number (lines_of bytes) []) (sym c.in_default.ensures.first) end));
}
