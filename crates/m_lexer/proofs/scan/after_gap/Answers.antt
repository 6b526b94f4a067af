use Rattle.std.proofs.Common.{◌≡◌, ℕ, ◌⊎◌, refl, inl, inr, arith}
use Rattle.m_text.specs.Bytes.{IsBlankByte}
use Rattle.m_lexer.proofs.Going.{blank_goes, no_line_feed, comment_goes}
use Rattle.m_lexer.proofs.scan.after_gap.Goals as goal

other_blank : (b : ℕ) → (b ≡ 9) ⊎ ((b ≡ 13) ⊎ (b ≡ 32)) → IsBlankByte b
other_blank b (inl e) = inr (inl e)
other_blank b (inr (inl e)) = inr (inr (inl e))
other_blank b (inr (inr e)) = inl e

pub returns-in-10-clause-steps : goal.returns-in-10-clause-steps
returns-in-10-clause-steps c = rw c.further.ensures (blank_goes c.args.bytes.now c.args.place 10 1 (omega (arith, c.requires.here.within)) c.in-10.is
    (inr (inr (inr refl))) refl)

pub returns-in-32-clause-steps : goal.returns-in-32-clause-steps
returns-in-32-clause-steps c = rw c.further-in-32.ensures (blank_goes c.args.bytes.now c.args.place _ 0 (omega (arith, c.requires.here.within)) refl
    (other_blank _ c.in-32.is) (no_line_feed _ (λ e. omega (arith, c.in-32.is))))

pub returns-in-35-clause-steps : goal.returns-in-35-clause-steps
returns-in-35-clause-steps c = rw c.further-in-35.ensures (comment_goes c.args.bytes.now c.args.place _ (omega (arith, c.requires.here.within)) c.in-35.is
    c.line_end.ensures)
