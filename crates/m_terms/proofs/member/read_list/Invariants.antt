use Rattle.std.proofs.Common.{◌<◌, length}
use Rattle.m_lexer.specs.declared.token.Sign.TheVariants.{Comma}
use Rattle.m_terms.specs.Tokens.{is_sign}
use Rattle.m_terms.specs.inner.Reading.{member_at, joined_at}
use Rattle.m_lexer.proofs.Chains.{Going}
use Rattle.m_terms.proofs.member.read_list.Given as goal

abbrev pub invariant-members : goal.invariant-members
invariant-members l = record {
  shorter : length l.cursor < length l.fn.cursor;
  going : Going (is_sign Comma) (λ _ x. x) member_at (joined_at (is_sign Comma) member_at l.fn.cursor) l.members.items l.cursor;
}

abbrev pub decreases-members : goal.decreases-members
decreases-members l = length l.cursor
