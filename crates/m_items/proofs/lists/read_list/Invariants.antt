use Rattle.std.proofs.Common.{◌<◌, length}
use Rattle.m_terms.specs.Tokens.{is_sign}
use Rattle.m_lexer.specs.inner.Chains.{open_at}
use Rattle.m_lexer.proofs.Chains.{Going}
use Rattle.m_items.specs.inner.DeclarationReading.{part, list_at}
use Rattle.m_items.proofs.lists.read_list.Given as goal

abbrev pub invariant-parts : goal.invariant-parts
invariant-parts l = record {
  shorter : length l.cursor < length l.fn.cursor;
  going : Going (is_sign l.sign) (λ _ x. x) (open_at (part l.listed)) (list_at l.listed l.fn.cursor) l.parts.items l.cursor;
}

abbrev pub decreases-parts : goal.decreases-parts
decreases-parts l = length l.cursor
