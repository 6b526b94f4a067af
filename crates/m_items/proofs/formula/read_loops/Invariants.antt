use Rattle.std.proofs.Common.{◌≤◌, length}
use Rattle.m_lexer.specs.declared.token.Key.TheVariants.{Pour}
use Rattle.m_terms.specs.Tokens.{is_key}
use Rattle.m_lexer.proofs.Chains.{Going}
use Rattle.m_items.specs.inner.RuleReading.{loop_at, loops_at}
use Rattle.m_items.proofs.formula.read_loops.Given as goal

abbrev pub invariant-loops : goal.invariant-loops
invariant-loops l = record {
  shorter : length l.cursor ≤ length l.fn.cursor;
  going : Going (is_key Pour) (λ _ h. h) loop_at (loops_at l.fn.cursor) l.loops.items l.cursor;
}

abbrev pub decreases-loops : goal.decreases-loops
decreases-loops l = length l.cursor
