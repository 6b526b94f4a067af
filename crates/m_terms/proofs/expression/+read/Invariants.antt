use Rattle.std.proofs.Common.{◌≤◌, ◌+◌, ◌*◌, length}
use Rattle.m_terms.specs.Grammar.{link}
use Rattle.m_terms.specs.inner.Reading.{operator_at, operand_at, links_at, inner_at}
use Rattle.m_lexer.proofs.Chains.{Going}
use Rattle.m_terms.proofs.Depths.{floor}
use Rattle.m_terms.proofs.expression.+read.Given as goal

abbrev pub decreases-read_inner : goal.decreases-read_inner
decreases-read_inner l = 32 * l.depth

abbrev pub decreases-read_until : goal.decreases-read_until
decreases-read_until l = 32 * l.depth + 1

abbrev pub decreases-read_other : goal.decreases-read_other
decreases-read_other l = 32 * l.depth + 2

abbrev pub decreases-read_named : goal.decreases-read_named
decreases-read_named l = 32 * l.depth + 2

abbrev pub decreases-read_call : goal.decreases-read_call
decreases-read_call l = 32 * l.depth + 2

abbrev pub decreases-read_loop : goal.decreases-read_loop
decreases-read_loop l = 32 * l.depth + 2

abbrev pub decreases-read_choice : goal.decreases-read_choice
decreases-read_choice l = 32 * l.depth + 3

abbrev pub decreases-read_word : goal.decreases-read_word
decreases-read_word l = 32 * l.depth + 4

abbrev pub decreases-read_prim : goal.decreases-read_prim
decreases-read_prim l = 32 * l.depth + 5

abbrev pub decreases-read_factor : goal.decreases-read_factor
decreases-read_factor l = 32 * l.depth + 6

abbrev pub decreases-read_relation : goal.decreases-read_relation
decreases-read_relation l = 32 * l.depth + 13

abbrev pub decreases-read_negation : goal.decreases-read_negation
decreases-read_negation l = 32 * l.depth + 14

abbrev pub decreases-read_operand : goal.decreases-read_operand
decreases-read_operand l = 32 * l.depth + floor l.level

abbrev pub decreases-read_links : goal.decreases-read_links
decreases-read_links l = 32 * l.depth + floor l.level + 1

abbrev pub decreases-read_level : goal.decreases-read_level
decreases-read_level l = 32 * l.depth + floor l.level + 2

abbrev pub invariant-read_links-links : goal.invariant-read_links-links
invariant-read_links-links l = record {
  shorter : length l.cursor ≤ length l.fn.cursor;
  going : Going (operator_at l.level) link (operand_at (inner_at l.depth) l.level) (links_at (operator_at l.level) (operand_at (inner_at l.depth) l.level)
      l.fn.cursor) l.links.items l.cursor;
}

abbrev pub decreases-read_links-links : goal.decreases-read_links-links
decreases-read_links-links l = length l.cursor
