use Rattle.std.proofs.Common.{ℕ, ◌≤◌, ◌+◌, ◌*◌, length}
use Rattle.mpp_parser.specs.declared.expression.Prec.{Prec}
use Rattle.mpp_parser.specs.declared.expression.Prec.TheVariants.{Or, And, Sum, Product}
use Rattle.mpp_parser.specs.Grammar.{link}
use Rattle.mpp_parser.specs.inner.Reading.{links_at, operator_of, part_at, inner_at}
use Rattle.m_lexer.proofs.Chains.{Going}
use Rattle.mpp_parser.proofs.expression.+read.Given as goal

-- the number of parsers above that of brackets
abbrev pub rank : Prec → ℕ
rank Product = 4
rank Sum = 7
rank And = 12
rank Or = 15

abbrev pub decreases-read_inner : goal.decreases-read_inner
decreases-read_inner l = 32 * l.depth

abbrev pub decreases-read_brackets : goal.decreases-read_brackets
decreases-read_brackets l = 32 * l.depth + 1

abbrev pub decreases-read_prim : goal.decreases-read_prim
decreases-read_prim l = 32 * l.depth + 2

abbrev pub decreases-read_factor : goal.decreases-read_factor
decreases-read_factor l = 32 * l.depth + 3

abbrev pub decreases-read_relation : goal.decreases-read_relation
decreases-read_relation l = 32 * l.depth + 10

abbrev pub decreases-read_negation : goal.decreases-read_negation
decreases-read_negation l = 32 * l.depth + 11

abbrev pub decreases-read_part : goal.decreases-read_part
decreases-read_part l = 32 * l.depth + rank l.level

abbrev pub decreases-read_links : goal.decreases-read_links
decreases-read_links l = 32 * l.depth + rank l.level + 1

abbrev pub decreases-read_level : goal.decreases-read_level
decreases-read_level l = 32 * l.depth + rank l.level + 2

abbrev pub invariant-read_links-links : goal.invariant-read_links-links
invariant-read_links-links l = record {
  shorter : length l.cursor ≤ length l.fn.cursor;
  going : Going (operator_of l.level) link (part_at (inner_at l.depth) l.level)
      (links_at (operator_of l.level) (part_at (inner_at l.depth) l.level) l.fn.cursor) l.links.items l.cursor;
}

abbrev pub decreases-read_links-links : goal.decreases-read_links-links
decreases-read_links-links l = length l.cursor
