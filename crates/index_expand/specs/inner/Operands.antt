-- The expansion of links and members, element by element, and sums of operands.
use Rattle.std.specs.Prelude.{ℕ, List, [], ◌∷◌, Option}
use Rattle.m_fixed.specs.declared.operator.Op.TheVariants.{Add}
use Rattle.m_fixed.specs.declared.amount.Value.TheVariants.{Undef}
use Rattle.m_ast.specs.PlainView.{links_of}
use Rattle.m_ast.specs.declared.plain_term.PLink.{PLink}
use Rattle.m_ast.specs.declared.plain_term.PMember.{PMember}
use Rattle.m_ast.specs.declared.term.Link.{Link}
use Rattle.m_ast.specs.declared.term.Member.{Member}
use Rattle.m_ast.specs.Syntax.{Syntax, lit, chain}
use Rattle.loop_values.specs.Letters.{Letters}
use Rattle.index_expand.specs.Terms.{expanded}

abbrev pub link_expanded : Option ℕ → Letters → Link → PLink
link_expanded cell_number letters link = record { op = link.op; term = expanded cell_number letters link.term }

abbrev pub member_expanded : Option ℕ → Letters → Member → PMember
member_expanded cell_number letters member = record { low = expanded cell_number letters member.low; high = expanded cell_number letters member.high }

-- an instance of a loop's body, as a further operand of a sum
abbrev pub instance_link : Option ℕ → Syntax → Letters → PLink
instance_link cell_number body bound = record { op = Add; term = expanded cell_number bound body }

-- a chain; without links, its first operand
abbrev pub chain_of : Syntax → List PLink → Syntax
chain_of a [] = a
chain_of a (b ∷ rest) = chain a (links_of (b ∷ rest))

-- the sum of operands
abbrev pub links_sum : List PLink → Syntax
links_sum [] = lit Undef
links_sum (a ∷ rest) = chain_of a.term rest
