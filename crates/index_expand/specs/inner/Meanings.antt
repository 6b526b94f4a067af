-- The meaning of a term: its expansion as a function of the bindings of letters and `X`. Terms of
-- the same meaning have the same expansion in each instance.
use Rattle.std.specs.Prelude.{ℕ, Option}
use Rattle.m_ast.specs.declared.plain_term.PLink.{PLink}
use Rattle.m_ast.specs.declared.plain_term.PMember.{PMember}
use Rattle.m_ast.specs.declared.term.Link.{Link}
use Rattle.m_ast.specs.declared.term.Member.{Member}
use Rattle.m_ast.specs.Syntax.{Syntax}
use Rattle.loop_values.specs.Letters.{Letters}
use Rattle.index_expand.specs.Terms.{expanded}
use Rattle.index_expand.specs.inner.Operands.{link_expanded, member_expanded}

abbrev pub meaning : Syntax → Option ℕ → Letters → Syntax
meaning a = λ cell_number letters. expanded cell_number letters a

abbrev pub link_meaning : Link → Option ℕ → Letters → PLink
link_meaning link = λ cell_number letters. link_expanded cell_number letters link

abbrev pub member_meaning : Member → Option ℕ → Letters → PMember
member_meaning member = λ cell_number letters. member_expanded cell_number letters member
