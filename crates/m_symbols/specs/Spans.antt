-- The cells of a variable, without its declaration.
use Rattle.m_ast.specs.Items.{variable_size}
use Rattle.m_symbols.specs.declared.variable.Variable.{Variable}
use Rattle.m_symbols.specs.declared.spans.Span.{Span}

-- where the cells of a variable begin, and the size of a table: 1 and 3 for the table `T` of 3 cells after `A`
abbrev pub span_of : Variable → Span
span_of v = record { first_cell = v.first_cell; size = variable_size v.item }
