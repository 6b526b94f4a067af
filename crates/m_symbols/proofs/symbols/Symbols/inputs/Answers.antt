use Rattle.std.proofs.Common.{length, ap, ◌∙◌, arith}
use Rattle.m_symbols.specs.Declarations.{Declared, inputs_from}
use Rattle.m_symbols.proofs.Counts.{few_codes}
use Rattle.m_symbols.proofs.Indexed.{as_many}
use Rattle.m_symbols.proofs.symbols.Symbols.inputs.Goals as goal

pub overflow_cast-result : goal.overflow_cast-result
overflow_cast-result c = omega (arith, c.len.ensures, few_codes c.self.inside.tables c.self.invariant)

pub returns : goal.returns
returns c = c.len.ensures ∙ as_many c.self.inside.tables c.self.invariant ∙ ap (λ (d : Declared). length (inputs_from 0 d.variables)) c.self.view_is
