use Rattle.std.proofs.Common.{ap, sym, ◌∙◌}
use Rattle.m_ast.specs.Items.{size_in}
use Rattle.index_expand.proofs.TableLemmas.{size_none, size_some}
use Rattle.index_expand.proofs.definitions.size_of.Goals as goal

pub returns-in-None : goal.returns-in-None
returns-in-None c = sym (size_none c.args.name.now c.args.symbols.now.variables (sym c.in-None.ensures.number))

pub returns-in-Computed : goal.returns-in-Computed
returns-in-Computed c =
    sym (size_some c.args.name.now c.args.symbols.now.variables c.in-Some.v c.variable.result.now (sym c.in-Some.ensures.number) c.variable.ensures
    ∙ ap size_in c.in-Computed.is)

pub returns-in-Input : goal.returns-in-Input
returns-in-Input c =
    sym (size_some c.args.name.now c.args.symbols.now.variables c.in-Some.v c.variable.result.now (sym c.in-Some.ensures.number) c.variable.ensures
    ∙ ap size_in c.in-Input.is)

pub returns-in-Constant : goal.returns-in-Constant
returns-in-Constant c =
    sym (size_some c.args.name.now c.args.symbols.now.variables c.in-Some.v c.variable.result.now (sym c.in-Some.ensures.number) c.variable.ensures
    ∙ ap size_in c.in-Constant.is)
