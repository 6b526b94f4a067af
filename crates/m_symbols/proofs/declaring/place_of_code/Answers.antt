use Rattle.std.proofs.Common.{◌≡◌, ℕ, ◌<◌, None, Some, map, length, get_or, refl, sym, ap, ◌∙◌, arith}
use Rattle.m_symbols.specs.declared.variable.Variable.{Variable}
use Rattle.m_symbols.proofs.Found.{code-none, code-some}
use Rattle.m_symbols.proofs.Indexed.{as_many, input_at}
use Rattle.m_symbols.proofs.declaring.place_of_code.Goals as goal

pub returns-in_err-number : goal.returns-in_err-number
returns-in_err-number c =
    let absent = rw c.requires.codes at (sym c.in_err-number.ensures.number) in
    c.from_residual.ensures ∙ sym (code-none c.args.code.now c.args.tables.now.variables.items absent)

pub index-variable-requires : goal.index-variable-requires
index-variable-requires c = omega (arith, c.in_ok-number.ensures.within, ap length c.requires.inputs, as_many c.args.tables.now c.requires)

pub index-requires : goal.index-requires
index-requires c = omega (
  arith,
  (input_at c.args.tables.now c.requires c.in_ok-number.number c.index-variable.result.now c.in_ok-number.ensures.within
      c.index-variable.ensures).1,
)

pub returns : goal.returns
returns c =
    let there = rw c.requires.codes at (sym c.in_ok-number.ensures.number) in
    let vs = c.args.tables.now.variables.items in
    let variable = (input_at c.args.tables.now c.requires c.in_ok-number.number c.index-variable.result.now c.in_ok-number.ensures.within
    c.index-variable.ensures).0 in
    ap (λ (v : Variable). Some v.item.place) (c.index.ensures ∙ ap (λ m. get_or vs m c.index.result.now) variable)
    ∙ sym (code-some c.args.code.now vs c.in_ok-number.number c.index.result.now there)
