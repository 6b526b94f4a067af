use Rattle.std.proofs.Common.{◌≡◌, ℕ, ◌<◌, None, Some, map, length, get_or, refl, sym, ap, ◌∙◌, arith}
use Rattle.m_symbols.specs.declared.variable.Variable.{Variable}
use Rattle.m_symbols.proofs.Found.{beside-none, beside-some}
use Rattle.m_symbols.proofs.declaring.place_of_name.Goals as goal

pub returns-in_err-number : goal.returns-in_err-number
returns-in_err-number c =
    let absent = rw c.requires.names at (sym c.in_err-number.ensures.number) in
    c.from_residual.ensures ∙ sym (beside-none (λ (v : Variable). v.item.name) (λ (v : Variable). v.item.place) c.args.name.now
    c.args.tables.now.variables.items absent)

pub returns : goal.returns
returns c =
    let there = rw c.requires.names at (sym c.in_ok-number.ensures.number) in
    let place = λ (v : Variable). v.item.place in
    ap (λ v. Some (place v)) c.index.ensures
    ∙ sym (beside-some (λ (v : Variable). v.item.name) place c.args.name.now c.args.tables.now.variables.items c.in_ok-number.number c.index.result.now there)
