use Rattle.std.proofs.Common.{◌≡◌, ℕ, ◌<◌, None, Some, map, length, get_or, refl, sym, ap, ◌∙◌, arith}
use Rattle.m_ast.specs.declared.item.ErrorItem.{ErrorItem}
use Rattle.m_symbols.proofs.Found.{beside-none, beside-some}
use Rattle.m_symbols.proofs.declaring.place_of_error.Goals as goal

pub returns-in_err-number : goal.returns-in_err-number
returns-in_err-number c =
    let absent = rw c.requires.error_names at (sym c.in_err-number.ensures.number) in
    c.from_residual.ensures ∙ sym (beside-none (λ (v : ErrorItem). v.name) (λ (v : ErrorItem). v.place) c.args.name.now c.args.tables.now.errors.items absent)

pub returns : goal.returns
returns c =
    let there = rw c.requires.error_names at (sym c.in_ok-number.ensures.number) in
    let place = λ (v : ErrorItem). v.place in
    ap (λ v. Some (place v)) c.index.ensures
    ∙ sym (beside-some (λ (v : ErrorItem). v.name) place c.args.name.now c.args.tables.now.errors.items c.in_ok-number.number c.index.result.now there)
