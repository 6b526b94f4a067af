use Rattle.std.proofs.Common.{◌+◌, ◌<◌, ℕ, List, length, get_or, [], ap, sym, ◌∙◌, arith}
use Rattle.value_sheet.specs.inner.Table.{row_in}
use Rattle.value_sheet.proofs.TableLemmas.{length-rows_in, row_is}
use Rattle.value_sheet.proofs.rows.Rows.row.Goals as goal

pub row_at-requires-clause-within : goal.row_at-requires-clause-within
row_at-requires-clause-within c =
    let s = c.self.inside in
    omega (arith, c.requires, ap length c.self.view_is, length-rows_in s.offsets.items s.targets.items, ap length c.deref.ensures.value)

pub row_at-requires-clause-ends : goal.row_at-requires-clause-ends
row_at-requires-clause-ends c =
    let s = c.self.inside in
    let within : c.args.source + 1 < length s.offsets.items = omega (
      arith,
      c.requires,
      ap length c.self.view_is,
      length-rows_in s.offsets.items
          s.targets.items,
    ) in
    rw (c.deref.ensures.value, c.deref-2.ensures.value) (c.self.invariant.ends c.args.source within)

pub returns : goal.returns
returns c =
    let s = c.self.inside in
    let within : c.args.source + 1 < length s.offsets.items = omega (
      arith,
      c.requires,
      ap length c.self.view_is,
      length-rows_in s.offsets.items
          s.targets.items,
    ) in
    c.row_at.ensures ∙ ap (λ (xs : List ℕ). row_in xs c.deref-2.result.now c.args.source) c.deref.ensures.value
    ∙ ap (λ (xs : List ℕ). row_in s.offsets.items xs c.args.source) c.deref-2.ensures.value
    ∙ sym (row_is s.offsets.items s.targets.items c.args.source within)
    ∙ ap (λ (rows : List (List ℕ)). get_or rows c.args.source []) c.self.view_is
