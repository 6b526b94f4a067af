use Rattle.std.proofs.Common.{◌≡◌, ◌-◌, ◌*◌, ◌+◌, ◌∙◌, length, Err, ap, sym, arith}
use Rattle.household.specs.declared.cuts.TheConstants.{BETWEEN}
use Rattle.household.proofs.PartLemmas.{has_room, is_full, next_is, row_fails, row_meaning, reported, too_many}
use Rattle.household.proofs.parts.read_many.Goals as goal

pub returns-in_err-line : goal.returns-in_err-line
returns-in_err-line c =
    let rows = c.loop-records.rows in
    let next = next_is _ c.loop-records.records c.next_record.new.records _ c.in_ok-next_record.ensures c.if-branch.true in
    let full = is_full c.args.start c.args.many _ _ rows c.len.ensures c.len-in-loop-records.ensures c.loop-records-test.true c.in_err-line.ensures.0 in
    reported _ _ _ _ _ c.from_residual-in_err-line.ensures.1
    (λ n. sym c.loop-records.invariant.whole
    ∙ too_many c.args.codes.now c.args.columns.now (c.args.start * BETWEEN) (c.args.many * BETWEEN - length rows.items) rows.items _ _ _ next
    (omega (arith, full.0)) full.1
    ∙ ap Err (sym c.in_err-line.ensures.1))

pub returns-in_err-read_row : goal.returns-in_err-read_row
returns-in_err-read_row c =
    let rows = c.loop-records.rows in
    let next = next_is _ c.loop-records.records c.next_record.new.records _ c.in_ok-next_record.ensures c.if-branch.true in
    let at = has_room c.args.start c.args.many _ _ c.in_ok-line.line rows c.len.ensures c.len-in-loop-records.ensures c.loop-records-test.true
    c.in_ok-line.ensures in
    reported _ _ _ _ _ c.from_residual-in_err-read_row.ensures.1
    (λ n. sym c.loop-records.invariant.whole
    ∙ row_fails c.args.codes.now c.args.columns.now (c.args.start * BETWEEN) c.in_ok-line.line (c.args.many * BETWEEN - length rows.items) _ _ _ _ _ next
    (omega (arith, at.0)) at.1 at.2 (c.in_err-read_row.ensures n))

pub loop-records-preserved : goal.loop-records-preserved
loop-records-preserved c =
    let rows = c.loop-records.rows in
    let new = c.push.new.self in
    let next = next_is _ c.loop-records.records c.next_record.new.records _ c.in_ok-next_record.ensures c.if-branch.true in
    let at = has_room c.args.start c.args.many _ _ c.in_ok-line.line rows c.len.ensures c.len-in-loop-records.ensures c.loop-records-test.true
    c.in_ok-line.ensures in
    let long : length new.items ≡ length rows.items + 1 = omega (arith, c.in_ok-push.ensures.len, new.ok, rows.ok) in
    record {
      whole = sym (row_meaning c.args.codes.now c.args.columns.now (c.args.start * BETWEEN) c.in_ok-line.line (c.args.many * BETWEEN - length rows.items)
          (c.args.many * BETWEEN - length new.items)
          _ _ _ _ _ _ next (omega (arith, at.0, long)) at.1 at.2 c.in_ok-read_row.ensures c.in_ok-push.ensures.items)
          ∙ c.loop-records.invariant.whole;
      few = omega (arith, at.0, long);
    }
