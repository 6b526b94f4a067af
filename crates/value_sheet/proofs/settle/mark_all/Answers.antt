use Rattle.std.proofs.Common.{◌<◌, length, get_or, true, ap, ◌∙◌, arith}
use Rattle.std.proofs.lemmas.List.{length-set}
use Rattle.dirty_set.specs.Members.{is_member}
use Rattle.value_sheet.proofs.MarkLemmas.{has_at, mark_more}
use Rattle.value_sheet.proofs.settle.mark_all.Goals as goal

pub insert-requires : goal.insert-requires
insert-requires c =
    omega (arith, c.requires (get_or c.args.row.now c.loop-k.k-index 0) (has_at c.args.row.now c.loop-k.k-index c.loop-k-test.true), c.loop-k.invariant.many)

pub loop-k-preserved : goal.loop-k-preserved
loop-k-preserved c =
    let t = get_or c.args.row.now c.loop-k.k-index 0 in
    let within : get_or c.args.row.now c.loop-k.k-index 0 < length c.loop-k.marks =
    omega (arith, c.requires t (has_at c.args.row.now c.loop-k.k-index c.loop-k-test.true), c.loop-k.invariant.many) in
    record {
      marks = λ k. ap (λ marks. is_member marks k) c.insert.ensures
          ∙ mark_more c.args.marks.now c.loop-k.marks c.args.row.now c.loop-k.k-index c.loop-k-test.true within c.loop-k.invariant.marks k;
      many = ap length c.insert.ensures ∙ length-set c.loop-k.marks t true ∙ c.loop-k.invariant.many;
    }
