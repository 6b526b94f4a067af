use Rattle.std.proofs.Common.{◌≡◌, ◌<◌, ◌∙◌, length, get_or, ap, Vec, arith}
use Rattle.std.specs.Vec.{with_items}
use Rattle.std.specs.declared.alloc.Global.{Global}
use Rattle.std.proofs.lemmas.List.{length-set, with_items_is}
use Rattle.std.proofs.lemmas.List.Elements.{All-set}
use Rattle.m_fixed.specs.declared.amount.Value.{Value}
use Rattle.m_batch.specs.inner.Rows.{row_inputs}
use Rattle.m_batch.proofs.PlaceLemmas.{values_next}
use Rattle.m_batch.proofs.rows.put_rows.Goals as goal

pub loop-r-preserved : goal.loop-r-preserved
loop-r-preserved c =
    let width = length c.args.places.now.inputs.items in
    let within : c.loop-r.r < length c.loop-r.block = omega (arith, c.loop-r-test.true, c.requires.many, c.loop-r.invariant.many) in
    let old = get_or c.loop-r.block c.loop-r.r c.index-block-r.result in
    let new = with_items old c.put_row.new.row in
    let same : length c.put_row.new.row ≡ length old.items = c.put_row.ensures.width ∙ ap length c.as_mut_slice.ensures.value in
    let is : new.items ≡ c.put_row.new.row = with_items_is old c.put_row.new.row (omega (arith, same, old.ok.0)) in
    record {
      many = length-set c.loop-r.block _ _ ∙ c.loop-r.invariant.many;
      width = All-set (λ (v : Vec Value Global). length v.items ≡ width) c.loop-r.block c.loop-r.r new
          (ap length is ∙ same ∙ c.loop-r.invariant.width c.loop-r.r c.index-block-r.result within) c.loop-r.invariant.width;
      values = values_next c.args.places.now.of.items c.args.rows.now c.loop-r.block c.loop-r.r c.index-rows-r.result new within c.loop-r-test.true
          c.index-rows-r.is
          (ap (row_inputs c.args.places.now.of.items) is ∙ c.put_row.ensures.values) c.loop-r.invariant.values;
    }
