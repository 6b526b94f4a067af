use Rattle.std.proofs.Common.{◌≡◌, ◌+◌, ◌-◌, ◌<◌, ◌∙◌, length, arith}
use Rattle.input_reads.proofs.MaskLemmas.{spread-step}
use Rattle.input_reads.proofs.spread.spread_back.Goals as goal

pub loop-p-preserved : goal.loop-p-preserved
loop-p-preserved c =
    let p = c.loop-p.p in
    let some : 0 < p = c.loop-p-test.true in
    let next : p ≡ (p - 1) + 1 = omega (arith, some) in
    record {
      within = omega (arith, c.loop-p.invariant.within);
      masks = c.add_from.ensures.masks.size ∙ c.loop-p.invariant.masks;
      found = c.add_from.ensures.found.size ∙ c.loop-p.invariant.found;
      spread = λ wanted start.
          spread-step c.args.known.now c.args.nodes.now (length c.args.found.now) wanted p (p - 1) c.loop-p.masks c.loop-p.found c.add_from.new.masks
          c.add_from.new.found
          c.requires.nodes next c.add_from.ensures.masks c.add_from.ensures.found (c.loop-p.invariant.spread wanted start);
    }
