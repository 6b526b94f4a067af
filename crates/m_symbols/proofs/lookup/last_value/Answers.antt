use Rattle.std.proofs.Common.{true, false, Some, refl, sym, ap, ◌∙◌, arith}
use Rattle.std.specs.Str.{bytes_eq}
use Rattle.m_symbols.proofs.Values.{kept}
use Rattle.m_symbols.proofs.lookup.last_value.Goals as goal
use Rattle.m_symbols.proofs.lookup.last_value.Goals.{then-eq, else-eq}

pub loop-name-preserved : goal.loop-name-preserved
loop-name-preserved c =
    let pair = c.loop-name-item.result in
    let tested = c.eq.ensures ∙ ap (λ n. bytes_eq c.args.attribute.now n) c.bytes.ensures in
    elim c.if-eq.branch [
      | then-eq w ↦ kept c.args.attribute.now c.args.pairs.now c.loop-name.name-index pair true c.loop-name.last c.if-eq.last _ c.loop-name-test.true
          c.loop-name-item.is (sym tested ∙ w.if-eq.true) w.last-is c.loop-name.invariant
      | else-eq w ↦ kept c.args.attribute.now c.args.pairs.now c.loop-name.name-index pair false c.loop-name.last c.if-eq.last _ c.loop-name-test.true
          c.loop-name-item.is (sym tested ∙ w.if-eq.false) w.last-is c.loop-name.invariant
    ]
