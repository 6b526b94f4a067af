use Rattle.std.proofs.Common.{◌≡◌, suc, ◌-◌, subst, arith}
use Rattle.micro_m.specs.Values.{environment, picked, picked_value}
use Rattle.mpp_inline.specs.inner.Growth.{at, denoted, Along}
use Rattle.mpp_inline.specs.inner.Tables.{among_cells}
use Rattle.mpp_inline.proofs.TableLemmas.{table-first, table-next}
use Rattle.mpp_inline.proofs.tables.emit_table.Goals as goal

pub loop-left-init : goal.loop-left-init
loop-left-init c = record {
  step = λ s kn h. table-first c.args.env.now c.args.index c.args.first c.args.size (c.in_ok-number.ensures.step s h);
  size = omega (arith, c.in_ok-number.ensures.size);
}

pub loop-left-preserved : goal.loop-left-preserved
loop-left-preserved c =
    let b = c.args.b.now in
    let e = c.args.env.now in
    let n = c.loop-left.left - 1 in
    let is : c.loop-left.left ≡ suc n = omega (arith, c.loop-left-test.true) in
    record {
      step = λ s kn h. table-next e c.args.index c.args.first n
          (subst (λ m. Along b c.loop-left.b (λ inputs v. among_cells (environment (denoted b inputs e)) c.args.first (at b inputs c.args.index) m v)
          (λ inputs. picked_value (environment (denoted b inputs e)) (picked c.args.first c.args.size (at b inputs c.args.index))) c.loop-left.number) is
          (c.loop-left.invariant.step s kn h))
          c.in_ok-number-2.ensures.step c.look-cell.ensures s kn h;
      size = omega (arith, is, c.loop-left.invariant.size, c.in_ok-number-2.ensures.size);
    }
