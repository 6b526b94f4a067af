use Rattle.std.proofs.Common.{◌≡◌, ◌+◌, ◌<◌, ◌∙◌, ap, length, arith}
use Rattle.std.proofs.lemmas.List.{length-set}
use Rattle.m_cases.proofs.Numbered.{next_is, next_numbered}
use Rattle.m_cases.proofs.cases.numbered.Goals as goal

pub loop-i-preserved : goal.loop-i-preserved
loop-i-preserved c =
    let es = c.args.expected in
    let notes = c.args.notes in
    let all = c.loop-i.all.items in
    let i = c.loop-i.i in
    let read = c.index.result.now in
    let size : length all ≡ length es = c.loop-i.invariant.size in
    let lt : i < length es = let long : length c.into_vec-all.result.items ≡ length es = ap length c.into_vec-all.ensures in omega
    (arith, c.loop-i-test.true, c.len-i-end.ensures, c.into_vec-all.result.ok.0, long) in
    let same = c.index.ensures ∙ next_is notes es all i read c.loop-i.invariant.done lt in
    record {
      done = next_numbered notes es all i read (notes + read.0, read.1) c.loop-i.invariant.done lt (ap (λ (e : _). (notes + e.0, e.1)) same);
      size = length-set all i (notes + read.0, read.1) ∙ size;
    }
