use Rattle.std.proofs.Common.{◌<◌, ◌≤◌, ◌^◌, length, w64, arith}
use Rattle.std.specs.Int.{trailing_zeros}
use Rattle.std.proofs.lemmas.List.{length-map}
use Rattle.input_reads.specs.inner.Lists.{lists_in}
use Rattle.input_reads.proofs.BitLemmas.{cleared-less, lowest-has, put-more}
use Rattle.input_reads.proofs.lists.put_by_mask.Goals as goal

pub loop-rest-smaller : goal.loop-rest-smaller
loop-rest-smaller c =
    let rest = c.loop-rest.rest in
    let some : 0 < rest = omega (arith, c.loop-rest-test.true) in
    let fits : rest < 2 ^ 64 = omega (arith, c.loop-rest.auto.rest-fits) in
    let low = lowest-has rest some fits in
    cleared-less rest (trailing_zeros w64 rest) low.0 low.1

pub loop-rest-preserved : goal.loop-rest-preserved
loop-rest-preserved c =
    let rest = c.loop-rest.rest in
    let some : 0 < rest = omega (arith, c.loop-rest-test.true) in
    let fits : rest < 2 ^ 64 = omega (arith, c.loop-rest.auto.rest-fits) in
    let low = lowest-has rest some fits in
    let few : length (lists_in c.args.lists.now) ≤ 64 = omega (arith, c.requires, length-map c.args.lists.now (λ v. v.items)) in
    put-more c.args.mask rest c.args.n (trailing_zeros w64 rest) (lists_in c.args.lists.now) (lists_in c.loop-rest.lists) (lists_in c.put.new.lists) few low.0
    low.1
    c.in_ok-put.ensures c.loop-rest.invariant
