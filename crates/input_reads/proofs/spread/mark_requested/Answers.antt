use Rattle.std.proofs.Common.{◌<◌, ap, ◌∙◌, length, refl, arith}
use Rattle.std.proofs.lemmas.List.{length-set}
use Rattle.input_reads.specs.inner.Masks.{has, number_at}
use Rattle.input_reads.proofs.ListLemmas.{all-from}
use Rattle.input_reads.proofs.MaskLemmas.{marked-more, none-marked, has-zero}
use Rattle.input_reads.proofs.spread.mark_requested.Goals as goal

pub loop-k-init : goal.loop-k-init
loop-k-init c = (refl, none-marked c.args.wanted.now c.args.masks.now (λ k x. ap (λ m. has m k) (c.requires.none x) ∙ has-zero k))

pub loop-k-preserved : goal.loop-k-preserved
loop-k-preserved c =
    let wanted = c.args.wanted.now in
    let masks = c.loop-k.masks in
    let k = c.loop-k.k in
    let lt : k < length wanted = c.loop-k-test.true in
    let few : k < 64 = omega (arith, c.requires.few, lt) in
    let here = all-from (λ p. p < length c.args.masks.now) wanted c.requires.within k 0 lt in
    let within : number_at wanted k < length masks = omega (arith, here, c.loop-k.invariant.0) in
    (length-set masks (number_at wanted k) _ ∙ c.loop-k.invariant.0, marked-more wanted masks k (number_at wanted k) refl within few c.loop-k.invariant.1)
