use Rattle.std.proofs.Common.{◌≡◌, ◌+◌, length, subst, sym, arith}
use Rattle.std.proofs.lemmas.List.{length-map}
use Rattle.input_reads.specs.inner.Lists.{lists_in, IsPut, AreLists}
use Rattle.input_reads.specs.inner.Masks.{mask_at}
use Rattle.input_reads.proofs.BitLemmas.{lists-more, whole}
use Rattle.input_reads.proofs.lists.lists_of.Goals as goal

pub loop-n-preserved : goal.loop-n-preserved
loop-n-preserved c =
    let masks = c.args.masks.now in
    let n = c.loop-n.n in
    let items = c.loop-n.lists.items in
    let new = c.put_by_mask.new.lists in
    let put : IsPut (mask_at masks n) 0 n (lists_in items) (lists_in new) =
    subst (λ vecs. IsPut (mask_at masks n) 0 n (lists_in vecs) (lists_in new)) c.deref_mut.ensures.value c.in_ok-put_by_mask.ensures in
    let many : length new ≡ length items = omega (arith, put.many, length-map new (λ v. v.items), length-map items (λ v. v.items)) in
    subst (λ vecs. AreLists masks (n + 1) c.args.count (lists_in vecs)) (sym (whole new items c.loop-n.lists.len many (omega (arith, c.loop-n.lists.ok.0))))
    (lists-more masks n c.args.count (lists_in items) (lists_in new) put c.loop-n.invariant)
