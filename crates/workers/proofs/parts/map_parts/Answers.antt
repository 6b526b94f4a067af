use Rattle.std.proofs.Common.{◌≡◌, ◌<◌, ◌≤◌, ◌*◌, ◌+◌, ◌-◌, ℕ, length, get_or, ap, ◌∙◌, arith, subst, sym}
use Rattle.std.specs.List.{range_with_len}
use Rattle.rayon.specs.Numbers.{nat_range}
use Rattle.rayon.proofs.ListFacts.{IfOk-then}
use Rattle.rayon.proofs.ToStd.{nat_range-All}
use Rattle.workers.specs.Parts.{MayGive, part_at}
use Rattle.workers.proofs.PartLemmas.{zipped_at, zipped_many}
use Rattle.workers.proofs.parts.map_parts.Goals as goal

pub collect-requires-clause-ready : goal.collect-requires-clause-ready
collect-requires-clause-ready g c κs within =
    let ends = c.into_par_iter.ensures in
    let inside = nat_range-All (λ n. n * c.args.size < length c.args.items.now) 0 c.part_count.result (λ n low high. c.part_count.ensures.inside n high) in
    rw (c.map.ensures.base, c.map.ensures.f, c.with_min_len.ensures.base, ends.0, ends.1)
    (λ k d lt. ((c.requires.size, inside k d lt, c.requires.accepts), λ y p. tt))

pub returns : goal.returns
returns g c =
    let ends = c.into_par_iter.ensures in
    let count = c.part_count.result in
    let items = c.args.items.now in
    let size = c.args.size in
    let Gives : ℕ → g.row.U.Denot → Type 0 = λ n made. MayGive g.F.Fn c.args.f.now (n * size) (part_at items size (n * size)) made in
    let whole : count - 0 ≡ count = omega arith in
    IfOk-then c.collect.result _ _ c.collect.ensures (λ v h.
    let chain = rw (c.map.ensures.base, c.map.ensures.f, c.with_min_len.ensures.base) at h.1 in
    let places = chain.1 ∙ (λ i. nat_range (ends.0 i) (ends.1 i)) ∙ ap (range_with_len 0) whole in
    let zipped = rw places at chain.2 in
    let many = zipped_many Gives 0 count h.0 zipped in
    rw h.2 (record {
      each = λ n d lt. let here : 0 + n ≡ n = omega arith in subst (λ k. Gives k (get_or h.0 n d)) here (zipped_at Gives 0 count h.0 zipped n d lt);
      inside = λ n lt. c.part_count.ensures.inside n (omega (arith, lt, many));
      reach = subst (λ k. length items ≤ k * size) (sym many) c.part_count.ensures.reach;
    }))
